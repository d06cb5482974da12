-- Exports, as they are written.
use Rattle.std.proofs.Common.{◌≡◌, ℕ, List, [], ◌∷◌, ◌++◌, pos, refl}
use Rattle.std.specs.Prelude.{codes, Option, Some, None}
use Rattle.std.specs.Fmt.{digits}
use Rattle.json.specs.Print.{escape_byte}
use Rattle.serde_json.specs.Data.{Data, string, object, member, no_members}
use Rattle.an_base.specs.Moment.{date_time_after, days_of_months, moment_text}
use Rattle.an_policy.specs.Audience.{anonymous}
use Rattle.an_policy.specs.declared.group.Group.{Group}
use Rattle.an_policy.specs.declared.group.Group.TheVariants.{Public, Private, Named}
use Rattle.an_policy.specs.declared.inner.Inner.{Inner}
use Rattle.an_policy.specs.declared.inner.Inner.TheVariants as inner
use Rattle.an_state.specs.State.{ManifestState, NoteState, LiveNote, State}
use Rattle.an_state.specs.View.{View, view_of}
use Rattle.an_export.specs.Export.{exported}

unfoldable exports_on_literals : Unit {0}
unfolding exported moment_text date_time_after days_of_months escape_byte digits
exports_on_literals = tt

abbrev tree : List ℕ → Data
tree text = object (member (codes "label") (string text) no_members)

-- a manifest that was changed a minute after it was made
abbrev manifest : List ℕ → Group → ManifestState
manifest name group = record {
  name = name;
  version = 2;
  group = group;
  live = Some (record {
    created = pos 1_714_557_600;
    modified = Some (pos 1_714_557_660);
    tree = tree (codes "a \"b\"");
  });
}

abbrev live : List ℕ → Inner → LiveNote
live on group = record {
  manifest = on;
  group = group;
  creator = codes "http://a.example/readers/mara";
  created = pos 1_714_557_660;
  modified = None;
  tree = tree (codes "c");
}

abbrev note : List ℕ → Option LiveNote → NoteState
note name kept = record { owner = codes "mara"; name = name; version = 3; live = kept }

abbrev view : List ManifestState → List NoteState → View
view manifests notes = record { who = None; manifests = manifests; notes = notes; seen = [] }

row-nothing : exported (view [] []) ≡ []
unfolding exports_on_literals
row-nothing = refl

row-two_annotations : exported
    (view (manifest (codes "m1") Public ∷ [])
    (note (codes "n1") (Some (live (codes "m1") inner.Public))
    ∷ note (codes "n2") (Some (live (codes "m1") inner.Private)) ∷ [])) ≡
    codes
    "2024-05-01T10:00:00Z - PUT /manifests/m1?version=1&group=public {\"label\":\"a \\\"b\\\"\"}\n"
    ++ (
    codes
    "2024-05-01T10:01:00Z mara PUT /annotations/mara/n1?version=1&manifest=m1&group=public {\"label\":\"c\"}\n" ++
    codes
    "2024-05-01T10:01:00Z mara PUT /annotations/mara/n2?version=1&manifest=m1&group=private {\"label\":\"c\"}\n")
unfolding exports_on_literals
row-two_annotations = refl

row-two_groups : exported
    (view (manifest (codes "m1") Public ∷ [])
    (note (codes "n1") (Some (live (codes "m1") (inner.Names (codes "a" ∷ codes "b" ∷ []))))
    ∷ [])) ≡
    codes
    "2024-05-01T10:00:00Z - PUT /manifests/m1?version=1&group=public {\"label\":\"a \\\"b\\\"\"}\n" ++
    codes
    "2024-05-01T10:01:00Z mara PUT /annotations/mara/n1?version=1&manifest=m1&group=a,b {\"label\":\"c\"}\n"
unfolding exports_on_literals
row-two_groups = refl

row-two_manifests : exported
    (view (manifest (codes "m2") (Named (codes "team")) ∷ manifest (codes "m1") Private ∷ []) []) ≡
    codes
    "2024-05-01T10:00:00Z - PUT /manifests/m2?version=1&group=team {\"label\":\"a \\\"b\\\"\"}\n" ++
    codes
    "2024-05-01T10:00:00Z - PUT /manifests/m1?version=1&group=private {\"label\":\"a \\\"b\\\"\"}\n"
unfolding exports_on_literals
row-two_manifests = refl

-- of a state: a private manifest with its annotation, a private annotation and a deleted one aren't
-- told to everybody
abbrev state : State
state = record {
  readers = [];
  manifests = manifest (codes "m1") Public ∷ manifest (codes "m2") Private ∷ [];
  notes =
      note (codes "n1") (Some (live (codes "m2") inner.Public))
      ∷ note (codes "n2") (Some (live (codes "m1") inner.Private))
      ∷ note (codes "n3") None ∷ note (codes "n4") (Some (live (codes "m1") inner.Public)) ∷ [];
  activities = [];
}

row-hidden : exported (view_of state anonymous) ≡
    codes
    "2024-05-01T10:00:00Z - PUT /manifests/m1?version=1&group=public {\"label\":\"a \\\"b\\\"\"}\n" ++
    codes
    "2024-05-01T10:01:00Z mara PUT /annotations/mara/n4?version=1&manifest=m1&group=public {\"label\":\"c\"}\n"
unfolding exports_on_literals
row-hidden = refl
