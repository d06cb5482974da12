-- Comments on `two grey herons` at `http://a.example`, as their pages are written.
use Rattle.std.proofs.Common.{◌≡◌, ℕ, List, [], ◌∷◌, ◌++◌, pos, refl, Ok, Err}
use Rattle.std.specs.Prelude.{codes, Some, None}
use Rattle.std.specs.Fmt.{digits}
use Rattle.std.specs.Str.{chars}
use Rattle.json.specs.Print.{escape_byte}
use Rattle.serde_json.specs.Data.{Data, number, unsigned, string, array, object, no_items, item, member, no_members}
use Rattle.an_selectors.specs.Places.{places_of_quote}
use Rattle.an_model.specs.Bodies.{texts_of}
use Rattle.an_model.specs.Targets.{targets_of}
use Rattle.an_policy.specs.declared.group.Group.TheVariants.{Public}
use Rattle.an_policy.specs.declared.inner.Inner.TheVariants as inner
use Rattle.an_state.specs.State.{ManifestState, NoteState}
use Rattle.an_state.specs.View.{View}
use Rattle.an_list.specs.Site.{Site}
use Rattle.an_list.specs.declared.error.ReadError.TheVariants.{Absent, NoPage}
use Rattle.an_pages.specs.Container.{notes_on}
use Rattle.an_anchor.specs.Comments.{anchors_of, anchors_text, anchors_tree, orphans_of, orphans_text, orphans_tree, targets_on}
use Rattle.an_anchor.specs.Cost.{anchors_cost, orphans_cost}

unfoldable comments_on_literals : Unit {0}
unfolding anchors_of anchors_text anchors_tree orphans_of orphans_text orphans_tree targets_on
    notes_on targets_of texts_of places_of_quote chars escape_byte digits
comments_on_literals = tt

abbrev site : Site
site = record { base = codes "http://a.example"; size = 10 }

abbrev manifest : ManifestState
manifest = record {
  name = codes "m1";
  version = 1;
  group = Public;
  live = Some (record { created = pos 0; modified = None; tree = object no_members });
}

abbrev note : List ℕ → List ℕ → Data → NoteState
note owner name tree = record {
  owner = owner;
  name = name;
  version = 1;
  live = Some (record {
    manifest = codes "m1";
    group = inner.Public;
    creator = codes "http://a.example/readers/mara";
    created = pos 0;
    modified = None;
    tree = tree;
  });
}

-- what is transcribed, on a canvas
abbrev transcription : List ℕ → NoteState
transcription text =
    note (codes "mara") (codes "t1")
    (object (member (codes "bodyValue") (string text)
    (member (codes "target") (string (codes "http://a.example/canvas")) no_members)))

-- a comment on it, by a quote and a position
abbrev comment : NoteState
comment = note (codes "ivo") (codes "c1")
    (object (member (codes "target") (object
    (member (codes "selector") (array (item (object
    (member (codes "exact") (string (codes "herons"))
    (member (codes "prefix") (string (codes "grey "))
    (member (codes "type") (string (codes "TextQuoteSelector")) no_members))))
    (item (object
    (member (codes "end") (number (unsigned 15))
    (member (codes "start") (number (unsigned 9))
    (member (codes "type") (string (codes "TextPositionSelector")) no_members)))) no_items)))
    (member (codes "source") (string (codes "http://a.example/annotations/mara/t1")) no_members)))
    no_members))

-- a view of one manifest with these annotations
abbrev view : List NoteState → View
view notes = record { who = None; manifests = manifest ∷ []; notes = notes; seen = [] }

abbrev item_of : List ℕ → List ℕ → List ℕ
item_of places state =
    codes "{\"comment\":\"http://a.example/annotations/ivo/c1\",\"places\":["
    ++ (places ++ (codes "],\"state\":\"" ++ (state ++ codes "\",\"target\":0}")))

row-exact : anchors_of site (view (transcription (codes "two grey herons") ∷ comment ∷ []))
    (codes "mara") (codes "t1") 1 ≡ Ok
    (codes "{\"anchors\":["
    ++ (item_of (codes "{\"end\":15,\"start\":9,\"text\":0}") (codes "exact")
    ++ codes
    "],\"id\":\"http://a.example/annotations/mara/t1/anchors?page=1\",\"pages\":1,\"total\":1}"))
unfolding comments_on_literals
row-exact = refl

row-moved : anchors_of site (view (transcription (codes "the two grey herons") ∷ comment ∷ []))
    (codes "mara") (codes "t1") 1 ≡ Ok
    (codes "{\"anchors\":["
    ++ (item_of (codes "{\"end\":19,\"start\":13,\"text\":0}") (codes "moved")
    ++ codes
    "],\"id\":\"http://a.example/annotations/mara/t1/anchors?page=1\",\"pages\":1,\"total\":1}"))
unfolding comments_on_literals
row-moved = refl

row-past_the_last : anchors_of site (view (transcription (codes "two grey herons") ∷ comment ∷ []))
    (codes "mara") (codes "t1") 2 ≡ Err (NoPage 1)
unfolding comments_on_literals
row-past_the_last = refl

row-absent : anchors_of site (view (comment ∷ [])) (codes "mara") (codes "t1") 1 ≡ Err Absent
unfolding comments_on_literals
row-absent = refl

row-uncommented : anchors_of site (view (comment ∷ [])) (codes "ivo") (codes "c1") 1
    ≡ Ok (codes
    "{\"anchors\":[],\"id\":\"http://a.example/annotations/ivo/c1/anchors?page=1\",\"pages\":1,\"total\":0}")
unfolding comments_on_literals
row-uncommented = refl

-- ---- orphans

abbrev orphan_page : List ℕ
orphan_page =
    codes "{\"id\":\"http://a.example/manifests/m1/orphans?page=1\",\"orphans\":["
    ++ (item_of [] (codes "orphan") ++ codes "],\"pages\":1,\"total\":1}")

row-lost : orphans_of site (view (transcription (codes "two swans") ∷ comment ∷ [])) (codes "m1") 1
    ≡ Ok orphan_page
unfolding comments_on_literals
row-lost = refl

row-hidden : orphans_of site (view (comment ∷ [])) (codes "m1") 1 ≡ Ok orphan_page
unfolding comments_on_literals
row-hidden = refl

row-none_lost :
    orphans_of site (view (transcription (codes "two grey herons") ∷ comment ∷ [])) (codes "m1") 1
    ≡ Ok (codes
    "{\"id\":\"http://a.example/manifests/m1/orphans?page=1\",\"orphans\":[],\"pages\":1,\"total\":0}")
unfolding comments_on_literals
row-none_lost = refl

row-no_manifest : orphans_of site (view (comment ∷ [])) (codes "m2") 1 ≡ Err Absent
unfolding comments_on_literals
row-no_manifest = refl

-- ---- steps

row-steps : anchors_cost (view (transcription (codes "two grey herons") ∷ comment ∷ []))
    (codes "mara") (codes "t1") ≡ 2
unfolding comments_on_literals
row-steps = refl

row-no_steps : anchors_cost (view (comment ∷ [])) (codes "mara") (codes "t1") ≡ 0
unfolding comments_on_literals
row-no_steps = refl

row-steps_of_orphans :
    orphans_cost (view (transcription (codes "two swans") ∷ comment ∷ [])) (codes "m1") ≡ 2
unfolding comments_on_literals
row-steps_of_orphans = refl
