-- How many steps searches take.
use Rattle.std.proofs.Common.{◌≡◌, ℕ, List, [], ◌∷◌, pos, refl}
use Rattle.std.specs.Prelude.{codes, Option, Some, None}
use Rattle.caseless.proofs.Computing.{caseless}
use Rattle.serde_json.specs.Data.{string, object, member, no_members}
use Rattle.unicode_normalization.proofs.Computing.{unicode_normalization}
use Rattle.unicode_segmentation.proofs.Computing.{unicode_segmentation}
use Rattle.an_model.specs.Bodies.{texts_of, note_occurrences, note_terms}
use Rattle.an_policy.specs.Audience.{anonymous}
use Rattle.an_policy.specs.declared.group.Group.TheVariants.{Public}
use Rattle.an_policy.specs.declared.inner.Inner.{Inner}
use Rattle.an_policy.specs.declared.inner.Inner.TheVariants as inner
use Rattle.an_search.specs.Cost.{candidates, search_cost}
use Rattle.an_query.specs.Query.{QueryRecord}
use Rattle.an_search.specs.Search.{hits}
use Rattle.an_list.specs.Site.{Site}
use Rattle.an_state.specs.State.{ManifestState, NoteState, State}
use Rattle.an_state.specs.View.{view_of}
use Rattle.an_terms.specs.Terms.{term_of, terms_of, placed, occurrences_of}

unfoldable costs_on_literals : Unit {0}
unfolding candidates hits note_terms note_occurrences texts_of terms_of occurrences_of placed
    term_of caseless unicode_normalization unicode_segmentation
costs_on_literals = tt

abbrev site : Site
site = record { base = codes "http://a.example"; size = 2 }

abbrev manifest : ManifestState
manifest = record {
  name = codes "m1";
  version = 1;
  group = Public;
  live = Some (record { created = pos 0; modified = None; tree = object no_members });
}

abbrev note : List ℕ → Inner → List ℕ → NoteState
note name group text = record {
  owner = codes "mara";
  name = name;
  version = 1;
  live = Some (record {
    manifest = codes "m1";
    group = group;
    creator = codes "http://a.example/readers/mara";
    created = pos 0;
    modified = None;
    tree = object (member (codes "bodyValue") (string text) no_members);
  });
}

abbrev state : State
state = record {
  readers = [];
  manifests = manifest ∷ [];
  notes =
      note (codes "n1") inner.Public (codes "grey heron")
      ∷ note (codes "n2") inner.Private (codes "heron")
      ∷ note (codes "n3") inner.Public (codes "heron")
      ∷ note (codes "n4") inner.Public (codes "egret")
      ∷ note (codes "n5") inner.Public (codes "heron") ∷ [];
  activities = [];
}

abbrev search : Option (List ℕ) → ℕ → QueryRecord
search q page = record {
  q = q;
  filters = record { motivation = None; date = None; user = None };
  page = page;
  ignored = [];
}

-- three that everybody may read have the word, and one of them stands on the second page
row-second_page :
    search_cost site (view_of state anonymous) (codes "m1") (search (Some (codes "heron")) 2) ≡ 4
unfolding costs_on_literals
row-second_page = refl

row-past_the_last :
    search_cost site (view_of state anonymous) (codes "m1") (search (Some (codes "heron")) 3) ≡ 3
unfolding costs_on_literals
row-past_the_last = refl

-- the first word tells what is looked at
row-first_word :
    search_cost site (view_of state anonymous) (codes "m1") (search (Some (codes "grey heron")) 1)
    ≡ 2
unfolding costs_on_literals
row-first_word = refl

row-other_word_first :
    search_cost site (view_of state anonymous) (codes "m1") (search (Some (codes "heron grey")) 1)
    ≡ 4
unfolding costs_on_literals
row-other_word_first = refl

-- without a word all that the caller may read is looked at
row-no_word : search_cost site (view_of state anonymous) (codes "m1") (search None 1) ≡ 6
unfolding costs_on_literals
row-no_word = refl

row-no_manifest : search_cost site (view_of state anonymous) (codes "m9") (search None 1) ≡ 0
unfolding costs_on_literals
row-no_manifest = refl
