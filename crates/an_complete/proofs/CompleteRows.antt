-- Completions at `http://a.example`, as they are written.
use Rattle.std.proofs.Common.{◌≡◌, ℕ, List, [], ◌∷◌, ◌++◌, pos, refl, Err}
use Rattle.std.specs.Prelude.{codes, Some, None}
use Rattle.std.specs.Fmt.{digits}
use Rattle.caseless.proofs.Computing.{caseless}
use Rattle.form_urlencoded.specs.Form.{byte_serialize}
use Rattle.json.specs.Print.{escape_byte}
use Rattle.percent_encoding.specs.Percent.{percent_encode_byte}
use Rattle.serde_json.specs.Data.{string, object, member, no_members}
use Rattle.serde_json.specs.Written.{compact_text}
use Rattle.unicode_normalization.proofs.Computing.{unicode_normalization}
use Rattle.unicode_segmentation.proofs.Computing.{unicode_segmentation}
use Rattle.an_policy.specs.declared.group.Group.TheVariants.{Public}
use Rattle.an_policy.specs.declared.inner.Inner.TheVariants as inner
use Rattle.an_terms.specs.Terms.{term_of, placed, occurrences_of}
use Rattle.an_model.specs.Bodies.{texts_of, note_occurrences, note_terms}
use Rattle.an_state.specs.State.{ManifestState, NoteState}
use Rattle.an_base.specs.Totals.{capped, totals_of}
use Rattle.an_state.specs.View.{View}
use Rattle.an_list.specs.Site.{Site}
use Rattle.an_query.specs.Filters.{FiltersRecord}
use Rattle.an_complete.specs.Ask.{AskRecord}
use Rattle.an_complete.specs.Cost.{complete_cost}
use Rattle.an_complete.specs.Complete.{asked_terms, ask_form, ask_iri, complete_of, terms_page}
use Rattle.an_list.specs.declared.error.ReadError.TheVariants.{Absent}

unfoldable completions_on_literals : Unit {0}
unfolding asked_terms ask_form terms_page totals_of capped note_terms note_occurrences texts_of
    occurrences_of placed term_of caseless unicode_normalization unicode_segmentation byte_serialize
    percent_encode_byte escape_byte digits
completions_on_literals = tt

abbrev site : Site
site = record { base = codes "http://a.example"; size = 10 }

abbrev manifest : ManifestState
manifest = record {
  name = codes "m1";
  version = 1;
  group = Public;
  live = Some (record { created = pos 0; modified = None; tree = object no_members });
}

abbrev note : List ℕ → List ℕ → NoteState
note name text = record {
  owner = codes "mara";
  name = name;
  version = 1;
  live = Some (record {
    manifest = codes "m1";
    group = inner.Public;
    creator = codes "http://a.example/readers/mara";
    created = pos 0;
    modified = None;
    tree = object (member (codes "bodyValue") (string text) no_members);
  });
}

-- a view of one manifest with these annotations
abbrev view : List NoteState → View
view notes = record { who = None; manifests = manifest ∷ []; notes = notes; seen = [] }

abbrev unfiltered : FiltersRecord
unfiltered = record { motivation = None; date = None; user = None }

abbrev ask : AskRecord
ask = record { q = codes "her"; min = Some 3; filters = unfiltered; ignored = [] }

row-iri : ask_iri site.base (codes "m1") ask ≡ codes "http://a.example/autocomplete/m1?q=her&min=3"
unfolding completions_on_literals
row-iri = refl

row-iri_of_all : ask_iri site.base (codes "m1") (record ask {
  q = codes "a b";
  filters = record unfiltered { motivation = Some []; user = Some (codes "x/y") };
})
    ≡ codes "http://a.example/autocomplete/m1?q=a+b&min=3&motivation=&user=x%2Fy"
unfolding completions_on_literals
row-iri_of_all = refl

row-absent : complete_of site (view []) (codes "m9") ask ≡ Err Absent
unfolding completions_on_literals
row-absent = refl

-- ---- the terms

abbrev herons : List NoteState
herons = note (codes "n1") (codes "heron") ∷ note (codes "n2") (codes "heron heron") ∷ []

row-both : asked_terms (view herons) (codes "m1") ask
    ≡ record { term = codes "heron"; total = 3 } ∷ []
unfolding completions_on_literals
row-both = refl

row-first_alone : asked_terms (view (note (codes "n1") (codes "heron") ∷ [])) (codes "m1") ask ≡ []
unfolding completions_on_literals
row-first_alone = refl

row-folded : asked_terms (view (note (codes "n1") (codes "Two Herons") ∷ [])) (codes "m1")
    (record ask { q = codes "HER"; min = None }) ≡ record { term = codes "herons"; total = 1 } ∷ []
unfolding completions_on_literals
row-folded = refl

row-another_user : asked_terms (view herons) (codes "m1") (record ask {
  filters = record unfiltered { user = Some (codes "http://a.example/readers/tom") };
}) ≡ []
unfolding completions_on_literals
row-another_user = refl

-- ---- steps

row-no_filter : complete_cost (view herons) (codes "m1") ask ≡ 0
unfolding completions_on_literals
row-no_filter = refl

row-filter : complete_cost (view herons) (codes "m1") (record ask {
  filters = record unfiltered { user = Some (codes "http://a.example/readers/tom") };
}) ≡ 2
unfolding completions_on_literals
row-filter = refl

-- a filter without a piece lets all pass
row-empty_filter : complete_cost (view herons) (codes "m1")
    (record ask { filters = record unfiltered { user = Some (codes " ") } }) ≡ 0
unfolding completions_on_literals
row-empty_filter = refl

-- ---- the page

row-no_terms :
    compact_text (terms_page (codes "http://a.example/autocomplete/m1?q=her&min=3") [] []) ≡ (
    codes "{\"@context\":\"http://iiif.io/api/search/2/context.json\"," ++ (
    codes
    "\"id\":\"http://a.example/autocomplete/m1?q=her&min=3\",\"items\":[],\"type\":\"TermPage\"}"))
unfolding completions_on_literals
row-no_terms = refl

row-terms : compact_text (terms_page
    (codes "http://a.example/autocomplete/m1?q=her") (codes "page" ∷ [])
    (record { term = codes "heron"; total = 3 } ∷ record { term = codes "hers"; total = 1 } ∷ []))
    ≡ (
    codes "{\"@context\":\"http://iiif.io/api/search/2/context.json\"," ++ (
    codes "\"id\":\"http://a.example/autocomplete/m1?q=her\",\"ignored\":[\"page\"]," ++ (
    codes
    "\"items\":[{\"total\":3,\"value\":\"heron\"},{\"total\":1,\"value\":\"hers\"}],\"type\":\"TermPage\"}")))
unfolding completions_on_literals
row-terms = refl
