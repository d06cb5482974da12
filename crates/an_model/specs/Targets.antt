-- What an annotation is about (Web Annotation Data Model, sections 3.2 and 4).
use Rattle.std.specs.Prelude.{ℕ, List, [], ◌∷◌, ◌==◌, Bool, true, false, length, nat_lt, codes}
use Rattle.std.specs.Prelude.{is_none, is_some, if◌then◌else◌, Option, Some, None, option_map}
use Rattle.std.specs.Prelude.{option_and_then}
use Rattle.std.specs.List.{before_first, after_first, filter_map}
use Rattle.std.specs.Option.{option_or}
use Rattle.std.specs.Result.{result_ok}
use Rattle.serde_json.specs.Data.{Data, Items, no_items, item}
use Rattle.serde_json.specs.Find.{get, as_str}
use Rattle.an_base.specs.Items.{items_list, first_bad, trees_in}
use Rattle.an_base.specs.Outcome.{only_if}
use Rattle.an_selectors.specs.Region.{region_of}
use Rattle.an_selectors.specs.Selector.{selector_of}
use Rattle.an_selectors.specs.declared.selector.Selector.{Selector}
use Rattle.an_selectors.specs.declared.selector.Selector.TheVariants.{Fragment, Quote, Position}
use Rattle.an_selectors.specs.declared.selector.Selector.TheVariants.{Other}
use Rattle.an_model.specs.declared.kept.KeptTarget.{KeptTarget}
use Rattle.an_model.specs.declared.target.Target.{Target}

-- ---- a resource

-- an IRI is a text that isn't empty
abbrev pub iri_of : Data → Option (List ℕ)
iri_of tree = option_and_then (only_if (λ text. nat_lt 0 (length text))) (as_str tree)

-- the IRI of a resource that is described by an object
abbrev pub id_of : Data → Option (List ℕ)
id_of tree = option_and_then iri_of (get (codes "id") tree)

-- the IRI that stands for a resource, or that of its description
abbrev pub resource_of : Data → Option (List ℕ)
resource_of tree = option_or (iri_of tree) (id_of tree)

-- ---- a target

abbrev pub iri_from : Option Data → Data → Option (List ℕ)
iri_from None tree = resource_of tree
iri_from (Some source) tree = resource_of source

-- the IRI of a target, with its fragment: that of the source of a specific resource (section 4), or
-- its own
abbrev pub target_iri : Data → Option (List ℕ)
target_iri tree = iri_from (get (codes "source") tree) tree

-- the selectors of a specific resource; a target without a source has none
abbrev pub selector_trees : Data → Items
selector_trees tree =
    if is_some (get (codes "source") tree) then trees_in (codes "selector") tree else no_items

abbrev pub is_selector : Data → Bool
is_selector tree = is_some (result_ok (selector_of tree))

abbrev pub selectors_of : Data → List Selector
selectors_of tree =
    filter_map (λ selector. result_ok (selector_of selector)) (items_list (selector_trees tree))

-- the values of the fragment selectors
abbrev pub fragment_in : Selector → Option (List ℕ)
fragment_in (Fragment value conforms) = Some value
fragment_in (Quote exact prefix suffix) = None
fragment_in (Position start end) = None
fragment_in Other = None

abbrev pub first_or : List ℕ → List (List ℕ) → List ℕ
first_or otherwise [] = otherwise
first_or otherwise (text ∷ texts) = text

-- the fragment that says the region: that of the first fragment selector, or without one what
-- follows the first `#` of the IRI
abbrev pub fragment_of : List ℕ → List Selector → List ℕ
fragment_of iri selectors =
    first_or (after_first (λ b. b == 35) iri) (filter_map fragment_in selectors)

-- a target with this IRI: its source is the IRI up to the first `#`
abbrev pub target_at : List Selector → List ℕ → Target
target_at selectors iri = record {
  source = before_first (λ b. b == 35) iri;
  selectors = selectors;
  region = region_of (fragment_of iri selectors);
}

abbrev pub target_of : Data → Option Target
target_of tree = option_map (target_at (selectors_of tree)) (target_iri tree)

-- ---- the targets of an annotation: at least one

abbrev pub target_trees : Data → Items
target_trees tree = trees_in (codes "target") tree

abbrev pub is_target : Data → Bool
is_target tree = is_some (target_iri tree)

abbrev pub is_empty : Items → Bool
is_empty no_items = true
is_empty (item tree items) = false

-- the place of the first target that is missing or malformed
unfoldable pub bad_target : Data → Option ℕ
bad_target tree =
    if is_empty (target_trees tree) then Some 0 else first_bad is_target (target_trees tree)

-- all selectors of the target are well formed
abbrev pub has_good_selectors : Data → Bool
has_good_selectors tree = is_none (first_bad is_selector (selector_trees tree))

-- the place of the first target that has a malformed selector
unfoldable pub bad_selector : Data → Option ℕ
bad_selector tree = first_bad has_good_selectors (target_trees tree)

unfoldable pub targets_of : Data → List Target
targets_of tree = filter_map target_of (items_list (target_trees tree))

-- ---- what a row keeps of a target

abbrev pub kept_target : Target → KeptTarget
kept_target target = record { source = target.source; region = target.region }
