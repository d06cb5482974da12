-- How many steps a completion takes. A step is one fetch of an annotation's row. The caller's view
-- tells the number, so that nothing hidden does.
use Rattle.std.specs.Prelude.{ℕ, List, length, filter, is_some, if◌then◌else◌, Option}
use Rattle.std.specs.List.{sum_by}
use Rattle.an_policy.specs.Audience.{Identity}
use Rattle.an_state.specs.State.{State}
use Rattle.an_state.specs.View.{View, is_on, manifest_in, sought_places}
use Rattle.an_search.specs.Wanted.{wants_nothing}
use Rattle.an_search.specs.declared.wanted.Wanted.{Wanted}
use Rattle.an_complete.specs.Ask.{AskRecord}
use Rattle.an_complete.specs.Complete.{filters_of}

-- with a filter each annotation of the view on the manifest is fetched once; without one the counts
-- of the terms tell all
abbrev pub filter_cost : View → List ℕ → Wanted → ℕ
filter_cost view manifest filters =
    if wants_nothing filters then 0 else length (filter (is_on manifest) view.notes)

abbrev pub terms_cost : View → List ℕ → AskRecord → ℕ
terms_cost view manifest ask = filter_cost view manifest (filters_of ask)

-- the same on several manifests
abbrev pub filter_cost_on : View → Wanted → List (List ℕ) → ℕ
filter_cost_on view filters manifests =
    sum_by (λ manifest. filter_cost view manifest filters) manifests

abbrev pub terms_cost_on : View → List (List ℕ) → AskRecord → ℕ
terms_cost_on view manifests ask = filter_cost_on view (filters_of ask) manifests

-- the steps of a completion: none without the manifest
abbrev pub complete_cost : View → List ℕ → AskRecord → ℕ
complete_cost view manifest ask =
    if is_some (manifest_in view manifest) then terms_cost view manifest ask else 0

-- ---- for private clauses

-- with a filter each annotation is fetched that the caller may read, on this manifest, or where
-- none is named on any that it may read
abbrev pub sought_cost : State → Identity → Option (List ℕ) → Wanted → ℕ
sought_cost s who manifest filters =
    if wants_nothing filters then 0 else length (sought_places s who manifest)
