-- How many steps they take. A step is one fetch of an annotation's row. The caller's view says the
-- number, so that nothing hidden does.
use Rattle.std.specs.Prelude.{ℕ}
use Rattle.an_complete.specs.Cost.{terms_cost_on}
use Rattle.an_list.specs.Site.{Site}
use Rattle.an_search.specs.Gathered.{search_cost_on}
use Rattle.an_search.specs.Wanted.{given_pieces}
use Rattle.an_state.specs.View.{View}
use Rattle.an_gather.specs.Chosen.{chosen}
use Rattle.an_gather.specs.Gather.{GatherAskRecord, GatherRecord}

-- on each of the manifests what a search there fetches to find, and each annotation on the page
abbrev pub gather_search_cost : Site → View → GatherRecord → ℕ
gather_search_cost site view gather =
    search_cost_on site view (chosen view (given_pieces gather.manifests)) gather.query

-- on each of the manifests what a completion takes there
abbrev pub gather_complete_cost : View → GatherAskRecord → ℕ
gather_complete_cost view gather =
    terms_cost_on view (chosen view (given_pieces gather.manifests)) gather.ask
