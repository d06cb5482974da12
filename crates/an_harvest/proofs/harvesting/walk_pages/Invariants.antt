use Rattle.std.proofs.Common.{◌≤◌, ◌↔◌, ℕ, List}
use Rattle.an_harvest.specs.Feed.{Change}
use Rattle.an_harvest.specs.Live.{Tells}
use Rattle.an_harvest.specs.Walk.{Walk, ComesTo, pages, followed_by}
use Rattle.an_harvest.specs.declared.fetch.Got.{Got}
use Rattle.an_harvest.proofs.harvesting.walk_pages.Given as goal

abbrev pub invariant-pages : goal.invariant-pages
invariant-pages g l =
    let answers = g.F.Fetch.answers l.fn.fetch in
    record {
      above : l.known ≤ l.end;
      noted : (later : List Change) × Tells later l.latest × ((outcome : Walk)
          → ComesTo answers (pages l.base l.known l.total l.end l.target) outcome
          → ComesTo answers (pages l.base l.known l.total l.total l.fn.last)
          (followed_by later outcome));
      same : (other : List ℕ) (got : Got)
          → g.F.Fetch.answers l.fetch other got ↔ g.F.Fetch.answers l.fn.fetch other got;
      kept : g.F.Fetch.faults l.fn.fetch ≤ g.F.Fetch.faults l.fetch;
    }

abbrev pub decreases-pages : goal.decreases-pages
decreases-pages g l = l.end
