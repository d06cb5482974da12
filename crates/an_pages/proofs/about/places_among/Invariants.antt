use Rattle.std.proofs.Common.{◌≡◌, ◌+◌, ◌++◌, drop}
use Rattle.std.specs.Prelude.{filter}
use Rattle.an_pages.specs.Canvas.{is_row_about, passes_at}
use Rattle.an_pages.proofs.about.places_among.Given as goal

-- the places that are left and pass stand behind those so far, and each place took a step
abbrev pub invariant-loop-place : goal.invariant-loop-place
invariant-loop-place g l =
    let test = passes_at (is_row_about l.canvas l.region) (g.T.Look.state l.look).notes in
    (l.found.items ++ filter test (drop l.place-index l.places) ≡ filter test l.places)
    × (l.steps ≡ l.fn.steps + l.place-index)
