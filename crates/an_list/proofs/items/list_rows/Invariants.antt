use Rattle.std.proofs.Common.{◌≡◌, ◌+◌, ◌≤◌, ◌*◌, take}
use Rattle.std.specs.Prelude.{slice_get}
use Rattle.std.specs.List.{filter_map}
use Rattle.an_list.specs.Listed.{HasListed}
use Rattle.an_list.proofs.items.list_rows.Given as goal

-- the annotations at the places so far were written, with ten marks each at most, and each place
-- took a step
abbrev pub invariant-loop-place : goal.invariant-loop-place
invariant-loop-place g l =
    HasListed l.base l.terms l.page
    (filter_map (slice_get (g.T.Look.state l.look).notes) (take l.place-index l.places)) l.listed
    × (l.listed.marks.count ≤ 10 * l.place-index)
    × (l.steps ≡ l.fn.steps + l.place-index)
