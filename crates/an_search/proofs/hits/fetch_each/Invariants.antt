use Rattle.std.proofs.Common.{◌≡◌, ◌+◌}
use Rattle.an_search.proofs.hits.fetch_each.Given as goal

-- each place so far took a step
abbrev pub invariant-loop-place : goal.invariant-loop-place
invariant-loop-place g l = l.steps ≡ l.fn.steps + l.place-index
