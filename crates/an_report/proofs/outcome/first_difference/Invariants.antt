use Rattle.std.proofs.Common.{◌≡◌, ◌-◌, ◌≤◌, length, take}
use Rattle.an_report.proofs.outcome.first_difference.Given as goal

-- what stands before this place is the same in both
abbrev pub invariant-loop-at : goal.invariant-loop-at
invariant-loop-at l =
    (l.at ≤ length l.due) × (l.at ≤ length l.found) × (take l.at l.due ≡ take l.at l.found)

abbrev pub decreases-loop-at : goal.decreases-loop-at
decreases-loop-at l = length l.due - l.at
