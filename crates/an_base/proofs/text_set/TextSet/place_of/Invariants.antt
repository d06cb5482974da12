use Rattle.std.proofs.Common.{◌-◌, ◌≤◌, length}
use Rattle.std.specs.List.{prefix_len}
use Rattle.an_base.specs.TextSet.{Ascend, is_below}
use Rattle.an_base.proofs.text_set.TextSet.place_of.Given as goal

-- the place is from the lower bound up to the upper one
abbrev pub invariant-loop-low : goal.invariant-loop-low
invariant-loop-low l = record {
  low : l.low ≤ prefix_len (is_below l.text) l.self;
  high : prefix_len (is_below l.text) l.self ≤ l.high;
  within : l.high ≤ length l.self;
  order : Ascend l.self;
}

abbrev pub decreases-loop-low : goal.decreases-loop-low
decreases-loop-low l = l.high - l.low
