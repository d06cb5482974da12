use Rattle.std.proofs.Common.{◌≤◌, ◌-◌, length, take}
use Rattle.an_snapshot.specs.Changes.{numbers_in}
use Rattle.an_snapshot.specs.PairLists.{AreFiled}
use Rattle.an_snapshot.proofs.changes.file_places.Given as goal

-- the first changes are filed
abbrev pub invariant-loop-lists : goal.invariant-loop-lists
invariant-loop-lists l = record {
  within : l.lists.count ≤ length l.rows;
  filed : AreFiled (numbers_in (take l.lists.count l.rows)) l.lists;
}

abbrev pub decreases-loop-lists : goal.decreases-loop-lists
decreases-loop-lists l = length l.rows - l.lists.count
