use Rattle.std.proofs.Common.{◌≡◌, ◌+◌, ◌≤◌, ◌++◌, length, vec_len, vec_capacity}
use Rattle.std.specs.Vec.Iter.{into_iter_items}
use Rattle.an_keep.specs.Cells.{put_changes, Part}
use Rattle.an_keep.proofs.cells.Cells.put_changes.Given as goal

-- what is left makes of the cells so far what all changes make of the first, and each part has room
-- for it
abbrev pub invariant-loop-change : goal.invariant-loop-change
invariant-loop-change l =
    (goal.iterator-loop-change).can_next l.change-iterator ×
    (goal.iterator-loop-change).is_finite l.change-iterator ×
    (put_changes (into_iter_items l.change-iterator)
    (l.self-inside.rows.items ++ l.self-inside.log.items)
    ≡ put_changes l.changes (l.initial.self-inside.rows.items ++ l.initial.self-inside.log.items)) ×
    (vec_len l.self-inside.rows + length (into_iter_items l.change-iterator)
    ≤ vec_capacity l.self-inside.rows) ×
    (vec_len l.self-inside.log + length (into_iter_items l.change-iterator)
    ≤ vec_capacity l.self-inside.log) ×
    Part l.self-inside.rows.items l.self-inside.log.items
