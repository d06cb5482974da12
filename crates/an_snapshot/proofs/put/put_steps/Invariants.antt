use Rattle.std.proofs.Common.{◌≡◌, ◌≤◌, ◌+◌, All, List, length, map}
use Rattle.std.specs.List.{flat_map}
use Rattle.std.specs.Vec.Iter.{into_iter_items}
use Rattle.an_policy.specs.declared.group.Audience.{Audience}
use Rattle.an_state.specs.Entries.{with_rows}
use Rattle.an_state.specs.State.{State}
use Rattle.an_listed.specs.Room.{HasRoom}
use Rattle.an_listed.specs.declared.filed.Filed.{Filed}
use Rattle.an_snapshot.specs.Listing.{IsFiled}
use Rattle.an_snapshot.specs.Steps.{IsSame, filed_in, row_of_step}
use Rattle.an_snapshot.proofs.put.put_steps.Given as goal

-- what is left makes of the state so far what all steps make of the first, and there is room for
-- it; what was filed stays so
abbrev pub invariant-loop-step : goal.invariant-loop-step
invariant-loop-step l =
    let left = into_iter_items l.step-iterator in
    record {
      next : (goal.iterator-loop-step).can_next l.step-iterator;
      finite : (goal.iterator-loop-step).is_finite l.step-iterator;
      state : with_rows (map row_of_step left) l.book.state
          ≡ with_rows (map row_of_step l.fn.steps.items) l.fn.book.state;
      room : length left ≤ l.book.room;
      spent : l.book.room + length l.fn.steps.items ≡ l.fn.book.room + length left;
      lists : HasRoom (flat_map filed_in left) l.listed;
      notes : map (λ (f : Filed). f.note) l.listed.rows ≡ l.book.state.notes;
      same : All IsSame left;
      filed : (s : State) (classes : List Audience)
          → All (IsFiled s classes) (flat_map filed_in l.fn.steps.items)
          → All (IsFiled s classes) l.fn.listed.rows
          → All (IsFiled s classes) (flat_map filed_in left)
          × All (IsFiled s classes) l.listed.rows;
    }
