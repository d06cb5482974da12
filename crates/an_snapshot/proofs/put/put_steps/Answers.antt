use Rattle.std.proofs.Common.{◌≡◌, ◌∷◌, List, arith}
use Rattle.std.specs.List.{flat_map}
use Rattle.std.specs.Vec.Iter.{into_iter_items}
use Rattle.std.proofs.lemmas.List.Elements.{All-head, All-tail}
use Rattle.an_state.specs.Entries.{with_row}
use Rattle.an_snapshot.specs.Listing.{IsFiled}
use Rattle.an_snapshot.specs.Steps.{IsSame, filed_in, row_of_step}
use Rattle.an_snapshot.specs.declared.planned_row.PlannedRow.{PlannedRow}
use Rattle.an_snapshot.proofs.AllLemmas.{All-front, All-back}
use Rattle.an_snapshot.proofs.StepLemmas.{step-room}
use Rattle.an_snapshot.proofs.put.put_steps.Goals as goal

pub put_step-requires-clause-lists : goal.put_step-requires-clause-lists
put_step-requires-clause-lists c =
    let left : List PlannedRow = into_iter_items c.next.new.self in
    let next : into_iter_items c.loop-step.step-iterator ≡ c.in-Some.step ∷ left =
    c.in-Some.ensures.steps.0 in
    step-room c.in-Some.step (flat_map filed_in left) c.loop-step.listed
    (rw next at c.loop-step.invariant.lists)

pub put_step-requires-clause-same : goal.put_step-requires-clause-same
put_step-requires-clause-same c =
    let left : List PlannedRow = into_iter_items c.next.new.self in
    let next : into_iter_items c.loop-step.step-iterator ≡ c.in-Some.step ∷ left =
    c.in-Some.ensures.steps.0 in
    All-head IsSame c.in-Some.step left (rw next at c.loop-step.invariant.same)

pub loop-step-preserved : goal.loop-step-preserved
loop-step-preserved c =
    let left : List PlannedRow = into_iter_items c.next.new.self in
    let next : into_iter_items c.loop-step.step-iterator ≡ c.in-Some.step ∷ left =
    c.in-Some.ensures.steps.0 in
    let room = rw next at c.loop-step.invariant.room in
    let spent = rw next at c.loop-step.invariant.spent in
    let state : c.put_step.new.book.state
    ≡ with_row c.loop-step.book.state (row_of_step c.in-Some.step) = c.put_step.ensures.state in
    let taken = c.put_step.ensures.room in
    record {
      next = tt;
      finite = tt;
      state = rw state (rw next at c.loop-step.invariant.state);
      room = omega arith;
      spent = omega arith;
      lists =
          c.put_step.ensures.rest (flat_map filed_in left) (rw next at c.loop-step.invariant.lists);
      notes = c.put_step.ensures.notes;
      same = All-tail IsSame c.in-Some.step left (rw next at c.loop-step.invariant.same);
      filed = λ s classes all before.
          let both = c.loop-step.invariant.filed s classes all before in
          let coming = rw next at both.0 in (
            All-back (IsFiled s classes) (filed_in c.in-Some.step) (flat_map filed_in left) coming,
            c.put_step.ensures.filed s classes
                (All-front (IsFiled s classes) (filed_in c.in-Some.step)
                (flat_map filed_in left) coming) both.1,
          );
    }
