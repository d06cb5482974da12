use Rattle.std.proofs.Common.{[], sym, ap, ◌∙◌}
use Rattle.std.proofs.lemmas.List.Elements.{All-head}
use Rattle.an_state.specs.State.{State}
use Rattle.an_snapshot.specs.Listing.{IsFiled}
use Rattle.an_snapshot.proofs.StepLemmas.{notes-other}
use Rattle.an_snapshot.proofs.put.put_step.Goals as goal

pub returns-in-Other-clause-notes : goal.returns-in-Other-clause-notes
returns-in-Other-clause-notes c =
    c.requires.notes
    ∙ sym (ap (λ (t : State). t.notes) c.apply.ensures.state
    ∙ notes-other c.args.book.now.state c.in-Other.row (rw c.in-Other.is at c.requires.same))

pub returns-in-Note-clause-filed : goal.returns-in-Note-clause-filed
returns-in-Note-clause-filed c = λ s classes all before.
    c.put_note.ensures.filed s classes
    (All-head (IsFiled s classes) c.in-Note.filed [] (rw c.in-Note.is at all)) before
