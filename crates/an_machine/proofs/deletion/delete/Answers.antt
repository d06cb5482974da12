use Rattle.std.proofs.Common.{sym, subst}
use Rattle.an_base.specs.Outcome.{Gives}
use Rattle.an_policy.specs.Audience.{identity}
use Rattle.an_machine.specs.Accepted.{deletion}
use Rattle.an_machine.specs.Step.{judged}
use Rattle.an_machine.specs.declared.asked.Asked.TheVariants.{Deletion}
use Rattle.an_machine.specs.declared.command.Refused.TheVariants.{Memory}
use Rattle.an_machine.proofs.deletion.delete.Goals as goal

pub returns-in-Note : goal.returns-in-Note
returns-in-Note c =
    subst (λ object. Gives (λ e. e) Memory c.delete_note.result
    (judged c.args.book.now.state (Deletion object c.args.version)
    (deletion c.args.book.now.state (identity c.args.who.now) c.args.at c.args.version object)))
    (sym c.in-Note.is) c.delete_note.ensures
