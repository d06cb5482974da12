use Rattle.std.proofs.Common.{Err, OnErr, ap, subst, ◌∙◌}
use Rattle.an_machine.specs.Step.{step}
use Rattle.an_state.specs.Commands.{version_of}
use Rattle.an_lines.specs.Import.{import_written}
use Rattle.an_lines.specs.Shown.{StaysOrLeads}
use Rattle.an_lines.specs.Written.{written_by}
use Rattle.an_lines.proofs.ImportLemmas.{on_err, write-lost}
use Rattle.an_lines.proofs.import_line.import_write.Goals as goal

pub returns-clause-lost : goal.returns-clause-lost
returns-clause-lost g c =
    let s = c.args.desk.now.state in
    let command = c.args.command in
    let version = version_of command in
    let lost = on_err c.unwritten.result _
    (write-lost c.args.counts version _ _ _ c.in-Err.error c.in-Err.ensures.leaves
    (λ is. c.write.ensures.memory (c.in-Err.is ∙ ap Err is))) in
    subst (λ caller. OnErr c.unwritten.result
    (StaysOrLeads
    (import_written c.args.counts s (written_by s version (step s c.args.stamp.0 caller command))) s
    c.write.new.self.state))
    c.writer-caller.ensures lost
