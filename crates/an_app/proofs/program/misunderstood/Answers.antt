use Rattle.std.proofs.Common.{subst}
use Rattle.an_base.specs.Faults.{Rises}
use Rattle.an_lines.specs.Status.{TellsReport}
use Rattle.an_lines.specs.declared.status.Status.TheVariants.{Misunderstood}
use Rattle.an_app.proofs.program.misunderstood.Goals as goal

pub returns-clause-told : goal.returns-clause-told
returns-clause-told g c =
    let Failed =
    Rises (g.L.Link.write_faults c.args.link.now) (g.L.Link.write_faults c.tell_report.new.link) in
    subst (λ text. TellsReport (record { status = Misunderstood; text = text }) Failed
    (g.L.Link.traffic c.args.link.now)
    (g.L.Link.traffic c.tell_report.new.link) c.tell_report.result)
    c.as_bytes.ensures.value c.tell_report.ensures.tells
