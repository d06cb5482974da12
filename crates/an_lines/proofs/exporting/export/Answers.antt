use Rattle.std.proofs.Common.{ap, sym, subst, ◌∙◌, option_map}
use Rattle.an_base.specs.Faults.{Rises}
use Rattle.an_export.specs.Export.{exported}
use Rattle.an_lines.specs.Export.{export_report, view_named}
use Rattle.an_lines.specs.Status.{TellsReport}
use Rattle.an_lines.specs.declared.status.Status.TheVariants.{NoReader}
use Rattle.an_lines.proofs.ExportLemmas.{unnamed}
use Rattle.an_lines.proofs.StatusLemmas.{TellsReport-nothing, reads_little-nothing}
use Rattle.an_lines.proofs.exporting.export.Goals as goal

pub returns-in-Ok-None-clause-exports : goal.returns-in-Ok-None-clause-exports
returns-in-Ok-None-clause-exports g c =
    let by = c.args.by.now in
    let told = c.tell_report-in-Ok-None in
    let Failed =
    Rises (g.L.Link.write_faults c.args.link.now) (g.L.Link.write_faults told.new.link) in
    let old = g.L.Link.traffic c.args.link.now in
    let new = g.L.Link.traffic told.new.link in
    let nobody =
    sym c.in-Ok-None.field-0-is ∙ c.in-Ok-None.ensures
    ∙ ap (λ s. option_map exported (view_named s by))
    (c.look.ensures.state c.requires.nothing_waits) in
    subst (λ report. TellsReport report Failed old new told.result)
    (unnamed (view_named c.args.desk.now.state by) nobody)
    (subst
    (λ text. TellsReport (record { status = NoReader; text = text }) Failed old new told.result)
    c.as_bytes.ensures.value told.ensures.tells)

pub returns-in-Err-clause-exports : goal.returns-in-Err-clause-exports
returns-in-Err-clause-exports g c =
    TellsReport-nothing (export_report c.args.desk.now.state c.args.by.now) _
    (g.L.Link.traffic c.args.link.now)

pub returns-in-Err-clause-bounded : goal.returns-in-Err-clause-bounded
returns-in-Err-clause-bounded g c = reads_little-nothing (g.L.Link.traffic c.args.link.now)
