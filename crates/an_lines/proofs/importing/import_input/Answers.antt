use Rattle.std.proofs.Common.{refl}
use Rattle.an_lines.proofs.ImportLemmas.{leaves_all, on_err}
use Rattle.an_lines.proofs.importing.import_input.Goals as goal

pub returns-in_err-import_report-clause-front : goal.returns-in_err-import_report-clause-front
returns-in_err-import_report-clause-front g c =
    on_err _ _ (leaves_all _ _ _ _ c.in_ok-imported.ensures.lines refl)
