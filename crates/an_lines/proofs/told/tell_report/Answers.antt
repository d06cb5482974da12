use Rattle.an_lines.proofs.StatusLemmas.{TellsReport-tells, reads_little-none}
use Rattle.an_lines.proofs.told.tell_report.Goals as goal

pub returns-clause-tells : goal.returns-clause-tells
returns-clause-tells g c =
    TellsReport-tells _ _ _ _ _ _ c.requires.told c.tell.ensures.front c.tell.ensures.tells

pub returns-clause-bounded : goal.returns-clause-bounded
returns-clause-bounded g c = reads_little-none _ _ _ c.tell.ensures.front
