use Rattle.an_lines.proofs.SplitLemmas.{lines_of-some, lines_of-none}
use Rattle.an_lines.proofs.split.first_line.Goals as goal

pub returns-in-None-clause-first : goal.returns-in-None-clause-first
returns-in-None-clause-first c = lines_of-none _ c.if-is_empty.ensures c.in-None.ensures

pub returns-in-Some-clause-first : goal.returns-in-Some-clause-first
returns-in-Some-clause-first c = lines_of-some _ _ _ c.without_return.ensures c.in-Some.ensures
