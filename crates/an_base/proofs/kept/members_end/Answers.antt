use Rattle.std.proofs.Common.{arith}
use Rattle.an_base.proofs.KeptLemmas.{end_of_long, end_of_short}
use Rattle.an_base.proofs.kept.members_end.Goals as goal

pub returns-then-text-gt2 : goal.returns-then-text-gt2
returns-then-text-gt2 c =
    record { end = λ tree is text. end_of_long tree c.args.text.now is text (omega arith) }

pub returns-else-text-gt2 : goal.returns-else-text-gt2
returns-else-text-gt2 c =
    record { end = λ tree is text. end_of_short tree c.args.text.now is text (omega arith) }
