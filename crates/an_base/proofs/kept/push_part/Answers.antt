use Rattle.std.proofs.Common.{arith}
use Rattle.an_base.proofs.KeptLemmas.{first_part}
use Rattle.an_base.proofs.kept.push_part.Goals as goal

pub returns-then-to-gt0 : goal.returns-then-to-gt0
returns-then-to-gt0 c = record {
  part =
      λ order within. first_part c.args.text.now c.args.from c.args.to c.args.out.items _ _
      (omega arith) (omega arith) c.in_ok-push.ensures.items
      (c.in_ok-out.ensures.part (omega arith) within);
}
