use Rattle.std.proofs.Common.{arith}
use Rattle.an_message.proofs.LengthLemmas.{number-next}
use Rattle.an_message.proofs.length.number_of.Goals as goal

pub loop-digit-preserved : goal.loop-digit-preserved
loop-digit-preserved c =
    let next =
    number-next c.args.digits.now c.loop-digit.number c.loop-digit.digit-index
    c.loop-digit.invariant.value c.loop-digit.invariant.small (omega arith) c.requires.digits in
    rw c.from.ensures record { value = next.0; small = next.1 }
