use Rattle.std.proofs.Common.{arith}
use Rattle.an_base.proofs.MomentForm.{digits_at}
use Rattle.an_base.proofs.moment.number_at.Goals as goal

pub bounds-bytes-at : goal.bounds-bytes-at
bounds-bytes-at c =
    omega (arith, digits_at c.args.bytes.now c.args.at c.requires.form c.requires.digits)
