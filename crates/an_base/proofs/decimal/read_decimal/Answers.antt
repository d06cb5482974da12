use Rattle.std.proofs.Common.{rules}
use Rattle.an_base.proofs.DecimalLemmas.{decimal_of-unread}
use Rattle.an_base.proofs.decimal.read_decimal.Goals as goal

pub returns-in-Err-clause-value : goal.returns-in-Err-clause-value
returns-in-Err-clause-value c =
    decimal_of-unread c.args.greatest c.args.text.now c.in-Err.field-0 (search rules) (search rules)
    (search rules)
