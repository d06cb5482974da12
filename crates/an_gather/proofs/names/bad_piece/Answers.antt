use Rattle.std.proofs.Common.{lit<, rules, tests}
use Rattle.std.proofs.lemmas.Iterator.Consumers.{YieldsList-at, YieldsList-from_filter}
use Rattle.std.proofs.lemmas.Iterator.Search.{position_from_yields_List}
use Rattle.std.proofs.lemmas.Iterator.Splits.{YieldsList-from_str_split}
use Rattle.std.specs.Prelude.{length, nat_lt, not}
use Rattle.an_base.specs.Name.{is_name}
use Rattle.an_gather.proofs.names.bad_piece.Goals as goal

pub returns : goal.returns
returns c =
    position_from_yields_List (λ piece. not (is_name piece)) _ _ c.position.result
    c.position.ensures.ran
    (YieldsList-from_filter _ (λ piece. nat_lt 0 (length piece))
    (YieldsList-at c.filter.ensures.source
    (YieldsList-from_str_split 32 c.args.value.now
    (lit< tt) c.split.ensures.text c.split.ensures.has_more c.split.ensures.pattern))
    c.filter.ensures.closure (λ x r q k. search (rules, tests)))
    (λ x b q k. search (rules, tests))
