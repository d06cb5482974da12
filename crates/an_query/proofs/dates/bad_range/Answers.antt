use Rattle.std.proofs.Common.{lit<, rules, tests}
use Rattle.std.proofs.lemmas.Iterator.Consumers.{YieldsList-at, YieldsList-from_filter}
use Rattle.std.proofs.lemmas.Iterator.Search.{position_from_yields_List}
use Rattle.std.proofs.lemmas.Iterator.Splits.{YieldsList-from_str_split}
use Rattle.std.specs.Prelude.{is_none, length, nat_lt}
use Rattle.an_query.specs.Dates.{range_of}
use Rattle.an_query.proofs.dates.bad_range.Goals as goal

pub returns : goal.returns
returns c =
    position_from_yields_List (λ piece. is_none (range_of piece)) _ _ c.position.result
    c.position.ensures.ran
    (YieldsList-from_filter _ (λ piece. nat_lt 0 (length piece))
    (YieldsList-at c.filter.ensures.source
    (YieldsList-from_str_split 32 c.args.value.now
    (lit< tt) c.split.ensures.text c.split.ensures.has_more c.split.ensures.pattern))
    c.filter.ensures.closure (λ x r q k. search (rules, tests)))
    (λ x b q k. search (rules, tests))
