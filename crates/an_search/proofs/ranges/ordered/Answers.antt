use Rattle.std.proofs.Common.{rules, sym, ap, ◌∙◌}
use Rattle.std.proofs.lemmas.List.Sorted.{answers_always, list_any-IsPermutation}
use Rattle.std.specs.List.{list_any}
use Rattle.an_query.specs.Dates.{is_in}
use Rattle.an_query.specs.declared.dates.DateRange.{DateRange}
use Rattle.an_search.proofs.RangeLemmas.{sorted_in_order}
use Rattle.an_search.proofs.ranges.ordered.Goals as goal

pub returns-clause-order : goal.returns-clause-order
returns-clause-order c =
    sorted_in_order _ (c.sort_unstable_by_key.ensures.sorted (λ (range : DateRange). range.from)
    (answers_always _ _ _ (λ f a r g h. search rules)))

pub returns-clause-same : goal.returns-clause-same
returns-clause-same c = λ moment.
    sym (list_any-IsPermutation (is_in moment) _ _ c.sort_unstable_by_key.ensures.permutation)
    ∙ ap (list_any (is_in moment)) c.in_ok-ordered.ensures.items
