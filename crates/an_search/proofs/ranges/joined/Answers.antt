use Rattle.std.proofs.Common.{sym, ap, ◌∙◌}
use Rattle.std.proofs.lemmas.Result.{IfOk-weaker}
use Rattle.std.specs.Prelude.{slice_get}
use Rattle.an_search.proofs.RangeLemmas.{joins, joins_none}
use Rattle.an_search.specs.Ordered.{joined_from}
use Rattle.an_search.proofs.ranges.joined.Goals as goal

pub returns-in-Some : goal.returns-in-Some
returns-in-Some c =
    let first = c.in-Some.ensures.value ∙ ap (λ ranges. slice_get ranges 0) c.deref.ensures.value in
    IfOk-weaker c.joined_from.result _ _ (λ joined is.
    joins c.args.ranges.now c.in_ok-ordered.ordered.items joined c.in-Some.first.now
    (sym first) c.in_ok-ordered.ensures.order c.in_ok-ordered.ensures.same
    (is ∙ ap (joined_from c.in-Some.first.now.to) c.as_slice.ensures.value)) c.joined_from.ensures

pub returns : goal.returns
returns c =
    let none = c.in-None.ensures.value ∙ ap (λ ranges. slice_get ranges 0) c.deref.ensures.value in
    joins_none c.args.ranges.now c.in_ok-ordered.ordered.items _ none c.in_ok-ordered.ensures.same
    c.new.ensures.empty
