use Rattle.std.proofs.Common.{◌++◌, ◌∷◌, [], map, sym, ap₂, subst, ◌∙◌, string_bytes}
use Rattle.an_base.specs.TextSet.{Ascend}
use Rattle.an_base.proofs.TextSetLemmas.{ascend-next}
use Rattle.an_base.proofs.NumberedLemmas.{terms-append}
use Rattle.an_base.proofs.TotalLemmas.{ascend-shown, shown}
use Rattle.an_base.proofs.totals.TermTotals.into_list.Goals as goal

pub loop-term-init : goal.loop-term-init
loop-term-init c =
    let all =
    ap₂ (λ list es. list ++ shown es) c.new-list.ensures.none
    c.into_iter-term-iterator.ensures.into_iter_gives.0 in
    record {
      totals = all ∙ c.self.view_is;
      order =
          subst (λ es. Ascend (map (λ e. e.term) es)) (sym all)
          (ascend-shown c.self.inside.terms.entries
          c.into_iter-term-iterator.ensures.into_iter_gives.5);
    }

pub followed_by-requires : goal.followed_by-requires
followed_by-requires c = record {
  order =
      subst (λ term. Ascend (map (λ e. e.term) c.loop-term.list ++ term ∷ []))
      (sym c.as_str.ensures.value)
      (ascend-next (map (λ e. e.term) c.loop-term.list) (string_bytes c.in-Some.term)
      (map (λ e. e.term) (shown c.next.new.self))
      (subst Ascend (terms-append c.loop-term.list _)
      (subst (λ es. Ascend (map (λ e. e.term) (c.loop-term.list ++ shown es)))
      c.in-Some.ensures.steps c.loop-term.invariant.order)));
}
