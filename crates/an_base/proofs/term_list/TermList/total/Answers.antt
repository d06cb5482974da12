use Rattle.std.proofs.Common.{get_or, length, map, sym, ap, ◌∙◌, arith}
use Rattle.an_base.proofs.NumberedLemmas.{length-numbered, totals-numbered}
use Rattle.an_base.proofs.term_list.TermList.total.Goals as goal

pub number_at-requires : goal.number_at-requires
number_at-requires c =
    let same = length-numbered c.self.inside.terms c.self.inside.totals.items c.self.invariant in
    let seen = ap length c.self.view_is in
    let slice = ap length c.as_slice.ensures.value in
    omega (arith, same, seen, slice, c.self.invariant, c.requires.within)

pub returns : goal.returns
returns c = record {
  total = c.number_at.ensures ∙ ap (λ totals. get_or totals c.args.place 0)
      (c.as_slice.ensures.value
      ∙ sym (totals-numbered c.self.inside.terms c.self.inside.totals.items c.self.invariant)
      ∙ ap (map (λ e. e.total)) c.self.view_is);
}
