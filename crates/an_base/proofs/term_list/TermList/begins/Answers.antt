use Rattle.std.proofs.Common.{[], get_or, length, map, nat_eq, sym, ap, ◌∙◌, arith}
use Rattle.std.specs.List.{starts_with}
use Rattle.an_base.proofs.NumberedLemmas.{length-numbered, terms-numbered}
use Rattle.an_base.proofs.term_list.TermList.begins.Goals as goal

pub begins-requires : goal.begins-requires
begins-requires c = record {
  within =
      let same = length-numbered c.self.inside.terms c.self.inside.totals.items c.self.invariant in
      let seen = ap length c.self.view_is in
      omega (arith, same, seen, c.requires.within);
}

pub returns : goal.returns
returns c = record {
  begins =
      c.begins.ensures.begins
      ∙ ap (λ terms. starts_with nat_eq (get_or terms c.args.place []) c.args.prefix.now)
      (sym (terms-numbered c.self.inside.terms c.self.inside.totals.items c.self.invariant)
      ∙ ap (map (λ e. e.term)) c.self.view_is);
}
