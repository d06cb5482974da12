use Rattle.std.proofs.Common.{[], get_or, length, map, sym, ap, ◌∙◌, arith}
use Rattle.an_base.proofs.NumberedLemmas.{length-numbered, terms-numbered}
use Rattle.an_base.proofs.term_list.TermList.term.Goals as goal

pub text-requires : goal.text-requires
text-requires c = record {
  within =
      let same = length-numbered c.self.inside.terms c.self.inside.totals.items c.self.invariant in
      let seen = ap length c.self.view_is in
      omega (arith, same, seen, c.requires.within);
}

pub returns : goal.returns
returns c = record {
  term = c.text.ensures.text ∙ ap (λ terms. get_or terms c.args.place [])
      (sym (terms-numbered c.self.inside.terms c.self.inside.totals.items c.self.invariant)
      ∙ ap (map (λ e. e.term)) c.self.view_is);
}
