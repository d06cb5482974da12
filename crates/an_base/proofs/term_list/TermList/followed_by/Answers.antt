use Rattle.std.proofs.Common.{◌++◌, ◌∷◌, [], map, sym, ap, ap₂, subst, ◌∙◌}
use Rattle.an_base.specs.TextSet.{Ascend}
use Rattle.an_base.specs.Totals.{numbered}
use Rattle.an_base.proofs.NumberedLemmas.{numbered-push, terms-numbered}
use Rattle.an_base.proofs.term_list.TermList.followed_by.Goals as goal

pub followed_by-requires : goal.followed_by-requires
followed_by-requires c = record {
  order = subst (λ terms. Ascend (terms ++ c.args.term.now ∷ []))
      (sym (sym (terms-numbered c.self.inside.terms c.self.inside.totals.items c.self.invariant)
      ∙ ap (map (λ e. e.term)) c.self.view_is)) c.requires.order;
}

pub returns : goal.returns
returns c = record {
  value =
      ap₂ numbered c.in_ok-followed_by.ensures.value
      (c.in_ok-push.ensures.items
      ∙ ap (λ n. c.self.inside.totals.items ++ n ∷ []) c.in_ok-in_32_bits.ensures)
      ∙ numbered-push c.self.inside.terms c.self.inside.totals.items c.args.term.now c.args.total
      c.self.invariant
      ∙ ap (λ es. es ++ record { term = c.args.term.now; total = c.args.total } ∷ [])
      c.self.view_is;
}
