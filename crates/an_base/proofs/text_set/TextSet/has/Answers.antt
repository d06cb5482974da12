use Rattle.std.proofs.Common.{[], bytes_eq, get_or, sym, ap, ◌∙◌, arith}
use Rattle.std.proofs.lemmas.Bool.{le-ltb}
use Rattle.an_base.proofs.AscendLemmas.{at-place, past-place}
use Rattle.an_base.proofs.text_set.TextSet.has.Goals as goal

pub returns-then-place-len : goal.returns-then-place-len
returns-then-place-len c = record {
  found =
      c.is_at.ensures
      ∙ ap (λ k. bytes_eq (get_or c.args.self.now k []) c.args.text.now)
      c.place_of-place.ensures.place
      ∙ sym (at-place c.args.text.now c.args.self.now c.len.ensures.order
      (omega (arith, c.place_of-place.ensures.place, c.len.ensures.length, c.if-place-len.true)));
}

pub returns-else-place-len : goal.returns-else-place-len
returns-else-place-len c = record {
  found = le-ltb c.place_of-place.result c.len.result c.if-place-len.false
      ∙ sym (past-place c.args.text.now c.args.self.now
      (omega (arith, c.place_of-place.ensures.place, c.len.ensures.length, c.if-place-len.false)));
}
