use Rattle.std.proofs.Common.{ℕ, List, ap, ◌∙◌}
use Rattle.an_postings.proofs.Prefixes.{inside, told-inside, Fades-inside, climbs-texts}
use Rattle.an_postings.proofs.prefix.told_in.Goals as goal

pub loop-term-init : goal.loop-term-init
loop-term-init c =
    let es = c.args.terms.now.entries in
    let is =
    c.into_iter-term-iterator.ensures.into_iter_gives ∙ c.range-term-items.ensures.between tt
    ∙ ap (λ (p : List ℕ). inside p c.args.classes.now es) c.in_ok-start.ensures.text in
    record {
      told =
          rw (c.new-told.ensures.items, is) (told-inside c.args.prefix.now c.args.classes.now es);
      fades =
          rw is
          (Fades-inside c.args.prefix.now c.args.classes.now es c.range-term-items.ensures.ordered);
    }

pub returns-clause-ascending : goal.returns-clause-ascending
returns-clause-ascending c =
    climbs-texts c.args.terms.now.entries c.range-term-items.ensures.ordered

pub returns-then-not-has_prefix-clause-ascending : goal.returns-then-not-has_prefix-clause-ascending
returns-then-not-has_prefix-clause-ascending c =
    climbs-texts c.args.terms.now.entries c.range-term-items.ensures.ordered
