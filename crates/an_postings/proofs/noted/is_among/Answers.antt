use Rattle.std.proofs.Common.{Bool, ap, subst, sym, ◌∙◌, ◌||◌}
use Rattle.an_slots.specs.Places.{Rises, has}
use Rattle.an_slots.proofs.PlacesLemmas.{has-append}
use Rattle.an_postings.proofs.LiveLemmas.{Rises-front, Rises-back}
use Rattle.an_postings.proofs.noted.is_among.Goals as goal

pub returns-then-is_in : goal.returns-then-is_in
returns-then-is_in c = λ rises.
    let front = c.as_slices.result.0.now in
    let back = c.as_slices.result.1.now in
    let r = subst (Rises 0) (sym c.as_slices.ensures.items) rises in
    let there = c.is_in.ensures (Rises-front 0 front back r) in
    c.if-is_in.true
    ∙ sym
    (ap (has c.args.place) (sym c.as_slices.ensures.items) ∙ has-append c.args.place front back
    ∙ ap (λ (b : Bool). b || has c.args.place back) (sym there ∙ c.if-is_in.true))

pub returns-else-is_in : goal.returns-else-is_in
returns-else-is_in c = λ rises.
    let front = c.as_slices.result.0.now in
    let back = c.as_slices.result.1.now in
    let r = subst (Rises 0) (sym c.as_slices.ensures.items) rises in
    let there = c.is_in.ensures (Rises-front 0 front back r) in
    c.is_in-else-is_in.ensures (Rises-back 0 front back r)
    ∙ sym
    (ap (has c.args.place) (sym c.as_slices.ensures.items) ∙ has-append c.args.place front back
    ∙ ap (λ (b : Bool). b || has c.args.place back) (sym there ∙ c.if-is_in.false))
