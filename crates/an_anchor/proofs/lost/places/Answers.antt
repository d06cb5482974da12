use Rattle.std.proofs.Common.{[], ◌∷◌, ◌++◌, sym, ap, ◌∙◌}
use Rattle.an_anchor.proofs.JudgeLemmas.{range-more}
use Rattle.an_anchor.proofs.lost.places.Goals as goal

pub loop-place-preserved : goal.loop-place-preserved
loop-place-preserved c =
    c.in_ok-push.ensures.items
    ∙ ap (λ front. front ++ c.loop-place.place ∷ []) c.loop-place.invariant
    ∙ sym (range-more c.loop-place.place)
