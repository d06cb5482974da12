-- The words of the trial, in the order in which they are printed.
use Rattle.std.proofs.Common.{◌≡◌, [], ◌∷◌, codes, refl}
use Rattle.an_base.specs.TextSet.{ascending}
use Rattle.an_trial.specs.Writes.{words}

pub words_ascend : ascending words
    ≡ codes "crane" ∷ codes "egret" ∷ codes "gull" ∷ codes "heron" ∷ codes "ibis" ∷ codes "stork"
    ∷ codes "swan" ∷ codes "tern" ∷ []
words_ascend = refl
