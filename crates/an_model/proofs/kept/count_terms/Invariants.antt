use Rattle.std.proofs.Common.{map, take}
use Rattle.an_base.specs.Totals.{Adds}
use Rattle.an_model.proofs.kept.count_terms.Given as goal

-- the words so far are added
abbrev pub invariant-loop-word : goal.invariant-loop-word
invariant-loop-word l =
    Adds l.fn.totals l.totals (map (λ o. o.term) (take l.word-index l.word-items))
