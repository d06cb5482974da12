use Rattle.std.proofs.Common.{◌≡◌, take}
use Rattle.std.specs.List.{flat_map}
use Rattle.an_base.specs.Totals.{totals_of}
use Rattle.an_model.specs.Bodies.{terms_in}
use Rattle.an_model.proofs.kept.counted_terms.Given as goal

-- the totals so far are those of the texts so far
abbrev pub invariant-loop-text : goal.invariant-loop-text
invariant-loop-text l = l.totals ≡ totals_of (flat_map terms_in (take l.text-index l.texts))
