use Rattle.std.proofs.Common.{◌≡◌, ◌++◌}
use Rattle.an_model.specs.Note.{motivation_of}
use Rattle.an_model.proofs.WalkLemmas.{left}
use Rattle.an_model.proofs.motivation.read_motivations.Given as goal

-- the motivations so far stand before those that are left
abbrev pub invariant-loop-item : goal.invariant-loop-item
invariant-loop-item l =
    l.motivations.items ++ left motivation_of l.item-items l.item-index
    ≡ left motivation_of l.item-items 0
