use Rattle.std.proofs.Common.{◌≡◌, take}
use Rattle.an_snapshot.proofs.copying.copy_classes.Given as goal

-- the classes so far are copied
abbrev pub invariant-loop-audience : goal.invariant-loop-audience
invariant-loop-audience l = l.copy ≡ take l.audience-index l.audience-items
