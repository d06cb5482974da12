use Rattle.std.proofs.Common.{refl}
use Rattle.std.proofs.lemmas.List.{append-nil}
use Rattle.an_store.proofs.Sides.{same}
use Rattle.an_store.proofs.under_lock.UnderLock.new.Goals as goal

pub invariant_of-result : goal.invariant_of-result
invariant_of-result g c = same _ _ _ _ _ _ _ _ c.requires.sided refl (append-nil _)
