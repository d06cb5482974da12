-- What follows from what a keeper tells before some calls and behind them.
use Rattle.std.proofs.Common.{List, Some, None, IsSome, refl, subst}
use Rattle.std.proofs.lemmas.Bool.{false≢true}
use Rattle.an_keep.specs.Keeper.{Told, Stays, StaysOrBegins, WhileTold}
use Rattle.an_keep.specs.declared.cell.Cell.{Cell}

-- where it stays it doesn't begin
pub stays-tells : (old new : Told) → Stays old new → IsSome new → IsSome old
stays-tells old None stays some = absurd (false≢true some)
stays-tells None (Some new) stays some = absurd stays
stays-tells (Some old) (Some new) stays some = refl

-- What holds of the cells once a keeper was called that changed none holds of those that were told
-- before, while it tells them.
pub told-before : (P : Told → Type 0) (before opened behind : Told) → StaysOrBegins before opened
    → (IsSome behind → IsSome opened) → P opened → WhileTold before behind (P before)
told-before P before opened None stays since holds = tt
told-before P None opened (Some new) stays since holds = tt
told-before P (Some old) None (Some new) stays since holds = absurd (false≢true (since refl))
told-before P (Some old) (Some mid) (Some new) stays since holds =
    subst (λ (cells : List Cell). P (Some cells)) stays holds
