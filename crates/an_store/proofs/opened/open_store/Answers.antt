use Rattle.std.proofs.Common.{inl}
use Rattle.an_keep.specs.Keeper.{Turns}
use Rattle.an_keep.proofs.ToldLemmas.{stays-tells}
use Rattle.an_shelf.specs.Opening.{RenewsOrBegins, WasOpened, renewed}
use Rattle.an_shelf.proofs.OpeningLemmas.{was-damaged}
use Rattle.an_store.proofs.Opens.{left-renewed, left-tells, no-damage, opened-as}
use Rattle.an_store.proofs.opened.open_store.Goals as goal

pub returns-in-Ok-begin_store-clause-opened : goal.returns-in-Ok-begin_store-clause-opened
returns-in-Ok-begin_store-clause-opened g c =
    opened-as (WasOpened (g.K.Keeper.told c.args.keeper)) _ _ _ _ c.in-Ok.ensures.opened
    c.in-Ok-begin_store.ensures.told c.in-Ok-begin_store.ensures.state

pub returns-in-Ok-begin_store-clause-renewed : goal.returns-in-Ok-begin_store-clause-renewed
returns-in-Ok-begin_store-clause-renewed g c =
    opened-as (λ told s. RenewsOrBegins s (g.K.Keeper.told c.args.keeper) told) _ _ _ _
    c.in-Ok.ensures.renewed c.in-Ok-begin_store.ensures.told c.in-Ok-begin_store.ensures.state

pub returns-in-Ok-begin_store-clause-never : goal.returns-in-Ok-begin_store-clause-never
returns-in-Ok-begin_store-clause-never g c = λ kind.
    opened-as (λ told s. Turns (renewed s) (g.K.Keeper.told c.args.keeper) told) _ _ _ _
    (c.in-Ok.ensures.never kind) c.in-Ok-begin_store.ensures.told c.in-Ok-begin_store.ensures.state

-- memory ran out behind the opening
pub returns-in-Err-begin_store-clause-damaged : goal.returns-in-Err-begin_store-clause-damaged
returns-in-Err-begin_store-clause-damaged g c = no-damage _ _

pub returns-in-Err-begin_store-clause-kept : goal.returns-in-Err-begin_store-clause-kept
returns-in-Err-begin_store-clause-kept g c =
    left-renewed _ _ _ _ c.in-Err-begin_store.ensures.same c.in-Ok.ensures.opened
    c.in-Ok.ensures.renewed

pub returns-in-Err-begin_store-clause-never_refused :
    goal.returns-in-Err-begin_store-clause-never_refused
returns-in-Err-begin_store-clause-never_refused g c =
    λ kind. left-tells _ _ _ _ c.in-Err-begin_store.ensures.same (c.in-Ok.ensures.never kind)

pub returns-in-Err-clause-damaged : goal.returns-in-Err-clause-damaged
returns-in-Err-clause-damaged g c = was-damaged _ _ _ c.in-Err.ensures.kept c.in-Err.ensures.damaged

pub returns-in-Err-clause-kept : goal.returns-in-Err-clause-kept
returns-in-Err-clause-kept g c = inl c.in-Err.ensures.kept

pub returns-in-Err-clause-never_refused : goal.returns-in-Err-clause-never_refused
returns-in-Err-clause-never_refused g c =
    λ kind. stays-tells _ _ (c.in-Err.ensures.never_refused kind)
