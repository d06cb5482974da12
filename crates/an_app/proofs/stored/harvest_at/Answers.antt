use Rattle.std.proofs.Common.{IsSome, inl, inr, sym, subst}
use Rattle.an_keep.proofs.ToldLemmas.{stays-tells}
use Rattle.an_shelf.proofs.OpeningLemmas.{opened-on, renews-tells}
use Rattle.an_app.specs.AtStore.{HarvestsAt}
use Rattle.an_app.specs.Outside.{WasLeft}
use Rattle.an_app.proofs.RunLemmas.{unopened-at}
use Rattle.an_app.proofs.stored.harvest_at.Goals as goal

pub returns-in-Ok-clause-harvests : goal.returns-in-Ok-clause-harvests
unfolding HarvestsAt
returns-in-Ok-clause-harvests g c =
    let its = c.into_keeper-keeper.ensures in
    inl (record {
      state = c.in-Ok.desk.state;
      opens = opened-on _ _ _ _ c.in-Ok.ensures.opened (λ some. subst IsSome its.told some);
      leaves = subst (λ told. WasLeft told c.in-Ok.desk.state) (sym its.told) its.cells;
      harvests = c.harvest-status.ensures.harvests;
    })

pub returns-in-Err-clause-harvests : goal.returns-in-Err-clause-harvests
unfolding HarvestsAt
returns-in-Err-clause-harvests g c =
    let its = c.in-Err.ensures in
    inr (unopened-at _ _ _ _ _ _ _ _ _ its.kept its.refused
    (λ is. λ sure. its.sure sure is) c.not_opened.ensures.keeper c.not_opened.ensures.told)

pub returns-in-Ok-clause-never : goal.returns-in-Ok-clause-never
returns-in-Ok-clause-never g c =
    λ kind some. renews-tells _ _ _ (c.in-Ok.ensures.never kind)
    (subst IsSome c.into_keeper-keeper.ensures.told some)

pub returns-in-Err-clause-never : goal.returns-in-Err-clause-never
returns-in-Err-clause-never g c =
    λ kind some. stays-tells _ _ (c.in-Err.ensures.never_refused kind)
    (subst IsSome c.not_opened.ensures.keeper some)
