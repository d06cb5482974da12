use Rattle.std.proofs.Common.{IsSome, inl, inr, subst}
use Rattle.an_shelf.proofs.OpeningLemmas.{opened-on, renews-tells}
use Rattle.an_store.specs.Opening.{Closes}
use Rattle.an_app.proofs.RunLemmas.{unopened-renewed}
use Rattle.an_app.proofs.ServeLemmas.{closed-tells}
use Rattle.an_app.proofs.serving.serve_at.Goals as goal

pub returns-in-Ok-clause-serves : goal.returns-in-Ok-clause-serves
returns-in-Ok-clause-serves g c =
    let closes =
    subst (λ list. Closes list (g.K.Keeper.told c.serve_opened.result.keeper)) c.in-Ok.ensures.list
    c.serve_opened.ensures.closes in
    inl (record {
      state = c.in-Ok.opened.state;
      opens =
          opened-on _ _ _ _ c.in-Ok.ensures.opened
          (closed-tells c.in-Ok.opened.state c.in-Ok.opened.told
          (g.K.Keeper.told c.serve_opened.result.keeper) closes);
      told = c.in-Ok.opened.told;
      closes = closes;
      ends = c.serve_opened.ensures.serves;
    })

pub returns-in-Ok-clause-never : goal.returns-in-Ok-clause-never
returns-in-Ok-clause-never g c =
    let closes =
    subst (λ list. Closes list (g.K.Keeper.told c.serve_opened.result.keeper)) c.in-Ok.ensures.list
    c.serve_opened.ensures.closes in
    λ kind some.
    renews-tells _ _ _ (c.in-Ok.ensures.never kind)
    (closed-tells c.in-Ok.opened.state c.in-Ok.opened.told
    (g.K.Keeper.told c.serve_opened.result.keeper) closes some)

pub returns-in-Err-clause-serves : goal.returns-in-Err-clause-serves
returns-in-Err-clause-serves g c =
    let its = c.in-Err.ensures in
    inr (unopened-renewed _ _ _ _ _ _ _ _ _ its.kept its.unchanged its.damaged
    (λ is. λ sure. its.sure sure is) c.not_opened.ensures.keeper c.not_opened.ensures.told)

pub returns-in-Err-clause-never : goal.returns-in-Err-clause-never
returns-in-Err-clause-never g c =
    λ kind some. c.in-Err.ensures.never_refused kind (subst IsSome c.not_opened.ensures.keeper some)
