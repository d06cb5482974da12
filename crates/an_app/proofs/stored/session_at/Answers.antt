use Rattle.std.proofs.Common.{IsSome, inl, inr, subst}
use Rattle.an_keep.proofs.ToldLemmas.{stays-tells}
use Rattle.an_shelf.proofs.OpeningLemmas.{opened-on, renews-tells}
use Rattle.an_app.proofs.RunLemmas.{little_requests, unopened-at}
use Rattle.an_app.proofs.stored.session_at.Goals as goal

pub returns-in-Ok-clause-session : goal.returns-in-Ok-clause-session
returns-in-Ok-clause-session g c =
    let its = c.session_into-ended in
    let (behind, legal, left, connection) = its.ensures.connection in
    inl (record {
      state = c.in-Ok.desk.state;
      opens = opened-on _ _ _ _ c.in-Ok.ensures.opened its.ensures.told;
      told = c.in-Ok.desk.told;
      ended = its.result.0;
      is = c.ended_status.ensures;
      behind = behind;
      connection = connection;
      legal = legal;
      leaves = left;
    })

pub returns-in-Err-clause-session : goal.returns-in-Err-clause-session
returns-in-Err-clause-session g c =
    let its = c.in-Err.ensures in
    inr (unopened-at _ _ _ _ _ _ _ _ _ its.kept its.refused
    (λ is. λ sure. its.sure sure is) c.not_opened.ensures.keeper c.not_opened.ensures.told)

pub returns-in-Err-clause-bounded : goal.returns-in-Err-clause-bounded
returns-in-Err-clause-bounded g c = little_requests _ _ c.not_opened.ensures.bounded

pub returns-in-Ok-clause-never : goal.returns-in-Ok-clause-never
returns-in-Ok-clause-never g c =
    λ kind some.
    renews-tells _ _ _ (c.in-Ok.ensures.never kind) (c.session_into-ended.ensures.told some)

pub returns-in-Err-clause-never : goal.returns-in-Err-clause-never
returns-in-Err-clause-never g c =
    λ kind some. stays-tells _ _ (c.in-Err.ensures.never_refused kind)
    (subst IsSome c.not_opened.ensures.keeper some)
