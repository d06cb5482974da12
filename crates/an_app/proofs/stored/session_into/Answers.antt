use Rattle.std.proofs.Common.{IsSome, sym, subst}
use Rattle.an_keep.specs.Keeper.{Told}
use Rattle.an_laws.specs.Events.{Keeps, state_at, told_at}
use Rattle.an_serve.specs.Events.{opened}
use Rattle.an_serve.proofs.DeskLemmas.{stands-opened}
use Rattle.an_state.specs.State.{State}
use Rattle.an_app.proofs.stored.session_into.Goals as goal

pub returns-clause-connection : goal.returns-clause-connection
returns-clause-connection g c =
    let before = c.stands.ensures in
    let opening = opened c.args.desk.state c.args.desk.told in
    let its = c.into_keeper-keeper in
    let (behind, stands, connection) =
    c.session_at_desk-ended.ensures.session.goes opening
    (stands-opened c.args.desk
    (record { cells_are = before.cells; valid = before.valid; sound = before.sound })) in
    let left : Keeps (told_at behind.list) (state_at behind.list) (g.K.Keeper.told its.result) =
    subst (λ (p : Told × State). Keeps (told_at behind.list) p.1 p.0)
    (λ i. (sym its.ensures.told i, stands.state i)) stands.keeps in
    (behind, stands.legal, left, connection)

pub returns-clause-told : goal.returns-clause-told
returns-clause-told g c =
    λ some.
    c.session_at_desk-ended.ensures.told (subst IsSome c.into_keeper-keeper.ensures.told some)
