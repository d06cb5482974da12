-- How a run of `session` ends: its status, and what it comes to.
use Rattle.std.specs.Prelude.{◌≡◌, ℤ, ◌⊎◌, Bool}
use Rattle.an_keep.specs.Keeper.{Told}
use Rattle.an_shelf.specs.Opening.{WasOpened}
use Rattle.an_state.specs.State.{State}
use Rattle.an_list.specs.Site.{Site}
use Rattle.an_session.specs.Session.{Line}
use Rattle.an_session.specs.Trail.{Known}
use Rattle.an_session.specs.declared.ended.Ended.{Ended}
use Rattle.an_session.specs.declared.ended.Ended.TheVariants as ended
use Rattle.an_serve.specs.AtDesk.{Connection}
use Rattle.an_laws.specs.Events.{Event, IsLegal, Keeps, state_at, told_at}
use Rattle.an_serve.specs.Events.{opened}
use Rattle.an_app.specs.Outside.{Outside}
use Rattle.an_app.specs.Unopened.{UnopenedAt}
use Rattle.an_lines.specs.declared.status.Status.{Status}
use Rattle.an_lines.specs.declared.status.Status.TheVariants as status

-- the status of a run whose connection ended so
abbrev pub ended_status : Ended → Status
ended_status ended.Closed = status.Done
ended_status ended.ReadFault = status.ReadFault
ended_status ended.WriteFault = status.WriteFault
ended_status ended.Memory = status.Memory

-- From the state with which the store was opened one connection was served, each of whose writes
-- was kept before its reply was written, and the state that they led to is left kept.
pub record SessionOpened (outside : Outside) (clock : ℤ → Bool) (site : Site) (old new : Line)
    (end : Status) : Type 0 where
  pub state : State
  pub opens : WasOpened outside.before outside.after state
  pub told : Told
  pub ended : Ended
  pub is : end ≡ ended_status ended
  pub behind : Known Event
  pub connection : Connection outside.keeper_can_fail clock site ended old new (opened state told)
      behind
  pub legal : IsLegal behind.list
  pub leaves : Keeps (told_at behind.list) (state_at behind.list) outside.after

-- How a run of `session` ends, with moments that the clock tells. It prints nothing of its own
-- where the store is opened.
abbrev pub SessionAt : Outside → (ℤ → Bool) → Site → Line → Line → Status → Type 0
SessionAt outside clock site old new status =
    SessionOpened outside clock site old new status
    ⊎ UnopenedAt outside old.traffic new.traffic status
