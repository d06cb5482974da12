-- How a desk answers requests, one after another, and what a connection at it comes to.
use Rattle.std.specs.Prelude.{◌≡◌, ◌≤◌, ◌<◌, ◌⊎◌, ◌-◌, ◌^◌, ℕ, ℤ, List, [], ◌++◌, Bool}
use Rattle.std.specs.Prelude.{IsTrue, IsSome, Result, Ok, Err, false}
use Rattle.an_base.specs.Moment.{IsMoment}
use Rattle.an_code.specs.declared.code.Code.TheVariants as code
use Rattle.an_http.specs.declared.reply.Allow.{Allow}
use Rattle.an_http.specs.declared.reply.Reply.{Reply}
use Rattle.an_http.specs.declared.request.Request.{Request}
use Rattle.an_keep.specs.Keeper.{Told}
use Rattle.an_machine.specs.Legal.{Write}
use Rattle.an_machine.specs.Step.{step}
use Rattle.an_machine.specs.declared.command.Decided.{Decided}
use Rattle.an_machine.specs.declared.command.Refused.{Refused}
use Rattle.an_policy.specs.declared.who.Caller.{Caller}
use Rattle.an_list.specs.Site.{Site}
use Rattle.an_session.specs.Laws.{IsOneList}
use Rattle.an_session.specs.Session.{Line, Session}
use Rattle.an_session.specs.Trail.{Known, Rules}
use Rattle.an_session.specs.declared.ended.Ended.{Ended}
use Rattle.an_shelf.specs.Store.{Store}
use Rattle.an_state.specs.State.{State}
use Rattle.an_state.specs.declared.command.Command.{Command}
use Rattle.an_answers.specs.Answer.{refusal_reply, write_answer}
use Rattle.an_laws.specs.Events.{Event, IsLegal, Keeps, added_by, state_at, told_at, wrote}
use Rattle.an_serve.specs.Respond.{response_of}
use Rattle.an_serve.specs.declared.responding.Response.{Response}
use Rattle.an_serve.specs.declared.responding.Response.TheVariants as response

-- ---- one request

-- A write is answered as it was decided, and added where it was accepted. `Unsure` says that the
-- keeper can fail: then what it should have kept is answered so, isn't added, and is a fault.
abbrev pub IsWritten : Type 0 → Site → Allow → ℤ → Caller → Command → Result Decided Refused → Reply
    → List Write → ℕ → Type 0
IsWritten Unsure site methods moment caller command (Err why) reply added faults =
    (reply ≡ write_answer site methods (Err why)) × (added ≡ []) × (faults ≡ 0)
IsWritten Unsure site methods moment caller command (Ok decided) reply added faults =
    ((reply ≡ write_answer site methods (Ok decided.reply))
    × (added ≡ added_by moment caller command decided.entry) × (faults ≡ 0))
    ⊎ (Unsure × IsSome decided.entry
    × (reply ≡ refusal_reply methods code.Keeper) × (added ≡ []) × (faults ≡ 1))

-- the reply to what a request comes to, what it adds, and how many faults it meets; a write is
-- decided at a moment that the clock tells
abbrev pub IsAnswer : Type 0 → (ℤ → Bool) → Site → State → Response → Reply → List Write → ℕ
    → Type 0
IsAnswer Unsure clock site s (response.Ready meant) reply added faults =
    (reply ≡ meant) × (added ≡ []) × (faults ≡ 0)
IsAnswer Unsure clock site s (response.Write methods caller command) reply added faults =
    (moment : ℤ) × IsTrue (clock moment) × IsMoment moment
    × IsWritten Unsure site methods moment caller command (step s moment caller command)
    reply added faults

-- At this list of events the request is answered by this reply, and these events stand behind it.
-- What is accepted is kept, as the keeper told before the reply is written.
pub record Answered (Unsure : Type 0) (clock : ℤ → Bool) (site : Site) (at : List Event)
    (request : Request) (reply : Reply) (added : List Event) (faults : ℕ) : Type 0 where
  pub writes : List Write
  pub told : Told
  pub are : added ≡ wrote told writes
  pub legal : IsLegal (at ++ added)
  pub answers : IsAnswer Unsure clock site (state_at at) (response_of site (state_at at) request)
      reply writes faults

-- by what a desk answers, which nobody else writes meanwhile
abbrev pub desk_rules : Type 0 → (ℤ → Bool) → Site → Rules Event
desk_rules Unsure clock site = record { shared = false; answers = Answered Unsure clock site }

-- ---- one connection

-- so many faults are counted; a count stands still at its end
abbrev pub IsCounted : ℕ → ℕ → Type 0
IsCounted faults count = count < 2 ^ 64 - 1 → faults ≤ count

-- a desk stands for what is known: its state is that of the events, and is kept, and its keeper
-- counted the faults
pub record StandsFor (desk : Store) (known : Known Event) : Type 0 where
  pub legal : IsLegal known.list
  pub state : desk.state ≡ state_at known.list
  pub keeps : Keeps (told_at known.list) desk.state desk.told
  pub counted : IsCounted known.faults desk.faults

-- Each request of a connection is answered at the list before it with all that this connection
-- added since, and nothing else.
pub record Connection (Unsure : Type 0) (clock : ℤ → Bool) (site : Site) (ended : Ended)
    (old new : Line) (from to : Known Event) : Type 0 where
  pub session : Session (desk_rules Unsure clock site) ended old new from to
  pub one : IsOneList (session.trail ++ session.lost) from.list to.list
