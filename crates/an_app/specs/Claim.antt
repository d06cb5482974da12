-- The claim from the top down, in one file: how a run ends, which store it opens, what a connection
-- is, what an answer is, what a caller sees, who may read, which writes are accepted, and which
-- cells stand for a state.
--
-- First come the definitions, passed on from the files where they stand, in the order in which they
-- are read. Then each is said once more: a function as an equation, which the check holds against
-- the definition, since `refl` is taken only where both sides are the same; a relation as a
-- function from it to what it comes to, whose body is what it is given.
use Rattle.std.specs.Prelude.{◌≡◌, ◌⊎◌, ℕ, ℤ, List, [], ◌∷◌, ◌++◌, filter, Bool, ◌&&◌, ◌||◌, refl}
use Rattle.std.specs.Prelude.{if◌then◌else◌, is_none, Option, Some, None, Result, Ok, Err}
use Rattle.an_base.specs.Outcome.{first_of}
use Rattle.an_base.specs.declared.span.Prefer.{Prefer}
use Rattle.an_code.specs.declared.code.Code.TheVariants as code
use Rattle.an_app.specs.declared.form.Form.TheVariants as form
use Rattle.an_http.specs.declared.reply.Reply.{Reply}
use Rattle.an_keep.specs.declared.cell.Cell.{Cell}
use Rattle.an_lines.specs.declared.status.Status.{Status}
use Rattle.an_machine.specs.Accepted.{decided, effect_of, moment_of_write}
use Rattle.an_machine.specs.declared.command.Decided.{Decided}
use Rattle.an_machine.specs.declared.command.Refused.{Refused}
use Rattle.an_policy.specs.declared.group.Audience.{Audience}
use Rattle.an_policy.specs.declared.kind.Kind.TheVariants.{Create, Update, Delete}
use Rattle.an_policy.specs.declared.who.Caller.{Caller}
use Rattle.an_routes.specs.declared.kinds.Read.{Read}
use Rattle.an_list.specs.Site.{Site}
use Rattle.an_serve.specs.declared.responding.Response.TheVariants as response
use Rattle.an_state.specs.declared.activity.Activity.{Activity}
use Rattle.an_state.specs.declared.command.Command.{Command}
use Rattle.an_state.specs.declared.entry.Entry.TheVariants.{Done}
use Rattle.an_state.specs.declared.entry.Row.{Row}
use Rattle.an_rows.specs.Cells.{place_of}
use Rattle.an_rows.specs.declared.format.Format.{Format}
use Rattle.an_rows.specs.declared.format.Format.TheVariants.{Second}
use Rattle.an_state.specs.State.{empty}
-- ---- the definitions

-- 1. A run
pub use Rattle.an_app.specs.Runs.{Runs, ReadsInput}
pub use Rattle.an_app.specs.Outside.{Outside, WasLeft}
pub use Rattle.an_app.specs.AtStore.{ImportsOpened, ExportsOpened, HarvestsOpened}
pub use Rattle.an_app.specs.SessionEnds.{SessionOpened}
pub use Rattle.an_app.specs.Serving.{DoorEnd, ServesOpened}
pub use Rattle.an_app.specs.Unopened.{UnopenedAt}
-- 2. The store of a run
pub use Rattle.an_keep.specs.Keeper.{Told, WhileTold}
pub use Rattle.an_shelf.specs.Opening.{WasOpened, WasDamagedBy, StandFor}
-- 3. A connection
pub use Rattle.an_session.specs.Session.{Line, Session}
pub use Rattle.an_session.specs.Trail.{Item, Known, Later, Ran, Rules, behind}
pub use Rattle.an_laws.specs.Events.{Event, IsLegal, Keeps, state_at}
pub use Rattle.an_serve.specs.AtDesk.{Answered, Connection, IsAnswer, IsWritten}
pub use Rattle.an_seats.specs.Seats.{Sitting}
-- 4. An answer
pub use Rattle.an_serve.specs.Respond.{response_of, route_response}
pub use Rattle.an_answers.specs.Answer.{answer_of, shown_of, shown_reply, write_answer}
pub use Rattle.an_answers.specs.Answer.{refusal_reply}
pub use Rattle.an_routes.specs.Routes.{read_methods, route_of}
-- 5. What a caller sees
pub use Rattle.an_state.specs.State.{State, ManifestState, NoteState, LiveNote, who_of}
pub use Rattle.an_state.specs.View.{View, view_of, view_by, view_for}
pub use Rattle.an_state.specs.View.{shows_manifest, shows_note, note_audience, seen_by}
-- 6. Who may read
pub use Rattle.an_policy.specs.Audience.{Identity, may, is_in, is_inside, is_owner}
pub use Rattle.an_policy.specs.Seen.{as_seen, reads}
-- 7. Which writes are accepted
pub use Rattle.an_machine.specs.Step.{step, step_by, step_if_signed, judged, refused_or, and_then}
pub use Rattle.an_machine.specs.Refusals.{signer_of, refusals_before, refusals_behind}
pub use Rattle.an_machine.specs.Asked.{asked_of}
pub use Rattle.an_machine.specs.Legal.{Accepts, Legal, Write}
pub use Rattle.an_state.specs.Entries.{after, with_row, with_rows}
-- 8. Which cells stand for a state
pub use Rattle.an_rows.specs.Cells.{cells, cells_in, row_cells, with_first, state_of, format_of}
pub use Rattle.an_rows.specs.Cells.{restored, row_behind}

-- ---- 1. A run

-- lines are imported into the store that is opened, or it isn't opened
pub run-of-import
    : (outside : Outside) (door : DoorEnd) (clock : ℤ → Bool) (old new : Line) (status : Status)
    → Runs outside door clock old new status form.Import
    → ImportsOpened outside old.traffic new.traffic status
    ⊎ UnopenedAt outside old.traffic new.traffic status
run-of-import outside door clock old new status run = run

-- one connection is served at it, over the link itself
pub run-of-session
    : (outside : Outside) (door : DoorEnd) (clock : ℤ → Bool) (site : Site) (old new : Line)
    (status : Status) → Runs outside door clock old new status (form.Session site)
    → SessionOpened outside clock site old new status
    ⊎ UnopenedAt outside old.traffic new.traffic status
run-of-session outside door clock site old new status run = run

-- ---- 2. The store of a run

-- a keeper that tells its cells before the run and after it was opened with the state that those
-- before stand for, and is left with the cells of the state that the run ended with
pub opened-while-told
    : (first last : List Cell) (s : State) → WasOpened (Some first) (Some last) s
    → state_of first ≡ Ok s
opened-while-told first last s opens = opens

pub left-while-told : (last : List Cell) (s : State) → WasLeft (Some last) s → last ≡ cells s
left-while-told last s leaves = leaves

-- ---- 3. A connection

-- each request is answered at a list of events that goes on from what was known, and what it adds
-- is known after it
pub ran-on
    : {E : Type 0} (rules : Rules E) (item : Item E) (trail : List (Item E)) (from to : Known E)
    → Ran rules (item ∷ trail) from to
    → Later rules.shared from.list item.at × Ran rules trail (behind from item) to
ran-on rules item trail from to ran = (ran.0, ran.2)

-- a request that reads has one reply at such a list, adds nothing and meets no fault
pub read-answered
    : (Unsure : Type 0) (clock : ℤ → Bool) (site : Site) (s : State) (meant reply : Reply)
    (added : List Write) (faults : ℕ)
    → IsAnswer Unsure clock site s (response.Ready meant) reply added faults
    → (reply ≡ meant) × (added ≡ []) × (faults ≡ 0)
read-answered Unsure clock site s meant reply added faults answer = answer

-- ---- 4. An answer

-- a read is answered from the caller's view and nothing else of the state
pub answer-is
    : (site : Site) (view : View) (prefer : Prefer) (read : Read)
    → answer_of site view prefer read
    ≡ (if is_none view.who then refusal_reply (read_methods read) code.NotSigned
    else shown_reply (read_methods read) (shown_of site view prefer read))
answer-is site view prefer read = refl

-- ---- 5. What a caller sees

-- the live manifests and annotations that it may read, and the changes as it sees them
pub view-is
    : (s : State) (who : Identity)
    → view_of s who ≡ record {
      who = Some who;
      manifests = filter (shows_manifest who) s.manifests;
      notes = filter (shows_note s who) s.notes;
      seen = seen_by who s.activities;
    }
view-is s who = refl

-- a caller is the reader of its token, or of its name, or nobody
pub view-by-is : (s : State) (caller : Caller) → view_by s caller ≡ view_for s (who_of s caller)
view-by-is s caller = refl

-- an annotation is for its manifest's group, and there for its own group and for its owner
pub note-audience-is
    : (manifest : ManifestState) (row : NoteState) (live : LiveNote)
    → note_audience manifest row live
    ≡ record { outer = manifest.group; inner = live.group; owner = Some row.owner }
note-audience-is manifest row live = refl

-- ---- 6. Who may read

pub may-is
    : (who : Identity) (audience : Audience)
    → may who audience
    ≡ (is_in who audience.outer && (is_inside who audience.inner || is_owner who audience.owner))
may-is who audience = refl

-- what a change of audience is for a caller
pub as-seen-is
    : (who : Identity) (before after : Option Audience)
    → as_seen who before after
    ≡ (if reads who before then (if reads who after then Some Update else Some Delete)
    else (if reads who after then Some Create else None))
as-seen-is who before after = refl

-- ---- 7. Which writes are accepted

pub step-is
    : (s : State) (moment : ℤ) (caller : Caller) (command : Command)
    → step s moment caller command ≡ step_if_signed s moment command (signer_of s caller)
unfolding step
step-is s moment caller command = refl

-- the refusals before the tree is read, the tree's own, and those of what it asks for, in this
-- order
pub step-by-is
    : (s : State) (moment : ℤ) (command : Command) (who : Identity)
    → step_by s moment command who
    ≡ (let at = moment_of_write s moment in
    refused_or (first_of (refusals_before s who command))
    (and_then (asked_of command) (λ asked.
    and_then (judged s asked (effect_of s who at asked)) (λ effect.
    Ok (decided who at command effect)))))
step-by-is s moment command who = refl

-- the rows of an accepted write are put in order, and its activities stand after those before
pub after-is
    : (s : State) (command : Command) (moment : ℤ) (by : Option (List ℕ)) (rows : List Row)
    (activities : List Activity)
    → after s (Done command moment by rows activities)
    ≡ record (with_rows rows s) { activities = (with_rows rows s).activities ++ activities }
after-is s command moment by rows activities = refl

-- ---- 8. Which cells stand for a state

pub cells-are : (s : State) → cells s ≡ with_first Second (row_cells Second s)
cells-are s = refl

-- the first cell names the format in which the others are read
pub state-of-is
    : (first cell : Cell) (rest : List Cell)
    → state_of (first ∷ cell ∷ rest) ≡ elim (format_of first) [
      | None ↦ Err (place_of first)
      | Some format ↦ restored format empty (cell ∷ rest)
    ]
unfolding state_of
state-of-is first cell rest = refl

-- cells are read in order, each after those before, up to the first that is damaged
pub restored-is
    : (format : Format) (s : State) (cell : Cell) (rest : List Cell)
    → restored format s (cell ∷ rest) ≡ elim (row_behind format s cell) [
      | Err place ↦ Err place
      | Ok row ↦ restored format (with_row s row) rest
    ]
restored-is format s cell rest = refl
