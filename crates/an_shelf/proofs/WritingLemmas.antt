-- What is decided of a write, and what keeping it does to the cells.
use Rattle.std.proofs.Common.{◌≡◌, ℤ, true, ℕ, List, Option, Some, None, Result, Ok, Err, IsTrue, inl, inr, refl, sym, ap, subst, ◌∙◌}
use Rattle.std.specs.Prelude.{◌⊎◌, IfOk, IfSome, OnOk}
use Rattle.std.proofs.lemmas.Bool.{false≢true}
use Rattle.an_keep.specs.Cells.{put_changes}
use Rattle.an_keep.specs.Keeper.{Told, Stays, Turns}
use Rattle.an_keep.specs.declared.cell.Change.{Change}
use Rattle.an_policy.specs.declared.who.Caller.{Caller}
use Rattle.an_policy.specs.Audience.{Identity}
use Rattle.an_machine.specs.Accepted.{decided, effect_of, moment_of_write}
use Rattle.an_machine.specs.Asked.{asked_of}
use Rattle.an_state.specs.Commands.{is_write}
use Rattle.an_state.specs.Entries.{after, state_after}
use Rattle.an_state.specs.Sound.{is_sound}
use Rattle.an_machine.specs.Legal.{Write}
use Rattle.an_machine.specs.Refusals.{signer_of, refusals_before}
use Rattle.an_state.specs.State.{State}
use Rattle.an_machine.specs.Step.{refused_or, and_then, judged, step_if_signed, step}
use Rattle.an_base.specs.Outcome.{first_of}
use Rattle.an_state.specs.declared.command.Command.{Command}
use Rattle.an_machine.specs.declared.command.Decided.{Decided}
use Rattle.an_machine.specs.declared.command.Refused.{Refused}
use Rattle.an_machine.specs.declared.command.WriteReply.{WriteReply}
use Rattle.an_machine.specs.declared.effect.Effect.{Effect}
use Rattle.an_state.specs.declared.entry.Entry.{Entry}
use Rattle.an_rows.specs.Cells.{cells}
use Rattle.an_rows.specs.Changes.{changes_of, is_settled}
use Rattle.an_rows.specs.Valid.{is_valid}
use Rattle.an_laws.proofs.AcceptedLemmas.{accepted-settled}
use Rattle.an_laws.proofs.SoundLemmas.{sound-after}
use Rattle.an_laws.proofs.ValidStepLemmas.{valid-after}
use Rattle.an_rows.proofs.ChangeLemmas.{changes-lead}
use Rattle.an_shelf.specs.Front.{Shown, Stops, all_shown, behind, desk_of}
use Rattle.an_shelf.specs.Store.{Stands, Store}
use Rattle.an_shelf.specs.Writing.{KeepsLook, RunsOut}
use Rattle.an_shelf.specs.declared.error.WriteError.{WriteError}
use Rattle.an_shelf.specs.declared.error.WriteError.TheVariants as error
use Rattle.an_shelf.proofs.ReadingLemmas.{stays-same}

-- ---- a write that had been done

then-ok : {A B : Type 0} (r : Result A Refused) (next : A → Result B Refused) (y : B)
    → and_then r next ≡ Ok y → (x : A) × (r ≡ Ok x) × (next x ≡ Ok y)
then-ok (Ok x) next y is = (x, refl, is)
then-ok (Err e) next y is = absurd (cc)

not_refused : {A : Type 0} (refusal : Option Refused) (otherwise : Result A Refused) (y : A)
    → refused_or refusal otherwise ≡ Ok y → otherwise ≡ Ok y
not_refused None otherwise y is = is
not_refused (Some refusal) otherwise y is = absurd (cc)

decided-repeat : (who : Identity) (at : ℤ) (command : Command) (effect : Option Effect)
    (d : Decided) → decided who at command effect ≡ d → d.reply.repeat ≡ true → d.entry ≡ None
decided-repeat who at command None d is again = ap (λ d. d.entry) (sym is)
decided-repeat who at command (Some effect) d is again =
    absurd (false≢true (ap (λ d. d.reply.repeat) is ∙ again))

same_Ok : (d e : Decided) → ◌≡◌ {A = Result Decided Refused} (Ok d) (Ok e) → d ≡ e
same_Ok d e is = cc

-- what is decided comes of an effect, or of none
pub decided-by : (s : State) (moment : ℤ) (caller : Caller) (command : Command) (d : Decided)
    → step s moment caller command ≡ Ok d
    → (who : Identity) × (at : ℤ) × (effect : Option Effect) × (decided who at command effect ≡ d)
unfolding step
decided-by s moment caller command d is = by_signer (signer_of s caller) is
  where
    by_signer : (signer : Option Identity) → step_if_signed s moment command signer ≡ Ok d
        → (who : Identity) × (at : ℤ) × (effect : Option Effect)
        × (decided who at command effect ≡ d)
    by_signer None h = absurd (cc)
    by_signer (Some who) h =
        let at = moment_of_write s moment in
        let open_to = not_refused (first_of (refusals_before s who command)) _ d h in
        let asked = then-ok (asked_of command) _ d open_to in
        let effect = then-ok (judged s asked.0 (effect_of s who at asked.0)) _ d asked.2 in
        (who, at, effect.0, same_Ok _ d effect.2)

-- it has no entry
pub repeat-none : (s : State) (moment : ℤ) (caller : Caller) (command : Command) (d : Decided)
    → step s moment caller command ≡ Ok d → d.reply.repeat ≡ true → d.entry ≡ None
repeat-none s moment caller command d is again =
    let (who, at, effect, by) = decided-by s moment caller command d is in
    decided-repeat who at command effect d by again

-- ---- the cells behind a write

-- they are those of the state behind the entry
cells-turn : (s : State) (entry : Entry) (old new : Told) → IfSome old (λ found. found ≡ cells s)
    → Turns (put_changes (changes_of s entry)) old new
    → Turns (λ found. cells (after s entry)) old new
cells-turn s entry None None before turns = tt
cells-turn s entry None (Some new) before turns = absurd turns
cells-turn s entry (Some old) None before turns = tt
cells-turn s entry (Some old) (Some new) before turns =
    turns ∙ ap (put_changes (changes_of s entry)) before ∙ changes-lead s entry

-- where they are committed
pub kept-turn : {A E : Type 0} (result : Result A E) (s : State) (entry : Entry)
    (changes : List Change) (old new : Told) → changes ≡ changes_of s entry
    → IfSome old (λ found. found ≡ cells s)
    → OnOk result (Turns (put_changes changes) old new)
    → OnOk result (Turns (λ found. cells (after s entry)) old new)
kept-turn (Err e) s entry changes old new is before done = tt
kept-turn (Ok x) s entry changes old new is before done =
    cells-turn s entry old new before (subst (λ l. Turns (put_changes l) old new) is done)

pub cells-stay : (s t : State) (old new : Told) → IfSome old (λ found. found ≡ cells s)
    → Stays old new → t ≡ s → Turns (λ found. cells t) old new
cells-stay s t None None before stays is = tt
cells-stay s t None (Some new) before stays is = absurd stays
cells-stay s t (Some old) None before stays is = tt
cells-stay s t (Some old) (Some new) before stays is = stays ∙ before ∙ ap cells (sym is)

-- ---- what is decided

-- it leads from a valid state to a valid one, and from a sound state to a sound one
module _ (s : State) (moment : ℤ) (caller : Caller) (command : Command) (d : Decided)
    (is : step s moment caller command ≡ Ok d) (sound : IsTrue (is_sound s)) where
  abbrev write_of : Entry → Write
  write_of entry = record { moment = moment; caller = caller; command = command; entry = entry }

  decided-sound : (found : Option Entry) → d.entry ≡ found → IsTrue (is_sound (state_after s found))
  decided-sound None at = sound
  decided-sound (Some entry) at = sound-after s (write_of entry) (d, is, at) sound

  decided-valid : IsTrue (is_write moment command) → IsTrue (is_valid s) → (found : Option Entry)
      → d.entry ≡ found → IsTrue (is_valid (state_after s found))
  decided-valid sent valid None at = valid
  decided-valid sent valid (Some entry) at =
      valid-after s (write_of entry) (d, is, at) sent sound valid

-- the entry of what is decided is settled
pub entry-settled : (s : State) (moment : ℤ) (caller : Caller) (command : Command) (d : Decided)
    → step s moment caller command ≡ Ok d → IfSome d.entry (λ entry. is_settled s entry ≡ true)
entry-settled s moment caller command d is = by_entry d.entry refl
  where
    by_entry : (found : Option Entry) → d.entry ≡ found
        → IfSome found (λ entry. is_settled s entry ≡ true)
    by_entry None at = tt
    by_entry (Some entry) at = accepted-settled s moment caller command d entry is at

-- ---- what stands behind a write

cells-behind : (t : State) (old new : Told) → Turns (λ found. cells t) old new
    → IfSome new (λ found. found ≡ cells t)
cells-behind t old None turns = tt
cells-behind t None (Some new) turns = absurd turns
cells-behind t (Some old) (Some new) turns = turns

-- what holds before a write, and behind what was decided, holds behind it
led : (P : State → Type 0) (s t u : State) → (t ≡ s) ⊎ (t ≡ u) → P s → P u → P t
led P s t u (inl is) before behind = subst P (sym is) before
led P s t u (inr is) before behind = subst P (sym is) behind

pub stands-behind : (s : State) (moment : ℤ) (caller : Caller) (command : Command) (d : Decided)
    → step s moment caller command ≡ Ok d → IsTrue (is_write moment command)
    → (t : State) (old new : Told) → Stands old s → (t ≡ s) ⊎ (t ≡ state_after s d.entry)
    → Turns (λ found. cells t) old new → Stands new t
stands-behind s moment caller command d is sent t old new stands leads turns = record {
  cells_are = cells-behind t old new turns;
  valid =
      led (λ t. IsTrue (is_valid t)) s t (state_after s d.entry) leads stands.valid
      (decided-valid s moment caller command d is stands.sound sent stands.valid d.entry refl);
  sound =
      led (λ t. IsTrue (is_sound t)) s t (state_after s d.entry) leads stands.sound
      (decided-sound s moment caller command d is stands.sound d.entry refl);
}

-- ---- where memory runs out

same-behind : (f g : Shown) → f.state ≡ g.state → f.waiting ≡ g.waiting → behind f ≡ behind g
same-behind f g state waiting =
    ap (λ s. state_after s f.waiting) state ∙ ap (state_after g.state) waiting

module _ (entry : Option Entry) (before front : Shown) (none : before.waiting ≡ None)
    (old new : Told) where
  shown-before : behind before ≡ before.state
  shown-before = ap (state_after before.state) none

  stops-led : Stops entry before.state front old new
      → (behind front ≡ before.state) ⊎ (behind front ≡ state_after before.state entry)
  stops-led (inl h) = inl (same-behind front (all_shown before.state) h.0 h.1)
  stops-led (inr h) = inr (ap behind h.2 ∙ ap (state_after before.state) (sym h.1))

  -- the state after a write is the one before, or the one that was decided
  pub leads-either : (result : Result WriteReply WriteError)
      → OnOk result (behind front ≡ state_after before.state entry)
      → ((refusal : Refused) → ¬ (result ≡ Err (error.Refused refusal)))
      → (result ≡ Err error.Keeper → behind front ≡ before.state)
      → (result ≡ Err error.Memory → Stops entry before.state front old new)
      → (behind front ≡ before.state) ⊎ (behind front ≡ state_after before.state entry)
  leads-either (Ok reply) ok none still stops = inr ok
  leads-either (Err (error.Refused refusal)) ok none still stops = absurd (none refusal refl)
  leads-either (Err error.Keeper) ok none still stops = inl (still refl)
  leads-either (Err error.Memory) ok none still stops = stops-led (stops refl)

  pub stops-runs_out : (step : Result Decided Refused) (d : Decided) (m n : ℕ) → step ≡ Ok d
      → d.entry ≡ entry → Stops entry before.state front old new
      → RunsOut step (desk_of before old m) (desk_of front new n)
  stops-runs_out step d m n is has (inl h) =
      inl (
        record { same_state = same-behind front before h.0 (h.1 ∙ sym none); stays = h.2 },
        inl (h.0, h.1 ∙ sym none),
      )
  stops-runs_out step d m n is has (inr h) = inr (record {
    write = d;
    entry = h.0;
    is = is;
    has = has ∙ h.1;
    leads = ap behind h.2 ∙ ap (λ s. after s h.0) (sym shown-before);
    shown = ap (λ f. f.state) h.2 ∙ sym shown-before;
    waits = ap (λ f. f.waiting) h.2;
  })

module _ (step : Result Decided Refused) (before : Shown) (told : Told) (m : ℕ) where
  -- nothing was written
  pub leaves-runs_out : (front : Shown) → front ≡ before
      → RunsOut step (desk_of before told m) (desk_of front told m)
  leaves-runs_out front same =
      inl (
        record { same_state = ap behind same; stays = stays-same told },
        inl (ap (λ f. f.state) same, ap (λ f. f.waiting) same),
      )

  -- what runs out where all is shown, runs out where an entry waited before
  module _ (mid : Shown) (new : Store) (is : mid ≡ all_shown (behind before)) where
    shown-look : KeepsLook (desk_of mid told m) new → KeepsLook (desk_of before told m) new
    shown-look (inl h) = inr (h.0 ∙ ap (λ f. f.state) is, h.1 ∙ ap (λ f. f.waiting) is)
    shown-look (inr h) = inr (h.0 ∙ ap behind is, h.1)

    pub shown-runs_out : RunsOut step (desk_of mid told m) new
        → RunsOut step (desk_of before told m) new
    shown-runs_out (inl h) =
        inl
        (record { same_state = h.0.same_state ∙ ap behind is; stays = h.0.stays }, shown-look h.1)
    shown-runs_out (inr h) = inr (record {
      write = h.write;
      entry = h.entry;
      is = h.is;
      has = h.has;
      leads = h.leads ∙ ap (λ f. after (behind f) h.entry) is;
      shown = h.shown ∙ ap behind is;
      waits = h.waits;
    })

-- ---- a repeat

module _ (s : State) (moment : ℤ) (caller : Caller) (command : Command) (d : Decided)
    (is : step s moment caller command ≡ Ok d) where
  -- what holds where there is no entry holds of a repeat
  pub repeat-keeps : (P : Type 0) (result : Result WriteReply WriteError)
      → IfOk result (λ reply. reply ≡ d.reply) → (d.entry ≡ None → P)
      → IfOk result (λ reply. reply.repeat ≡ true → P)
  repeat-keeps P (Err e) replies keeps = tt
  repeat-keeps P (Ok reply) replies keeps =
      λ again. keeps (repeat-none s moment caller command d is
      (ap (λ (r : WriteReply). r.repeat) (sym replies) ∙ again))

  pub repeat-still : (t : State) (result : Result WriteReply WriteError)
      → IfOk result (λ reply. reply ≡ d.reply) → OnOk result (t ≡ state_after s d.entry)
      → IfOk result (λ reply. reply.repeat ≡ true → t ≡ s)
  repeat-still t (Err e) replies leads = tt
  repeat-still t (Ok reply) replies leads =
      λ again. leads
      ∙ ap (state_after s) (repeat-none s moment caller command d is
      (ap (λ (r : WriteReply). r.repeat) (sym replies) ∙ again))
