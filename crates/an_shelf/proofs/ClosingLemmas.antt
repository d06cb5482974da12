-- A store that is closed and opened again is what it was.
use Rattle.std.proofs.Common.{◌≡◌, ℕ, ℤ, List, ◌∷◌, ◌++◌, Some, None, Result, Ok, Err, IsTrue, sym, ap, subst, ◌∙◌}
use Rattle.std.specs.Prelude.{IfOk, IfErr}
use Rattle.an_keep.specs.Keeper.{Told, StaysOrBegins, WhileTold}
use Rattle.an_laws.specs.Numbers.{AddsNothing}
use Rattle.an_laws.proofs.NumberLemmas.{sent_again}
use Rattle.an_machine.specs.Legal.{Legal, Write, state_of}
use Rattle.an_machine.specs.Step.{step}
use Rattle.an_policy.specs.declared.who.Caller.{Caller}
use Rattle.an_rows.specs.Cells as rows
use Rattle.an_rows.proofs.RestoreLemmas.{cells-today}
use Rattle.an_state.specs.Sound.{is_sound}
use Rattle.an_state.specs.State.{State}
use Rattle.an_shelf.specs.Opening.{IsDamagedBy, StandFor, WasOpened}
use Rattle.an_shelf.specs.Store.{Stands, Store}
use Rattle.an_shelf.specs.declared.error.OpenError.{OpenError}
use Rattle.an_shelf.specs.declared.error.OpenError.TheVariants.{Damaged}

same_Ok : (s t : State) → ◌≡◌ {A = Result State rows.Place} (Ok s) (Ok t) → s ≡ t
same_Ok s t is = cc

-- the cells of a desk stand for its state
pub stand-for : (found : Told) (s : State) → Stands found s → StandFor found s
stand-for None s stands = tt
stand-for (Some its) s stands =
    ap rows.state_of stands.cells_are ∙ cells-today s stands.valid stands.sound

pub ruleset closing = (stand-for)

-- a store that is opened has the state that its cells stand for
same-state : (old new : Told) (s t : State) → StandFor old s → WasOpened old new t
    → WhileTold old new (t ≡ s)
same-state old None s t was opened = tt
same-state None (Some new) s t was opened = tt
same-state (Some old) (Some new) s t was opened = same_Ok t s (sym opened ∙ was)

-- what follows from what holds while cells are told does so too
while-told : (old new : Told) (P Q : Type 0) → (P → Q) → WhileTold old new P → WhileTold old new Q
while-told old None P Q follows holds = tt
while-told None (Some new) P Q follows holds = tt
while-told (Some old) (Some new) P Q follows holds = follows holds

-- ---- a desk that was opened with the cells of one that was closed

module _ (desk : Store) (stand : StandFor desk.told desk.state) (kept : Told)
    (is : kept ≡ desk.told) where
  pub again-same : {E : Type 0} (result : Result Store E)
      → IfOk result (λ again. WasOpened kept again.told again.state)
      → IfOk result (λ again. WhileTold desk.told again.told (again.state ≡ desk.state))
  again-same (Err error) opened = tt
  again-same (Ok again) opened =
      same-state desk.told again.told desk.state again.state stand
      (subst (λ told. WasOpened told again.told again.state) is opened)

  pub again-nothing : {E : Type 0} (result : Result Store E)
      → IfOk result (λ again. WhileTold desk.told again.told (again.state ≡ desk.state))
      → (s : State) (before behind : List Write) (write : Write) (moment : ℤ) (caller : Caller)
      → IsTrue (is_sound s) → Legal s (before ++ (write ∷ behind))
      → desk.state ≡ state_of s (before ++ (write ∷ behind))
      → IfOk result (λ again.
      WhileTold desk.told again.told (AddsNothing (step again.state moment caller write.command)))
  again-nothing (Err error) same s before behind write moment caller sound legal leads = tt
  again-nothing (Ok again) same s before behind write moment caller sound legal leads =
      while-told desk.told again.told (again.state ≡ desk.state)
      (AddsNothing (step again.state moment caller write.command))
      (λ same. subst (λ t. AddsNothing (step t moment caller write.command)) (sym (same ∙ leads))
      (sent_again s before behind write moment caller sound legal))
      same

-- ---- damage

-- the cells of a desk aren't damaged
undamaged : (s : State) (tab key : ℕ) (old kept new : Told) → kept ≡ old → StandFor old s
    → StaysOrBegins kept new → (why : OpenError) → IsDamagedBy new why
    → WhileTold old new (¬ (why ≡ Damaged tab key))
undamaged s tab key old kept None same stand stays why damaged = tt
undamaged s tab key None kept (Some new) same stand stays why damaged = tt
undamaged s tab key (Some old) kept (Some new) same stand stays why damaged = λ is.
    let still : new ≡ old = subst (λ told. StaysOrBegins told (Some new)) same stays in
    let found : rows.state_of new ≡ Err (record { tab = tab; key = key }) =
    subst (IsDamagedBy (Some new)) is damaged in
    let clash : ◌≡◌ {A = Result State rows.Place} (Ok s) (Err (record { tab = tab; key = key })) =
    sym stand ∙ sym (ap rows.state_of still) ∙ found in
    absurd (cc)

module _ {D E : Type 0} (told_by : E → Told) (why_of : E → OpenError) (s : State) (tab key : ℕ)
    (old kept : Told) (same : kept ≡ old) (stand : StandFor old s) where
  pub again-undamaged : (result : Result D E)
      → IfErr result (λ its. StaysOrBegins kept (told_by its))
      → IfErr result (λ its. IsDamagedBy (told_by its) (why_of its))
      → IfErr result (λ its. WhileTold old (told_by its) (¬ (why_of its ≡ Damaged tab key)))
  again-undamaged (Ok desk) stays damaged = tt
  again-undamaged (Err its) stays damaged =
      undamaged s tab key old kept (told_by its) same stand stays (why_of its) damaged
