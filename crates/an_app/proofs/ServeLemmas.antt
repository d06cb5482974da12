-- How the end of a door's workers is the end of a run.
use Rattle.std.proofs.Common.{◌≡◌, ◌<◌, ℕ, List, [], ◌∷◌, ◌++◌, Option, Some, None, IsSome, refl, sym, subst, arith}
use Rattle.std.proofs.lemmas.Bool.{false≢true}
use mathlib.Core.List.{IsPrefix}
use Rattle.an_keep.specs.Keeper.{Told, Turns}
use Rattle.an_keep.specs.declared.cell.Cell.{Cell}
use Rattle.an_laws.specs.Events.{AreKept, Event, IsLegal, Keeps, Opened, Wrote, state_at, told_at, told_behind}
use Rattle.an_published.proofs.Lists.{prefix_trans}
use Rattle.an_state.specs.State.{State}
use Rattle.an_store.specs.Opening.{Closes}
use Rattle.an_world.specs.Link.{Traffic, Writes}
use Rattle.an_door.specs.Doors.{Breaks, Serves, door_text, end_text, served_text}
use Rattle.an_door.specs.declared.serving.Status.{Status as Ending}
use Rattle.an_door.specs.declared.serving.Status.TheVariants as ending
use Rattle.an_lines.specs.Status.{Exchanges, ReadsLittle}
use Rattle.an_lines.proofs.StatusLemmas.{exchange-read, reads-nothing, reads_little, reads_little-none, reads_little-nothing}
use Rattle.an_app.specs.Serving.{DoorEnd, ServesTo, serving_status}

module _ (door : DoorEnd) (Failed : Type 0) (port most : ℕ) (old new : Option Traffic) where
  pub serves-to : (status : Ending) → (status ≡ ending.Done → Serves port most door.tally old new)
      → (status ≡ ending.DoorFailed → (0 < door.faults) × Writes door_text old new)
      → (status ≡ ending.WriteFault → Failed × Breaks port most door.tally door.faults old new)
      → (status ≡ ending.Memory → new ≡ old)
      → ServesTo door Failed port most old new (serving_status status)
  unfolding ServesTo
  serves-to ending.Done done shut failed memory = done refl
  serves-to ending.DoorFailed done shut failed memory = shut refl
  serves-to ending.WriteFault done shut failed memory = failed refl
  serves-to ending.Memory done shut failed memory =
      subst (λ now. Exchanges [] [] old now) (sym (memory refl))
      (exchange-read [] old old (reads-nothing old))

  -- nothing was read
  pub serves-reads : (status : Ending)
      → (status ≡ ending.Done → Serves port most door.tally old new)
      → (status ≡ ending.DoorFailed → (0 < door.faults) × Writes door_text old new)
      → (status ≡ ending.WriteFault → Failed × Breaks port most door.tally door.faults old new)
      → (status ≡ ending.Memory → new ≡ old) → ReadsLittle old new
  serves-reads ending.Done done shut failed memory =
      let serves = done refl in
      reads_little old old new (served_text serves.count)
      ([], reads-nothing old, omega arith) serves.told
  serves-reads ending.DoorFailed done shut failed memory =
      reads_little old old new door_text ([], reads-nothing old, omega arith) (shut refl).1
  serves-reads ending.WriteFault done shut failed memory =
      let (failed, breaks) = failed refl in
      reads_little-none old new (end_text breaks.count) breaks.front
  serves-reads ending.Memory done shut failed memory =
      subst (λ now. ReadsLittle old now) (sym (memory refl)) (reads_little-nothing old)

-- ---- what is told after the store was closed

-- a store that goes on from a list goes on from what that begins with
pub closes-before : (first seen : List Event) (told : Told) → IsPrefix first seen → Closes seen told
    → Closes first told
closes-before first seen told before k = record {
  list = k.list;
  later = prefix_trans first seen k.list before k.later;
  legal = k.legal;
  keeps = k.keeps;
  cells = k.cells;
  stand = k.stand;
}

turns-tells : (change : List Cell → List Cell) (old new : Told) → Turns change old new → IsSome new
    → IsSome old
turns-tells change old None turns some = absurd (false≢true some)
turns-tells change None (Some new) turns some = absurd turns
turns-tells change (Some old) (Some new) turns some = refl

-- where cells are told after writes that were kept they were told before
kept-tells : (before : Told) (s : State) (events : List Event) → AreKept before s events
    → IsSome (told_behind before events) → IsSome before
kept-tells before s [] kept some = some
kept-tells before s (Opened found told ∷ events) kept some = absurd kept
kept-tells before s (Wrote write told ∷ events) (accepted, keeps, kept) some =
    turns-tells _ before told keeps (kept-tells told _ events kept some)

legal-tells : (s : State) (opened : Told) (list : List Event) → IsPrefix (Opened s opened ∷ []) list
    → IsLegal list → IsSome (told_at list) → IsSome opened
legal-tells s opened list (more, is) legal some =
    let kept : IsLegal (Opened s opened ∷ more) = subst IsLegal (sym is) legal in
    let tells : IsSome (told_behind opened more) =
    subst (λ (l : List Event). IsSome (told_at l)) (sym is) some in
    kept-tells opened s more kept.3 tells

-- a keeper that tells its cells after the store was closed told them once it was opened
pub closed-tells : (s : State) (opened told : Told) → Closes (Opened s opened ∷ []) told
    → IsSome told → IsSome opened
closed-tells s opened told k some =
    legal-tells s opened k.list k.later k.legal (turns-tells _ (told_at k.list) told k.keeps some)
