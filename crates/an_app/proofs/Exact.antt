-- What the status of a run says of the cells, where the keeper told them before it and tells them
-- after it: over a kind of keeper that always tells them each status is exact.
use Rattle.std.proofs.Common.{◌≡◌, ℕ, ℤ, Bool, ⊎_elim, List, Option, Some, None, IsSome, Result, Ok, Err, refl, sym, subst}
use Rattle.std.proofs.lemmas.Bool.{false≢true}
use Rattle.an_keep.specs.Keeper.{Told, WhileTold}
use Rattle.an_keep.specs.declared.cell.Cell.{Cell}
use Rattle.an_rows.specs.Cells.{state_of}
use Rattle.an_state.specs.State.{State}
use Rattle.an_shelf.specs.Opening.{IsDamagedBy, StandFor}
use Rattle.an_shelf.specs.declared.error.OpenError.TheVariants as error
use Rattle.an_world.specs.Link.{Traffic}
use Rattle.an_session.specs.Session.{Line}
use Rattle.an_session.specs.declared.ended.Ended.{Ended}
use Rattle.an_session.specs.declared.ended.Ended.TheVariants as ended
use Rattle.an_lines.specs.Export.{export_report, export_told, view_named}
use Rattle.an_lines.specs.Find.{Report}
use Rattle.an_lines.specs.ImportEnds.{Imports}
use Rattle.an_lines.specs.Status.{Finds, Misunderstands, TellsReport, misunderstood}
use Rattle.an_lines.specs.Told.{IsTold}
use Rattle.an_lines.proofs.HarvestLemmas.{Harvests-undamaged}
use Rattle.an_lines.specs.Trials.{trial_report}
use Rattle.an_lines.specs.declared.status.Status.{Status}
use Rattle.an_lines.specs.declared.status.Status.TheVariants as status
use Rattle.an_list.specs.Site.{Site}
use Rattle.an_app.specs.declared.form.Form.{Form}
use Rattle.an_app.specs.declared.form.Form.TheVariants as form
use Rattle.an_app.specs.AtStore.{ExportsAt, HarvestsAt}
use Rattle.an_app.specs.Exact.{IsOfOpened, OpensStore}
use Rattle.an_app.specs.Outside.{Outside}
use Rattle.an_app.specs.Runs.{Runs}
use Rattle.an_app.specs.Serving.{DoorEnd, ServesTo}
use Rattle.an_app.specs.SessionEnds.{ended_status}
use Rattle.an_app.specs.Unopened.{IsCause, Unopened, UnopenedAt}
use Rattle.an_app.proofs.RunLemmas.{export_told-is}
use Rattle.std.specs.Prelude.{IfNone, IfSome}

while-told : (P : Told → Type 0) (before after : Told) (found : List Cell) → before ≡ Some found
    → IsSome after → WhileTold before after (P before) → P (Some found)
while-told P before None found told still holds = absurd (false≢true still)
while-told P None (Some now) found told still holds = absurd (cc)
while-told P (Some cells) (Some now) found told still holds = subst P told holds

tells-undamaged : (report : Report) (Failed : Type 0) (old new : Option Traffic) (tab key : ℕ)
    → IsTold report.status → TellsReport report Failed old new (status.Damaged tab key) → ⊥
unfolding TellsReport
tells-undamaged report Failed old new tab key is run = subst IsTold run.0 is

module _ (outside : Outside) (door : DoorEnd) (clock : ℤ → Bool) (old new : Line)
    (found : List Cell) (told : outside.before ≡ Some found) (still : IsSome outside.after) where
  -- ---- the status for damage

  found-damaged : (tab key : ℕ)
      → UnopenedAt outside old.traffic new.traffic (status.Damaged tab key)
      → state_of found ≡ Err (record { tab = tab; key = key })
  unfolding Unopened
  found-damaged tab key (stays, (cause, shown)) =
      while-told (λ told. IsDamagedBy told (error.Damaged tab key)) outside.before outside.after
      found told still cause

  find-undamaged : (site : Site) (tab key : ℕ)
      → Finds site outside.read_failed outside.write_failed old.traffic new.traffic
      (status.Damaged tab key)
      → ⊥
  unfolding Finds
  find-undamaged site tab key run = run

  import-undamaged : (s t : State) (tab key : ℕ)
      → Imports outside.read_failed outside.write_failed outside.keeper_can_fail old.traffic
      new.traffic s t (status.Damaged tab key)
      → ⊥
  unfolding Imports
  import-undamaged s t tab key run = run

  serve-undamaged : (port most : ℕ) (tab key : ℕ)
      → ServesTo door outside.write_failed port most old.traffic new.traffic
      (status.Damaged tab key)
      → ⊥
  unfolding ServesTo
  serve-undamaged port most tab key run = run

  ended-undamaged : (ended : Ended) (tab key : ℕ) → status.Damaged tab key ≡ ended_status ended → ⊥
  ended-undamaged ended.Closed tab key is = cc
  ended-undamaged ended.ReadFault tab key is = cc
  ended-undamaged ended.WriteFault tab key is = cc
  ended-undamaged ended.Memory tab key is = cc

  export-damaged : (by : List ℕ) (tab key : ℕ)
      → ExportsAt outside by old.traffic new.traffic (status.Damaged tab key)
      → state_of found ≡ Err (record { tab = tab; key = key })
  unfolding ExportsAt
  export-damaged by tab key run =
      ⊎_elim (λ opened. absurd (tells-undamaged
      (export_report opened.state by) outside.write_failed old.traffic new.traffic tab key
      (export_told-is outside door clock old new (view_named opened.state by)) opened.tells))
      (λ refused. found-damaged tab key refused) run

  harvest-damaged : (site : Site) (by : List ℕ) (tab key : ℕ)
      → HarvestsAt outside site by old.traffic new.traffic (status.Damaged tab key)
      → state_of found ≡ Err (record { tab = tab; key = key })
  unfolding HarvestsAt
  harvest-damaged site by tab key run =
      ⊎_elim (λ opened. absurd (Harvests-undamaged site opened.state by outside.write_failed
      old.traffic new.traffic tab key opened.harvests))
      (λ refused. found-damaged tab key refused) run

  -- a run that reports damage had these cells, which stand for no state, and that one is the first
  -- damaged one
  pub damage-is-exact : (form : Form) (tab key : ℕ)
      → Runs outside door clock old new (status.Damaged tab key) form
      → state_of found ≡ Err (record { tab = tab; key = key })
  damage-is-exact (form.Find site) tab key run = absurd (find-undamaged site tab key run.1)
  damage-is-exact form.Import tab key run =
      ⊎_elim
      (λ opened. absurd (import-undamaged opened.before opened.behind tab key opened.imports))
      (λ refused. found-damaged tab key refused) run
  damage-is-exact (form.Export by) tab key run = export-damaged by tab key run
  damage-is-exact (form.Harvest site by) tab key run = harvest-damaged site by tab key run
  damage-is-exact (form.Session site) tab key run =
      ⊎_elim (λ opened. absurd (ended-undamaged opened.ended tab key opened.is))
      (λ refused. found-damaged tab key refused) run
  damage-is-exact (form.Serve serving) tab key run =
      ⊎_elim
      (λ opened. absurd (serve-undamaged serving.port serving.connections tab key opened.ends))
      (λ refused. found-damaged tab key refused) run
  damage-is-exact (form.Trial count seed) tab key run =
      absurd (tells-undamaged (trial_report (record { count = count; seed = seed }))
      outside.write_failed old.traffic new.traffic tab key tt run.1)

  -- ---- the others

  found-for : (s : State) → WhileTold outside.before outside.after (StandFor outside.before s)
      → state_of found ≡ Ok s
  found-for s opens =
      while-told (λ told. StandFor told s) outside.before outside.after found told still opens

  never-unopened : (end : Status) → IsOfOpened end → UnopenedAt outside old.traffic new.traffic end
      → ⊥
  unfolding Unopened
  never-unopened status.Done of (stays, run) = run
  never-unopened status.Misunderstood of (stays, run) = run
  never-unopened status.Refused of (stays, run) = run
  never-unopened status.ReadFault of (stays, run) = run
  never-unopened status.NoReader of (stays, run) = run
  never-unopened status.DoorFailed of (stays, run) = run
  never-unopened status.WriteFault of run = absurd of
  never-unopened status.KeeperFailed of run = absurd of
  never-unopened status.Memory of run = absurd of
  never-unopened (status.Damaged tab key) of run = absurd of

  export-stands : (by : List ℕ) (end : Status) → IsOfOpened end
      → ExportsAt outside by old.traffic new.traffic end → (s : State) × (state_of found ≡ Ok s)
  unfolding ExportsAt
  export-stands by end of run =
      ⊎_elim (λ opened. (opened.state, found-for opened.state opened.opens))
      (λ refused. absurd (never-unopened end of refused)) run

  harvest-stands : (site : Site) (by : List ℕ) (end : Status) → IsOfOpened end
      → HarvestsAt outside site by old.traffic new.traffic end
      → (s : State) × (state_of found ≡ Ok s)
  unfolding HarvestsAt
  harvest-stands site by end of run =
      ⊎_elim (λ opened. (opened.state, found-for opened.state opened.opens))
      (λ refused. absurd (never-unopened end of refused)) run

  -- a run that ends so at a store had cells that stand for a state
  pub opening-is-exact : (form : Form) (end : Status) → OpensStore form → IsOfOpened end
      → Runs outside door clock old new end form → (s : State) × (state_of found ≡ Ok s)
  opening-is-exact (form.Find site) end opens of run = absurd opens
  opening-is-exact form.Import end opens of run =
      ⊎_elim (λ opened. (opened.before, found-for opened.before opened.opens))
      (λ refused. absurd (never-unopened end of refused)) run
  opening-is-exact (form.Export by) end opens of run = export-stands by end of run
  opening-is-exact (form.Harvest site by) end opens of run = harvest-stands site by end of run
  opening-is-exact (form.Session site) end opens of run =
      ⊎_elim (λ opened. (opened.state, found-for opened.state opened.opens))
      (λ refused. absurd (never-unopened end of refused)) run
  opening-is-exact (form.Serve serving) end opens of run =
      ⊎_elim (λ opened. (opened.state, found-for opened.state opened.opens))
      (λ refused. absurd (never-unopened end of refused)) run
  opening-is-exact (form.Trial count seed) end opens of run = absurd opens

  -- ---- whatever the words are

  pub run-damaged : (form : Option Form) (end : Status) (tab key : ℕ)
      → IfSome form (Runs outside door clock old new end)
      → IfNone form (Misunderstands outside.write_failed old.traffic new.traffic end)
      → end ≡ status.Damaged tab key → state_of found ≡ Err (record { tab = tab; key = key })
  run-damaged None end tab key understood run is =
      absurd (tells-undamaged misunderstood outside.write_failed old.traffic new.traffic tab key tt
      (subst (λ end. Misunderstands outside.write_failed old.traffic new.traffic end) is run))
  run-damaged (Some form) end tab key run misunderstood is =
      damage-is-exact form tab key (subst (λ end. Runs outside door clock old new end form) is run)

  pub run-stands : (form : Option Form) (end : Status)
      → IfSome form (Runs outside door clock old new end)
      → IfSome form
      (λ form. OpensStore form → IsOfOpened end → (s : State) × (state_of found ≡ Ok s))
  run-stands None end run = tt
  run-stands (Some form) end run = λ opens of. opening-is-exact form end opens of run
