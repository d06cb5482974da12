-- How the calls of a run at a keeper add up to its end.
use Rattle.std.proofs.Common.{◌≡◌, ℕ, ℤ, Bool, ◌<◌, ◌≤◌, ◌∙◌, inl, inr, ⊎_elim, List, [], Option, Some, None, IfSome, IfNone, IsSome, refl, sym, subst, arith}
use Rattle.std.proofs.lemmas.Bool.{false≢true}
use Rattle.an_keep.specs.Keeper.{StaysOrBegins, Told}
use Rattle.an_state.specs.State.{State}
use Rattle.an_state.specs.View.{View}
use Rattle.an_list.specs.Site.{Site}
use Rattle.an_shelf.specs.Opening.{IsDamagedBy, StaysOrRenews, WasDamagedBy}
use Rattle.an_shelf.proofs.OpeningLemmas.{was-damaged}
use Rattle.an_shelf.specs.declared.error.OpenError.{OpenError}
use Rattle.an_shelf.specs.declared.error.OpenError.TheVariants as error
use Rattle.an_base.specs.Faults.{Rises}
use Rattle.an_world.specs.Link.{Traffic, WritesFront}
use Rattle.an_session.specs.Session.{Ends, Line, ReadsRequests}
use Rattle.an_session.specs.Trail.{Item}
use Rattle.an_session.specs.declared.ended.Ended.{Ended}
use Rattle.an_session.specs.declared.ended.Ended.TheVariants as ended
use Rattle.an_lines.specs.ImportEnds.{Imports}
use Rattle.an_app.specs.Unopened.{IsCause, LeavesCells, Unopened, UnopenedAt, unopened_text}
use Rattle.an_app.specs.AtStore.{ExportsAt, HarvestsAt}
use Rattle.an_lines.specs.Export.{export_report, export_told, view_named}
use Rattle.an_app.specs.SessionEnds.{ended_status}
use Rattle.an_app.specs.Serving.{DoorEnd, ServesTo}
use Rattle.an_lines.specs.Status.{Exchanges, Finds, IsUnfailing, Misunderstands, PrintsFront, ReadsLittle, misunderstood}
use Rattle.an_lines.specs.Told.{IsTold, Tells}
use Rattle.an_app.specs.Outside.{Outside, outside_of}
use Rattle.an_app.specs.Runs.{ReadsInput, Runs}
use Rattle.an_app.specs.declared.form.Form.{Form}
use Rattle.an_app.specs.declared.form.Form.TheVariants as form
use Rattle.an_lines.specs.Trials.{trial_report}
use Rattle.an_lines.specs.declared.status.Status.{Status}
use Rattle.an_lines.specs.declared.status.Status.TheVariants as status
use Rattle.an_lines.proofs.HarvestLemmas.{Harvests-kept, Harvests-shut, Harvests-unfailing}
use Rattle.an_lines.proofs.StatusLemmas.{Finds-no_memory, TellsReport-kept, TellsReport-nothing, TellsReport-shut, TellsReport-unfailing, exchange, exchange-read, prints-unread, reads_little-nothing, reads-nothing}

-- ---- a store that isn't opened

module _ (Cause : OpenError → Type 0) (Failed : Type 0) where
  keeper_whole : (old new : Option Traffic) → Cause error.Keeper
      → Exchanges [] (unopened_text error.Keeper) old new
      → Unopened Cause Failed old new status.KeeperFailed
  unfolding Unopened
  keeper_whole old new cause told = (cause, told)

  damage_whole : (old new : Option Traffic) (tab key : ℕ) → Cause (error.Damaged tab key)
      → Exchanges [] (unopened_text (error.Damaged tab key)) old new
      → Unopened Cause Failed old new (status.Damaged tab key)
  unfolding Unopened
  damage_whole old new tab key cause told = (cause, told)

  told_in_part : (old new : Option Traffic) (why : OpenError) → Failed → Cause why
      → PrintsFront [] (unopened_text why) old new → Unopened Cause Failed old new status.WriteFault
  unfolding Unopened
  told_in_part old new why failed cause front = (failed, (why, cause, front))

  -- why the store isn't opened was told
  told_why : (text : List ℕ) (old new : Option Traffic) (why : OpenError) (meant end : Status)
      → text ≡ unopened_text why → Cause why
      → (Exchanges [] (unopened_text why) old new → Unopened Cause Failed old new meant)
      → WritesFront text old new → Tells Failed text old new meant end
      → Unopened Cause Failed old new end
  told_why text old new why meant end is cause whole front tells =
      let P : Status → Type 0 = λ end. Unopened Cause Failed old new end in
      ⊎_elim
      (λ (same, w). subst P (sym same)
      (whole (subst (λ text. Exchanges [] text old new) is
      (exchange [] text old old new (reads-nothing old) w))))
      (λ (same, failed). subst P (sym same)
      (told_in_part old new why failed cause
      (subst (λ text. PrintsFront [] text old new) is (prints-unread text old new front))))
      tells

  pub Unopened-keeper : (text : List ℕ) (old new : Option Traffic) (end : Status)
      → text ≡ unopened_text error.Keeper → Cause error.Keeper
      → WritesFront text old new → Tells Failed text old new status.KeeperFailed end
      → Unopened Cause Failed old new end
  Unopened-keeper text old new end is cause front tells =
      told_why text old new error.Keeper status.KeeperFailed end is cause
      (keeper_whole old new cause) front tells

  pub Unopened-damaged : (text : List ℕ) (old new : Option Traffic) (tab key : ℕ) (end : Status)
      → text ≡ unopened_text (error.Damaged tab key) → Cause (error.Damaged tab key)
      → WritesFront text old new → Tells Failed text old new (status.Damaged tab key) end
      → Unopened Cause Failed old new end
  Unopened-damaged text old new tab key end is cause front tells =
      told_why text old new (error.Damaged tab key) (status.Damaged tab key) end is cause
      (damage_whole old new tab key cause) front tells

  pub Unopened-no_memory : (traffic : Option Traffic)
      → Unopened Cause Failed traffic traffic status.Memory
  unfolding Unopened
  Unopened-no_memory traffic = exchange-read [] traffic traffic (reads-nothing traffic)

  unopened_unfailing : (old new : Option Traffic) (end : Status) → ¬ Failed
      → Unopened Cause Failed old new end → IsUnfailing end
  unfolding Unopened
  unopened_unfailing old new status.WriteFault written run = absurd (written run.0)
  unopened_unfailing old new status.ReadFault written run = absurd run
  unopened_unfailing old new status.Done written run = tt
  unopened_unfailing old new status.Misunderstood written run = tt
  unopened_unfailing old new status.Refused written run = tt
  unopened_unfailing old new status.KeeperFailed written run = tt
  unopened_unfailing old new status.Memory written run = tt
  unopened_unfailing old new (status.Damaged tab key) written run = tt
  unopened_unfailing old new status.NoReader written run = absurd run
  unopened_unfailing old new status.DoorFailed written run = absurd run

  unopened_kept : (old new : Option Traffic) → ¬ (Cause error.Keeper)
      → Unopened Cause Failed old new status.KeeperFailed → ⊥
  unfolding Unopened
  unopened_kept old new kept run = kept run.0

-- another cause is behind it
pub Unopened-for : (Cause Other : OpenError → Type 0) (Failed : Type 0) (old new : Option Traffic)
    (end : Status) → ((why : OpenError) → Cause why → Other why)
    → Unopened Cause Failed old new end → Unopened Other Failed old new end
unfolding Unopened
Unopened-for Cause Other Failed old new status.KeeperFailed other run =
    (other error.Keeper run.0, run.1)
Unopened-for Cause Other Failed old new (status.Damaged tab key) other run =
    (other (error.Damaged tab key) run.0, run.1)
Unopened-for Cause Other Failed old new status.WriteFault other (failed, told) =
    let (why, cause, front) = told in (failed, (why, other why cause, front))
Unopened-for Cause Other Failed old new status.Memory other run = run
Unopened-for Cause Other Failed old new status.Done other run = absurd run
Unopened-for Cause Other Failed old new status.Refused other run = absurd run
Unopened-for Cause Other Failed old new status.ReadFault other run = absurd run
Unopened-for Cause Other Failed old new status.Misunderstood other run = absurd run
Unopened-for Cause Other Failed old new status.NoReader other run = absurd run
Unopened-for Cause Other Failed old new status.DoorFailed other run = absurd run

-- why a keeper wasn't opened; the link isn't asked
pub open_cause : (before after : Told) (can_fail : Type 0) (failed : OpenError)
    → (failed ≡ error.Keeper → can_fail) → WasDamagedBy before after failed
    → (why : OpenError) → ((why ≡ failed) × ¬ (why ≡ error.Memory))
    → IsCause (outside_of before after can_fail ⊥ ⊥) why
open_cause before after can_fail failed unkept damaged error.Keeper (is, some) = unkept (sym is)
open_cause before after can_fail failed unkept damaged (error.Damaged tab key) (is, some) =
    subst (WasDamagedBy before after) (sym is) damaged
open_cause before after can_fail failed unkept damaged error.Memory (is, some) = absurd (some refl)

-- a run whose store isn't opened changes no cell
stays-leaves : (end : Status) (before after : Told) → StaysOrBegins before after
    → LeavesCells end before after
stays-leaves status.Memory before after stays = inl stays
stays-leaves status.Done before after stays = stays
stays-leaves status.WriteFault before after stays = stays
stays-leaves status.ReadFault before after stays = stays
stays-leaves status.Misunderstood before after stays = stays
stays-leaves status.Refused before after stays = stays
stays-leaves status.KeeperFailed before after stays = stays
stays-leaves (status.Damaged tab key) before after stays = stays
stays-leaves status.NoReader before after stays = stays
stays-leaves status.DoorFailed before after stays = stays

-- or has only turned those of the first format, where memory ran out
renews-leaves : (end : Status) (before after : Told) (failed : OpenError) (writes : Type 0)
    (old new : Option Traffic) → StaysOrRenews before after
    → (¬ (failed ≡ error.Memory) → StaysOrBegins before after)
    → Unopened (λ why. (why ≡ failed) × ¬ (why ≡ error.Memory)) writes old new end
    → LeavesCells end before after
unfolding Unopened
renews-leaves status.Memory before after failed writes old new renews stays run = renews
renews-leaves status.KeeperFailed before after failed writes old new renews stays run =
    stays (λ is. run.0.1 (run.0.0 ∙ is))
renews-leaves (status.Damaged tab key) before after failed writes old new renews stays run =
    stays (λ is. run.0.1 (run.0.0 ∙ is))
renews-leaves status.WriteFault before after failed writes old new renews stays (written, told) =
    let (why, cause, front) = told in stays (λ is. cause.1 (cause.0 ∙ is))
renews-leaves status.Done before after failed writes old new renews stays run = absurd run
renews-leaves status.ReadFault before after failed writes old new renews stays run = absurd run
renews-leaves status.Misunderstood before after failed writes old new renews stays run = absurd run
renews-leaves status.Refused before after failed writes old new renews stays run = absurd run
renews-leaves status.NoReader before after failed writes old new renews stays run = absurd run
renews-leaves status.DoorFailed before after failed writes old new renews stays run = absurd run

unopened-left : (before kept after : Told) (can_fail writes : Type 0) (failed : OpenError)
    (old new : Option Traffic) (end : Status) → LeavesCells end before kept
    → WasDamagedBy before kept failed
    → (failed ≡ error.Keeper → can_fail) → after ≡ kept
    → Unopened (λ why. (why ≡ failed) × ¬ (why ≡ error.Memory)) writes old new end
    → UnopenedAt (outside_of before after can_fail ⊥ writes) old new end
unopened-left before kept after can_fail writes failed old new end leaves damaged unkept same told =
    subst (λ now. UnopenedAt (outside_of before now can_fail ⊥ writes) old new end) (sym same)
    (leaves, Unopened-for _ _ _ _ _ _ (open_cause before kept can_fail failed unkept damaged) told)

pub unopened-at : (before kept after : Told) (can_fail writes : Type 0) (failed : OpenError)
    (old new : Option Traffic) (end : Status) → StaysOrBegins before kept → IsDamagedBy kept failed
    → (failed ≡ error.Keeper → can_fail) → after ≡ kept
    → Unopened (λ why. (why ≡ failed) × ¬ (why ≡ error.Memory)) writes old new end
    → UnopenedAt (outside_of before after can_fail ⊥ writes) old new end
unopened-at before kept after can_fail writes failed old new end stays damaged unkept same told =
    unopened-left before kept after can_fail writes failed old new end
    (stays-leaves end before kept stays)
    (was-damaged before kept failed stays damaged) unkept same told

pub unopened-renewed : (before kept after : Told) (can_fail writes : Type 0) (failed : OpenError)
    (old new : Option Traffic) (end : Status) → StaysOrRenews before kept
    → (¬ (failed ≡ error.Memory) → StaysOrBegins before kept) → WasDamagedBy before kept failed
    → (failed ≡ error.Keeper → can_fail) → after ≡ kept
    → Unopened (λ why. (why ≡ failed) × ¬ (why ≡ error.Memory)) writes old new end
    → UnopenedAt (outside_of before after can_fail ⊥ writes) old new end
unopened-renewed before kept after can_fail writes failed old new end renews stays damaged
    unkept same told =
    unopened-left before kept after can_fail writes failed old new end
    (renews-leaves end before kept failed writes old new renews stays told) damaged unkept same told

stays-same : (before after : Told) → after ≡ before → StaysOrBegins before after
stays-same None after same = tt
stays-same (Some cells) after same = subst (StaysOrBegins (Some cells)) (sym same) refl

-- a small input is no more than so many requests may have
pub little_requests : (old new : Option Traffic) → ReadsLittle old new → ReadsRequests old new
little_requests None None little =
    record { read = []; written = []; moves = tt; most = omega arith }
little_requests None (Some new) little = absurd little.exchanged
little_requests (Some old) None little = absurd little.exchanged
little_requests (Some old) (Some new) little = record {
  read = little.input;
  written = little.written;
  moves = record {
    left = little.exchanged.left;
    reads = little.exchanged.read;
    writes = little.exchanged.written;
  };
  most = omega (arith, little.most);
}

unopened-nothing : (outside : Outside) (traffic : Option Traffic) → outside.after ≡ outside.before
    → UnopenedAt outside traffic traffic status.Memory
unopened-nothing outside traffic same = (
  inl (stays-same outside.before outside.after same),
  Unopened-no_memory (IsCause outside) outside.write_failed traffic,
)

-- ---- all forms

-- memory ran out before the form was read
pub Runs-nothing_read : (outside : Outside) (door : DoorEnd) (clock : ℤ → Bool) (now : Line)
    (form : Option Form) → outside.after ≡ outside.before
    → IfSome form (Runs outside door clock now now status.Memory)
unfolding ExportsAt HarvestsAt
Runs-nothing_read outside door clock now None same = tt
Runs-nothing_read outside door clock now (Some (form.Find site)) same = (
  same,
  Finds-no_memory site outside.read_failed outside.write_failed now.traffic now.traffic
      ([], reads-nothing now.traffic, omega arith),
)
Runs-nothing_read outside door clock now (Some form.Import) same =
    inr (unopened-nothing outside now.traffic same)
Runs-nothing_read outside door clock now (Some (form.Export by)) same =
    inr (unopened-nothing outside now.traffic same)
Runs-nothing_read outside door clock now (Some (form.Harvest site by)) same =
    inr (unopened-nothing outside now.traffic same)
Runs-nothing_read outside door clock now (Some (form.Session site)) same =
    inr (unopened-nothing outside now.traffic same)
Runs-nothing_read outside door clock now (Some (form.Serve serving)) same =
    inr (unopened-nothing outside now.traffic same)
Runs-nothing_read outside door clock now (Some (form.Trial count seed)) same = (
  same,
  TellsReport-nothing (trial_report (record { count = count; seed = seed }))
      outside.write_failed now.traffic,
)

-- and where the words are of no form the keeper is left
pub none-holds : (form : Option Form) (P : Type 0) → P → IfNone form P
none-holds None P holds = holds
none-holds (Some form) P holds = tt

pub Misunderstands-nothing_read : (Failed : Type 0) (traffic : Option Traffic) (form : Option Form)
    → IfNone form (Misunderstands Failed traffic traffic status.Memory)
Misunderstands-nothing_read Failed traffic None = TellsReport-nothing misunderstood Failed traffic
Misunderstands-nothing_read Failed traffic (Some form) = tt

pub ReadsInput-nothing_read : (traffic : Option Traffic) (form : Option Form)
    → IfSome form (ReadsInput traffic traffic)
ReadsInput-nothing_read traffic None = tt
ReadsInput-nothing_read traffic (Some (form.Find site)) = reads_little-nothing traffic
ReadsInput-nothing_read traffic (Some form.Import) = reads_little-nothing traffic
ReadsInput-nothing_read traffic (Some (form.Export by)) = reads_little-nothing traffic
ReadsInput-nothing_read traffic (Some (form.Harvest site by)) = reads_little-nothing traffic
ReadsInput-nothing_read traffic (Some (form.Session site)) =
    little_requests traffic traffic (reads_little-nothing traffic)
ReadsInput-nothing_read traffic (Some (form.Serve serving)) = reads_little-nothing traffic
ReadsInput-nothing_read traffic (Some (form.Trial count seed)) = reads_little-nothing traffic

pub never_rises : (a b : ℕ) → a ≡ 0 → b ≡ 0 → Rises a b → ⊥
never_rises a b none still rises = let k : a < b = rises (omega arith) in omega arith

pub keeper_never_rises : (a b : ℕ) → b ≡ 0 → a ≤ b → Rises a b → ⊥
keeper_never_rises a b still kept rises = let k : a < b = rises (omega arith) in omega arith

module _ (outside : Outside) (door : DoorEnd) (clock : ℤ → Bool) (old new : Line) where
  find_unfailing : (site : Site) (end : Status) → ¬ outside.read_failed → ¬ outside.write_failed
      → Finds site outside.read_failed outside.write_failed old.traffic new.traffic end
      → IsUnfailing end
  unfolding Finds
  find_unfailing site status.WriteFault read written run = absurd (written run.0)
  find_unfailing site status.ReadFault read written run = absurd (read run.0)
  find_unfailing site status.Done read written run = tt
  find_unfailing site status.Misunderstood read written run = tt
  find_unfailing site status.Refused read written run = tt
  find_unfailing site status.KeeperFailed read written run = tt
  find_unfailing site status.Memory read written run = tt
  find_unfailing site (status.Damaged tab key) read written run = tt
  find_unfailing site status.NoReader read written run = tt
  find_unfailing site status.DoorFailed read written run = tt

  import_unfailing : (s t : State) (end : Status) → ¬ outside.read_failed → ¬ outside.write_failed
      → Imports outside.read_failed outside.write_failed outside.keeper_can_fail old.traffic
      new.traffic s t end
      → IsUnfailing end
  unfolding Imports
  import_unfailing s t status.WriteFault read written run = absurd (written run.0)
  import_unfailing s t status.ReadFault read written run = absurd (read run.comes.0)
  import_unfailing s t status.Done read written run = tt
  import_unfailing s t status.Misunderstood read written run = tt
  import_unfailing s t status.Refused read written run = tt
  import_unfailing s t status.KeeperFailed read written run = tt
  import_unfailing s t status.Memory read written run = tt
  import_unfailing s t (status.Damaged tab key) read written run = tt
  import_unfailing s t status.NoReader read written run = tt
  import_unfailing s t status.DoorFailed read written run = tt

  pub export_told-is : (view : Option View) → IsTold (export_told view).status
  export_told-is None = tt
  export_told-is (Some view) = tt

  ended_unfailing : {E : Type 0} (ended : Ended) (trail lost : List (Item E)) (tail rest : List ℕ)
      → ¬ (Rises old.read_faults new.read_faults) → ¬ (Rises old.write_faults new.write_faults)
      → Ends ended old new trail lost tail rest → IsUnfailing (ended_status ended)
  ended_unfailing ended.Closed trail lost tail rest read written ends = tt
  ended_unfailing ended.ReadFault trail lost tail rest read written
      (none, nothing, goes_on, open_, fault) = absurd (read fault)
  ended_unfailing ended.WriteFault trail lost tail rest read written (last, is, stops) =
      absurd (written stops.fault)
  ended_unfailing ended.Memory trail lost tail rest read written ends = tt

  export_unfailing : (by : List ℕ) (end : Status) → ¬ outside.write_failed
      → ExportsAt outside by old.traffic new.traffic end → IsUnfailing end
  unfolding ExportsAt
  export_unfailing by end written run =
      ⊎_elim (λ opened. TellsReport-unfailing
      (export_report opened.state by) outside.write_failed old.traffic new.traffic end
      (export_told-is (view_named opened.state by)) written opened.tells)
      (λ whole. unopened_unfailing (IsCause outside) outside.write_failed old.traffic new.traffic
      end written whole.1) run

  export_kept : (by : List ℕ) → ¬ outside.keeper_can_fail
      → ExportsAt outside by old.traffic new.traffic status.KeeperFailed → ⊥
  unfolding ExportsAt
  export_kept by kept run =
      ⊎_elim (λ opened. TellsReport-kept (export_report opened.state by) outside.write_failed
      old.traffic new.traffic (export_told-is (view_named opened.state by)) opened.tells)
      (λ whole.
      unopened_kept (IsCause outside) outside.write_failed old.traffic new.traffic kept whole.1) run

  harvest_unfailing : (site : Site) (by : List ℕ) (end : Status) → ¬ outside.write_failed
      → HarvestsAt outside site by old.traffic new.traffic end → IsUnfailing end
  unfolding HarvestsAt
  harvest_unfailing site by end written run =
      ⊎_elim (λ opened. Harvests-unfailing site opened.state by outside.write_failed old.traffic
      new.traffic end written opened.harvests)
      (λ whole. unopened_unfailing (IsCause outside) outside.write_failed old.traffic new.traffic
      end written whole.1) run

  harvest_kept : (site : Site) (by : List ℕ) → ¬ outside.keeper_can_fail
      → HarvestsAt outside site by old.traffic new.traffic status.KeeperFailed → ⊥
  unfolding HarvestsAt
  harvest_kept site by kept run =
      ⊎_elim (λ opened. Harvests-kept site opened.state by outside.write_failed old.traffic
      new.traffic opened.harvests)
      (λ whole.
      unopened_kept (IsCause outside) outside.write_failed old.traffic new.traffic kept whole.1) run

  serve_unfailing : (port most : ℕ) (end : Status) → ¬ outside.write_failed
      → ServesTo door outside.write_failed port most old.traffic new.traffic end → IsUnfailing end
  unfolding ServesTo
  serve_unfailing port most status.WriteFault written run = absurd (written run.0)
  serve_unfailing port most status.ReadFault written run = absurd run
  serve_unfailing port most status.Done written run = tt
  serve_unfailing port most status.DoorFailed written run = tt
  serve_unfailing port most status.Misunderstood written run = tt
  serve_unfailing port most status.Refused written run = tt
  serve_unfailing port most status.KeeperFailed written run = tt
  serve_unfailing port most status.Memory written run = tt
  serve_unfailing port most (status.Damaged tab key) written run = tt
  serve_unfailing port most status.NoReader written run = tt

  run_unfailing : (end : Status) (form : Form)
      → (Rises old.read_faults new.read_faults → outside.read_failed)
      → (Rises old.write_faults new.write_faults → outside.write_failed) → ¬ outside.read_failed
      → ¬ outside.write_failed → Runs outside door clock old new end form → IsUnfailing end
  run_unfailing end (form.Find site) reads writes read written run =
      find_unfailing site end read written run.1
  run_unfailing end form.Import reads writes read written run =
      ⊎_elim
      (λ opened. import_unfailing opened.before opened.behind end read written opened.imports)
      (λ whole. unopened_unfailing (IsCause outside) outside.write_failed old.traffic new.traffic
      end written whole.1) run
  run_unfailing end (form.Export by) reads writes read written run =
      export_unfailing by end written run
  run_unfailing end (form.Harvest site by) reads writes read written run =
      harvest_unfailing site by end written run
  run_unfailing end (form.Trial count seed) reads writes read written run =
      TellsReport-unfailing (trial_report (record { count = count; seed = seed }))
      outside.write_failed old.traffic new.traffic end tt written run.1
  run_unfailing end (form.Serve serving) reads writes read written run =
      ⊎_elim (λ opened. serve_unfailing serving.port serving.connections end written opened.ends)
      (λ whole. unopened_unfailing (IsCause outside) outside.write_failed old.traffic new.traffic
      end written whole.1) run
  run_unfailing end (form.Session site) reads writes read written run =
      ⊎_elim (λ opened.
      let session = opened.connection.session in
      subst IsUnfailing (sym opened.is)
      (ended_unfailing opened.ended session.trail session.lost session.tail session.rest
      (λ h. read (reads h)) (λ h. written (writes h)) session.ends))
      (λ whole. unopened_unfailing (IsCause outside) outside.write_failed old.traffic new.traffic
      end written whole.1) run

  ended_kept : (ended : Ended) → status.KeeperFailed ≡ ended_status ended → ⊥
  ended_kept ended.Closed is = cc
  ended_kept ended.ReadFault is = cc
  ended_kept ended.WriteFault is = cc
  ended_kept ended.Memory is = cc

  find_kept : (site : Site)
      → Finds site outside.read_failed outside.write_failed old.traffic new.traffic
      status.KeeperFailed
      → ⊥
  unfolding Finds
  find_kept site run = run

  import_kept : (s t : State) → ¬ outside.keeper_can_fail
      → Imports outside.read_failed outside.write_failed outside.keeper_can_fail old.traffic
      new.traffic s t status.KeeperFailed
      → ⊥
  unfolding Imports
  import_kept s t kept run = kept run.comes.0

  serve_kept : (port most : ℕ)
      → ServesTo door outside.write_failed port most old.traffic new.traffic status.KeeperFailed → ⊥
  unfolding ServesTo
  serve_kept port most run = run

  run_kept : (form : Form) → ¬ outside.keeper_can_fail
      → Runs outside door clock old new status.KeeperFailed form → ⊥
  run_kept (form.Find site) kept run = find_kept site run.1
  run_kept form.Import kept run =
      ⊎_elim (λ opened. import_kept opened.before opened.behind kept opened.imports)
      (λ whole.
      unopened_kept (IsCause outside) outside.write_failed old.traffic new.traffic kept whole.1) run
  run_kept (form.Export by) kept run = export_kept by kept run
  run_kept (form.Harvest site by) kept run = harvest_kept site by kept run
  run_kept (form.Trial count seed) kept run =
      TellsReport-kept (trial_report (record { count = count; seed = seed })) outside.write_failed
      old.traffic new.traffic tt run.1
  run_kept (form.Serve serving) kept run =
      ⊎_elim (λ opened. serve_kept serving.port serving.connections opened.ends)
      (λ whole.
      unopened_kept (IsCause outside) outside.write_failed old.traffic new.traffic kept whole.1) run
  run_kept (form.Session site) kept run =
      ⊎_elim (λ opened. ended_kept opened.ended opened.is)
      (λ whole.
      unopened_kept (IsCause outside) outside.write_failed old.traffic new.traffic kept whole.1) run

  -- no call of the link is told to have failed where none can
  pub ends_unfailing : (end : Status) (form : Option Form)
      → (Rises old.read_faults new.read_faults → outside.read_failed)
      → (Rises old.write_faults new.write_faults → outside.write_failed) → ¬ outside.read_failed
      → ¬ outside.write_failed → IfSome form (Runs outside door clock old new end)
      → IfNone form (Misunderstands outside.write_failed old.traffic new.traffic end)
      → IsUnfailing end
  ends_unfailing end None reads writes read written understood run =
      TellsReport-unfailing misunderstood outside.write_failed old.traffic new.traffic end
      tt written run
  ends_unfailing end (Some form) reads writes read written understood _ =
      run_unfailing end form reads writes read written understood

  -- nor the keeper
  pub ends_kept : (end : Status) (form : Option Form) → ¬ outside.keeper_can_fail
      → IfSome form (Runs outside door clock old new end)
      → IfNone form (Misunderstands outside.write_failed old.traffic new.traffic end)
      → ¬ (end ≡ status.KeeperFailed)
  ends_kept end None kept understood run =
      λ is. TellsReport-kept misunderstood outside.write_failed old.traffic new.traffic tt
      (subst (λ end. Misunderstands outside.write_failed old.traffic new.traffic end) is run)
  ends_kept end (Some form) kept understood _ =
      λ is.
      run_kept form kept (subst (λ end. Runs outside door clock old new end form) is understood)

  -- ---- a door that never fails

  ended_shut : (ended : Ended) → status.DoorFailed ≡ ended_status ended → ⊥
  ended_shut ended.Closed is = cc
  ended_shut ended.ReadFault is = cc
  ended_shut ended.WriteFault is = cc
  ended_shut ended.Memory is = cc

  find_shut : (site : Site)
      → Finds site outside.read_failed outside.write_failed old.traffic new.traffic
      status.DoorFailed
      → ⊥
  unfolding Finds
  find_shut site run = run

  import_shut : (s t : State)
      → Imports outside.read_failed outside.write_failed outside.keeper_can_fail old.traffic
      new.traffic s t status.DoorFailed
      → ⊥
  unfolding Imports
  import_shut s t run = run

  unopened_shut : UnopenedAt outside old.traffic new.traffic status.DoorFailed → ⊥
  unfolding Unopened
  unopened_shut run = run.1

  export_shut : (by : List ℕ) → ExportsAt outside by old.traffic new.traffic status.DoorFailed → ⊥
  unfolding ExportsAt
  export_shut by run =
      ⊎_elim (λ opened. TellsReport-shut (export_report opened.state by) outside.write_failed
      old.traffic new.traffic (export_told-is (view_named opened.state by)) opened.tells)
      unopened_shut run

  harvest_shut : (site : Site) (by : List ℕ)
      → HarvestsAt outside site by old.traffic new.traffic status.DoorFailed → ⊥
  unfolding HarvestsAt
  harvest_shut site by run =
      ⊎_elim (λ opened. Harvests-shut site opened.state by outside.write_failed old.traffic
      new.traffic opened.harvests) unopened_shut run

  serve_shut : (port most : ℕ) → door.faults ≡ 0
      → ServesTo door outside.write_failed port most old.traffic new.traffic status.DoorFailed → ⊥
  unfolding ServesTo
  serve_shut port most none run = let some : 0 < door.faults = run.0 in omega (arith, none, some)

  run_shut : (form : Form) → door.faults ≡ 0
      → Runs outside door clock old new status.DoorFailed form → ⊥
  run_shut (form.Find site) none run = find_shut site run.1
  run_shut form.Import none run =
      ⊎_elim (λ opened. import_shut opened.before opened.behind opened.imports) unopened_shut run
  run_shut (form.Export by) none run = export_shut by run
  run_shut (form.Harvest site by) none run = harvest_shut site by run
  run_shut (form.Trial count seed) none run =
      TellsReport-shut (trial_report (record { count = count; seed = seed })) outside.write_failed
      old.traffic new.traffic tt run.1
  run_shut (form.Session site) none run =
      ⊎_elim (λ opened. ended_shut opened.ended opened.is) unopened_shut run
  run_shut (form.Serve serving) none run =
      ⊎_elim (λ opened. serve_shut serving.port serving.connections none opened.ends)
      unopened_shut run

  -- nor the door
  pub ends_shut : (end : Status) (form : Option Form) → door.faults ≡ 0
      → IfSome form (Runs outside door clock old new end)
      → IfNone form (Misunderstands outside.write_failed old.traffic new.traffic end)
      → ¬ (end ≡ status.DoorFailed)
  ends_shut end None none understood run =
      λ is. TellsReport-shut misunderstood outside.write_failed old.traffic new.traffic tt
      (subst (λ end. Misunderstands outside.write_failed old.traffic new.traffic end) is run)
  ends_shut end (Some form) none understood _ =
      λ is.
      run_shut form none (subst (λ end. Runs outside door clock old new end form) is understood)
