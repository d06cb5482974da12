-- How the calls of a run add up to its end.
use Rattle.std.proofs.Common.{◌≡◌, ℕ, ◌+◌, ◌-◌, ◌^◌, ◌<◌, ◌≤◌, ◌⊎◌, inl, inr, ⊎_elim, Bool, true, false, cond, List, [], ◌++◌, length, take, drop, Option, Some, None, refl, sym, ap, subst, ◌∙◌, append-nil, nat_lt, arith}
use Rattle.std.proofs.lemmas.Bool.{cases_lt}
use Rattle.std.proofs.lemmas.List.{take-append-drop}
use Rattle.an_base.specs.Faults.{Rises}
use Rattle.an_world.specs.Link.{Traffic, Reads, Writes, WritesFront, IsAtEnd, ReadsAtMost}
use Rattle.an_state.specs.State.{empty}
use Rattle.an_list.specs.Site.{Site}
use Rattle.an_lines.specs.Find.{Played, Report, play, report_of, report_played}
use Rattle.an_lines.specs.Split.{lines_of}
use Rattle.an_lines.specs.Input.{input_limit, IsReadWhole}
use Rattle.an_lines.specs.Status.{Exchanges, Finds, IsUnfailing, PrintsFront, Reports, ReadsLittle, TellsReport, read_fault_text}
use Rattle.an_lines.specs.Told.{IsTold, Tells}
use Rattle.an_lines.specs.declared.status.Status.{Status}
use Rattle.an_lines.specs.declared.status.Status.TheVariants as status
use Rattle.an_lines.specs.declared.stop.Stop.{Stop}

-- ---- what is read and written

pub exchange : (read written : List ℕ) (old mid new : Option Traffic) → Reads read old mid
    → Writes written mid new → Exchanges read written old new
exchange read written None None None r w = tt
exchange read written None None (Some new) r w = absurd w
exchange read written None (Some mid) new r w = absurd r
exchange read written (Some old) None new r w = absurd r
exchange read written (Some old) (Some mid) None r w = absurd w
exchange read written (Some old) (Some mid) (Some new) r w = record {
  left = r.left ∙ ap (λ left. read ++ left) (sym w.left);
  read = w.read ∙ r.read;
  written = w.written ∙ ap (λ before. before ++ written) r.written;
}

pub exchange-read : (read : List ℕ) (old new : Option Traffic) → Reads read old new
    → Exchanges read [] old new
exchange-read read None None r = tt
exchange-read read None (Some new) r = absurd r
exchange-read read (Some old) None r = absurd r
exchange-read read (Some old) (Some new) r =
    record { left = r.left; read = r.read; written = r.written ∙ sym (append-nil _) }

pub IsAtEnd-written : (written : List ℕ) (mid new : Option Traffic) → Writes written mid new
    → IsAtEnd mid → IsAtEnd new
IsAtEnd-written written None None w e = tt
IsAtEnd-written written None (Some new) w e = absurd w
IsAtEnd-written written (Some mid) None w e = absurd w
IsAtEnd-written written (Some mid) (Some new) w e = w.left ∙ e

pub reads-nothing : (traffic : Option Traffic) → Reads [] traffic traffic
reads-nothing None = tt
reads-nothing (Some traffic) = record { left = refl; read = sym (append-nil _); written = refl }

-- what was read, and the front of a text behind it
pub prints-front : (input text : List ℕ) (old mid new : Option Traffic) → Reads input old mid
    → WritesFront text mid new → PrintsFront input text old new
prints-front input text old mid new r w = record {
  front = take w.count text;
  rest = drop w.count text;
  is = sym (take-append-drop w.count text);
  exchanged = exchange input (take w.count text) old mid new r w.writes;
}

-- nothing was read, and a front of a text was written
pub prints-unread : (text : List ℕ) (old new : Option Traffic) → WritesFront text old new
    → PrintsFront [] text old new
prints-unread text old new w = prints-front [] text old old new (reads-nothing old) w

-- ---- counts of faults

pub rises_and_stays : (a b c : ℕ) → Rises a b → b ≤ c → Rises a c
rises_and_stays a b c r s = λ h. let k : a < b = r h in omega arith

pub stays_and_rises : (a b c : ℕ) → a ≤ b → Rises b c → b ≤ c → Rises a c
stays_and_rises a b c s r t =
    λ h. elim (cases_lt b (2 ^ 64 - 1))
    [ inl below ↦ (let k : b < c = r below in omega arith) | inr full ↦ omega arith ]

-- ---- how a report ends

report_played-ends : (played : Played) (stop : Option Stop)
    → ((report_played played stop).status ≡ status.Done)
    ⊎ ((report_played played stop).status ≡ status.Refused)
report_played-ends played None = inl refl
report_played-ends played (Some stop) = inr refl

cond-ends : (b : Bool) (x y : Report) → (x.status ≡ status.Done) ⊎ (x.status ≡ status.Refused)
    → (y.status ≡ status.Done) ⊎ (y.status ≡ status.Refused)
    → ((cond b x y).status ≡ status.Done) ⊎ ((cond b x y).status ≡ status.Refused)
cond-ends true x y p q = p
cond-ends false x y p q = q

pub report_of-ends : (site : Site) (input : List ℕ)
    → ((report_of site input).status ≡ status.Done)
    ⊎ ((report_of site input).status ≡ status.Refused)
unfolding report_of
report_of-ends site input =
    let played = play site (lines_of input) 1 empty in
    cond-ends (nat_lt input_limit (length input)) _ _ (inr refl)
    (report_played-ends played played.stop)

pub report_unfailing : (site : Site) (input : List ℕ) (report : Report)
    → report ≡ report_of site input → IsUnfailing report.status
report_unfailing site input report is =
    let ends : report.status ≡ (report_of site input).status = ap (λ r. r.status) is in
    ⊎_elim (λ e. subst IsUnfailing (sym (ends ∙ e)) tt) (λ e. subst IsUnfailing (sym (ends ∙ e)) tt)
    (report_of-ends site input)

-- ---- the ends of `find`

-- an input was read, and perhaps something written behind it
pub reads_little : (old mid new : Option Traffic) (written : List ℕ)
    → ReadsAtMost (input_limit + 1) old mid → Writes written mid new → ReadsLittle old new
reads_little old mid new written r w = record {
  input = r.0;
  written = written;
  exchanged = exchange r.0 written old mid new r.1 w;
  most = r.2;
}

pub reads_little-front : (old mid new : Option Traffic) (text : List ℕ)
    → ReadsAtMost (input_limit + 1) old mid → WritesFront text mid new → ReadsLittle old new
reads_little-front old mid new text r w = reads_little old mid new (take w.count text) r w.writes

pub reads_little-only : (old new : Option Traffic) → ReadsAtMost (input_limit + 1) old new
    → ReadsLittle old new
reads_little-only old new r =
    record { input = r.0; written = []; exchanged = exchange-read r.0 old new r.1; most = r.2 }

-- nothing was read
pub reads_little-none : (old new : Option Traffic) (text : List ℕ) → WritesFront text old new
    → ReadsLittle old new
reads_little-none old new text w =
    reads_little-front old old new text ([], reads-nothing old, omega arith) w

pub reads_little-nothing : (traffic : Option Traffic) → ReadsLittle traffic traffic
reads_little-nothing traffic =
    reads_little-only traffic traffic ([], reads-nothing traffic, omega arith)

module _ (site : Site) (Unread Failed : Type 0) where
  pub Finds-no_memory : (old new : Option Traffic) → ReadsAtMost (input_limit + 1) old new
      → Finds site Unread Failed old new status.Memory
  unfolding Finds
  Finds-no_memory old new r = (r.0, exchange-read r.0 old new r.1)

  -- a report that ends so was printed
  reported : (old new : Option Traffic) (end : Status)
      → (end ≡ status.Done) ⊎ (end ≡ status.Refused) → Reports site old new end
      → Finds site Unread Failed old new end
  unfolding Finds
  reported old new status.Done either reports = reports
  reported old new status.Refused either reports = reports
  reported old new status.WriteFault either reports = absurd (⊎_elim (λ e. cc) (λ e. cc) either)
  reported old new status.Misunderstood either reports = absurd (⊎_elim (λ e. cc) (λ e. cc) either)
  reported old new status.KeeperFailed either reports = absurd (⊎_elim (λ e. cc) (λ e. cc) either)
  reported old new status.ReadFault either reports = absurd (⊎_elim (λ e. cc) (λ e. cc) either)
  reported old new status.Memory either reports = absurd (⊎_elim (λ e. cc) (λ e. cc) either)
  reported old new (status.Damaged tab key) either reports =
      absurd (⊎_elim (λ e. cc) (λ e. cc) either)
  reported old new status.NoReader either reports = absurd (⊎_elim (λ e. cc) (λ e. cc) either)
  reported old new status.DoorFailed either reports = absurd (⊎_elim (λ e. cc) (λ e. cc) either)

  pub Finds-reported : (input : List ℕ) (report : Report) (old mid new : Option Traffic)
      → report ≡ report_of site input → Reads input old mid
      → IsReadWhole input mid → Writes report.text mid new
      → Finds site Unread Failed old new report.status
  Finds-reported input report old mid new is r end w =
      let ends : report.status ≡ (report_of site input).status = ap (λ r. r.status) is in
      let text : report.text ≡ (report_of site input).text = ap (λ r. r.text) is in
      reported old new report.status
      (⊎_elim (λ e. inl (ends ∙ e)) (λ e. inr (ends ∙ e)) (report_of-ends site input))
      (record {
        input = input;
        exchanged = rw (← text) (exchange input report.text old mid new r w);
        ends = sym ends;
        whole = λ h. IsAtEnd-written _ mid new w (end h);
      })

  -- the report of an input was printed in part
  pub Finds-part_told : (input : List ℕ) (report : Report) (old mid new : Option Traffic)
      → report ≡ report_of site input → Reads input old mid
      → IsReadWhole input mid → WritesFront report.text mid new → Failed
      → Finds site Unread Failed old new status.WriteFault
  unfolding Finds
  Finds-part_told input report old mid new is r end w failed =
      let text : report.text ≡ (report_of site input).text = ap (λ r. r.text) is in (
        failed,
        inl (record {
          input = input;
          printed = rw (← text) (prints-front input report.text old mid new r w);
          whole = λ h. IsAtEnd-written _ mid new w.writes (end h);
        }),
      )

  pub Finds-read_failed : (old mid new : Option Traffic) → ReadsAtMost (input_limit + 1) old mid
      → Unread → Writes read_fault_text mid new
      → Finds site Unread Failed old new status.ReadFault
  unfolding Finds
  Finds-read_failed old mid new r unread w =
      (unread, (r.0, exchange r.0 read_fault_text old mid new r.1 w))

  pub Finds-nothing_told : (old mid new : Option Traffic) → ReadsAtMost (input_limit + 1) old mid
      → Unread → WritesFront read_fault_text mid new → Failed
      → Finds site Unread Failed old new status.WriteFault
  unfolding Finds
  Finds-nothing_told old mid new r unread w failed =
      (failed, inr (unread, (r.0, prints-front r.0 read_fault_text old mid new r.1 w)))

-- ---- a report that is known beforehand

-- it was printed whole
told_whole : (Failed : Type 0) (end : Status) (text : List ℕ) (old new : Option Traffic)
    → IsTold end → Exchanges [] text old new
    → TellsReport (record { status = end; text = text }) Failed old new end
unfolding TellsReport
told_whole Failed status.Done text old new is told = (refl, told)
told_whole Failed status.Misunderstood text old new is told = (refl, told)
told_whole Failed status.NoReader text old new is told = (refl, told)
told_whole Failed status.WriteFault text old new is told = absurd is
told_whole Failed status.Refused text old new is told = (refl, told)
told_whole Failed status.KeeperFailed text old new is told = absurd is
told_whole Failed status.ReadFault text old new is told = absurd is
told_whole Failed status.DoorFailed text old new is told = absurd is
told_whole Failed status.Memory text old new is told = absurd is
told_whole Failed (status.Damaged tab key) text old new is told = absurd is

told_part : (Failed : Type 0) (report : Report) (old new : Option Traffic) → Failed
    → PrintsFront [] report.text old new → TellsReport report Failed old new status.WriteFault
unfolding TellsReport
told_part Failed report old new failed front = (failed, front)

-- it was printed, or a write failed
pub TellsReport-tells : (Failed : Type 0) (meant end : Status) (text : List ℕ)
    (old new : Option Traffic) → IsTold meant → WritesFront text old new
    → Tells Failed text old new meant end
    → TellsReport (record { status = meant; text = text }) Failed old new end
TellsReport-tells Failed meant end text old new is front tells =
    let report : Report = record { status = meant; text = text } in
    ⊎_elim
    (λ (same, w). subst (λ end. TellsReport report Failed old new end) (sym same)
    (told_whole Failed meant text old new is (exchange [] text old old new (reads-nothing old) w)))
    (λ (same, failed). subst (λ end. TellsReport report Failed old new end) (sym same)
    (told_part Failed report old new failed (prints-unread text old new front)))
    tells

-- memory ran out before it was printed
pub TellsReport-nothing : (report : Report) (Failed : Type 0) (traffic : Option Traffic)
    → TellsReport report Failed traffic traffic status.Memory
unfolding TellsReport
TellsReport-nothing report Failed traffic = exchange-read [] traffic traffic (reads-nothing traffic)

-- no call of the link is told to have failed where none can, nor the keeper
pub TellsReport-unfailing :
    (report : Report) (Failed : Type 0) (old new : Option Traffic) (end : Status)
    → IsTold report.status → ¬ Failed → TellsReport report Failed old new end → IsUnfailing end
unfolding TellsReport
TellsReport-unfailing report Failed old new status.WriteFault is written run =
    absurd (written run.0)
TellsReport-unfailing report Failed old new status.ReadFault is written run =
    absurd (subst IsTold run.0 is)
TellsReport-unfailing report Failed old new status.Done is written run = tt
TellsReport-unfailing report Failed old new status.Misunderstood is written run = tt
TellsReport-unfailing report Failed old new status.Refused is written run = tt
TellsReport-unfailing report Failed old new status.KeeperFailed is written run = tt
TellsReport-unfailing report Failed old new status.Memory is written run = tt
TellsReport-unfailing report Failed old new (status.Damaged tab key) is written run = tt
TellsReport-unfailing report Failed old new status.NoReader is written run = tt
TellsReport-unfailing report Failed old new status.DoorFailed is written run = tt

pub TellsReport-kept : (report : Report) (Failed : Type 0) (old new : Option Traffic)
    → IsTold report.status → TellsReport report Failed old new status.KeeperFailed → ⊥
unfolding TellsReport
TellsReport-kept report Failed old new is run = subst IsTold run.0 is

pub TellsReport-shut : (report : Report) (Failed : Type 0) (old new : Option Traffic)
    → IsTold report.status → TellsReport report Failed old new status.DoorFailed → ⊥
unfolding TellsReport
TellsReport-shut report Failed old new is run = subst IsTold run.0 is

pub ruleset ends_of_find = (Finds-no_memory, reads_little-only)
