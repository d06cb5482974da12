-- The lines of an import, and how the calls of a run add up to its end.
use Rattle.std.proofs.Common.{◌≡◌, ℕ, suc, ◌+◌, ◌≤◌, ◌⊎◌, inl, inr, ⊎_elim, Bool, true, false, cond, nat_lt, List, [], ◌∷◌, length, take, Option, Some, None, Result, Ok, Err, IfOk, OnErr, refl, sym, ap, subst, ◌∙◌, arith}
use Rattle.std.proofs.Math.Seq.{take-length}
use Rattle.an_code.specs.declared.code.Code.{Code}
use Rattle.an_machine.specs.declared.command.Decided.{Decided}
use Rattle.an_machine.specs.declared.command.Refused.{Refused}
use Rattle.an_shelf.specs.Store.{Store}
use Rattle.an_shelf.specs.Writing.{Leaves as StoreLeaves, RunsOut}
use Rattle.an_shelf.specs.declared.error.WriteError.{WriteError}
use Rattle.an_shelf.specs.declared.error.WriteError.TheVariants as write
use Rattle.an_state.specs.Entries.{state_after}
use Rattle.an_state.specs.State.{State}
use Rattle.an_world.specs.Link.{Traffic, Reads, WritesFront}
use Rattle.an_lines.specs.Asked.{asked_of}
use Rattle.an_lines.specs.Import.{Progress, Imported, import_asked, import_line, import_lines, import_on, import_written, imported_of, report_of, start, with_done}
use Rattle.an_lines.specs.ImportEnds.{LeavesFront, LeavesAll, TellsWhole, TellsFront, Comes, Imports}
use Rattle.an_lines.specs.Input.{input_limit, IsReadWhole}
use Rattle.an_lines.specs.Shown.{Leads, StaysOrLeads}
use Rattle.an_lines.specs.Split.{lines_of}
use Rattle.an_lines.specs.Told.{Tells}
use Rattle.an_lines.specs.Written as written
use Rattle.an_lines.specs.Written.{Written, written_by, written_of}
use Rattle.an_lines.specs.declared.asked.Asked.{Asked}
use Rattle.an_lines.specs.declared.asked.Asked.TheVariants as asked
use Rattle.an_lines.specs.declared.counts.Counts.{Counts}
use Rattle.an_lines.specs.declared.status.Status.{Status}
use Rattle.an_lines.specs.declared.status.Status.TheVariants as status
use Rattle.an_lines.specs.declared.stop.Stop.{Stop}
use Rattle.an_lines.proofs.StatusLemmas.{exchange, exchange-read, prints-front, IsAtEnd-written}

-- ---- the first lines

-- some of the first of these lines lead to a state
pub record Front (lines : List (List ℕ)) (number : ℕ) (p : Progress) (t : State) : Type 0 where
  pub count : ℕ
  pub leads : t ≡ (import_lines (take count lines) number p).progress.state

take-none : (lines : List (List ℕ)) → take 0 lines ≡ []
take-none [] = refl
take-none (line ∷ lines) = refl

-- none of them
pub front_none : (lines : List (List ℕ)) (number : ℕ) (p : Progress) → Front lines number p p.state
front_none lines number p = record {
  count = 0;
  leads = ap (λ xs. (import_lines xs number p).progress.state) (sym (take-none lines));
}

-- all of them
pub front_all : (lines : List (List ℕ)) (number : ℕ) (p : Progress)
    → Front lines number p (import_lines lines number p).progress.state
front_all lines number p = record {
  count = length lines;
  leads = ap (λ xs. (import_lines xs number p).progress.state) (sym (take-length lines));
}

-- one that was applied, and some of those behind it
pub front_more : (line : List ℕ) (lines : List (List ℕ)) (number : ℕ) (p q : Progress) (t : State)
    → import_line p line ≡ Ok q → Front lines (number + 1) q t
    → Front (line ∷ lines) number p t
front_more line lines number p q t is front = record {
  count = suc front.count;
  leads =
      front.leads
      ∙ ap
      (λ next. (import_on number p (import_lines (take front.count lines)) next).progress.state)
      (sym is);
}

pub front_leaves : (s t : State) (input : List ℕ) → Front (lines_of input) 1 (start s) t
    → LeavesFront s input t
front_leaves s t input front = record { count = front.count; leads = front.leads }

-- nothing was applied
pub leaves_none : (s : State) (input : List ℕ) → LeavesFront s input s
leaves_none s input = front_leaves s s input (front_none (lines_of input) 1 (start s))

leaves_as : (b : Bool) (s : State) (input : List ℕ) (large all : Imported)
    → large.progress.state ≡ s → LeavesFront s input all.progress.state
    → LeavesFront s input (cond b large all).progress.state
leaves_as true s input large all is front =
    subst (λ t. LeavesFront s input t) (sym is) (leaves_none s input)
leaves_as false s input large all is front = front

-- all lines up to the one that is refused
imported_leaves : (s : State) (input : List ℕ)
    → LeavesFront s input (imported_of s input).progress.state
unfolding imported_of
imported_leaves s input =
    leaves_as (nat_lt input_limit (length input)) s input _ _ refl
    (front_leaves _ _ _ (front_all (lines_of input) 1 (start s)))

pub leaves_all : (s t : State) (input : List ℕ) (shown : Imported) → shown ≡ imported_of s input
    → shown.progress.state ≡ t → LeavesFront s input t
leaves_all s t input shown is at =
    subst (λ t. LeavesFront s input t) (sym (ap (λ (i : Imported). i.progress.state) is) ∙ at)
    (imported_leaves s input)

pub on_err : {T E : Type 0} (r : Result T E) (P : Type 0) → P → OnErr r P
on_err (Ok x) P p = tt
on_err (Err e) P p = p

-- ---- one line

pub leads-ok : (r : Result Progress Code) (s t : State) (counts : Counts) → Leads r s t (Ok counts)
    → r ≡ Ok (record { state = t; counts = counts })
leads-ok (Ok p) s t counts l = rw (l.0, l.1) refl
leads-ok (Err why) s t counts l = absurd l

pub leads-err : (r : Result Progress Code) (s t : State) (why : Code) → Leads r s t (Err why)
    → (r ≡ Err why) × (t ≡ s)
leads-err (Ok p) s t why l = absurd l
leads-err (Err other) s t why l = (rw l.0 refl, l.1)

-- ---- a write that isn't done, or not whole

module _ (counts : Counts) (version : ℕ) (decided : Result Decided Refused) (old new : Store) where
  abbrev pub Lost : Type 0
  Lost =
      StaysOrLeads (import_written counts old.state (written_by old.state version decided))
      old.state new.state

  runs_out-lost : RunsOut decided old new → Lost
  runs_out-lost (inl h) = inl h.0.same_state
  runs_out-lost (inr waits) = inr (
    record {
      state = state_after old.state waits.write.entry;
      counts = with_done waits.write.reply.repeat counts;
    },
    ap (λ d. import_written counts old.state (written_by old.state version d)) waits.is,
    waits.leads ∙ ap (state_after old.state) (sym waits.has),
  )

  pub write-lost : (error : WriteError) → (¬ (error ≡ write.Memory) → StoreLeaves old new)
      → (error ≡ write.Memory → RunsOut decided old new) → Lost
  write-lost (write.Refused refusal) leaves memory = inl (leaves (λ is. cc)).same_state
  write-lost write.Keeper leaves memory = inl (leaves (λ is. cc)).same_state
  write-lost write.Memory leaves memory = runs_out-lost (memory refl)

-- ---- counts

-- how many lines were counted
pub counted : Counts → ℕ
counted counts = counts.accepted + counts.repeated + counts.old

counted_done : (repeat : Bool) (counts : Counts)
    → counted (with_done repeat counts) ≤ counted counts + 1
unfolding counted
counted_done true counts = omega arith
counted_done false counts = omega arith

counted_written : (counts : Counts) (s : State) (w : Written)
    → IfOk (import_written counts s w) (λ q. counted q.counts ≤ counted counts + 1)
unfolding counted
counted_written counts s (written.done repeat t) = counted_done repeat counts
counted_written counts s written.old = omega arith
counted_written counts s (written.refused why) = tt

counted_asked : (counts : Counts) (s : State) (r : Result Asked Code)
    → IfOk (import_asked counts s r) (λ q. counted q.counts ≤ counted counts + 1)
unfolding counted
counted_asked counts s (Ok asked.Nothing) = omega arith
counted_asked counts s (Ok (asked.Read by read)) = tt
counted_asked counts s (Ok (asked.Unread by methods why)) = tt
counted_asked counts s (Ok (asked.Write moment by command)) =
    counted_written counts s (written_of s moment by command)
counted_asked counts s (Err why) = tt

-- a line counts at most once
counted_line : (p : Progress) (line : List ℕ)
    → IfOk (import_line p line) (λ q. counted q.counts ≤ counted p.counts + 1)
unfolding import_line
counted_line p line = counted_asked p.counts p.state (asked_of line)

pub counted_most : (p q : Progress) (line : List ℕ) → import_line p line ≡ Ok q
    → q.counts.accepted + q.counts.repeated + q.counts.old
    ≤ p.counts.accepted + p.counts.repeated + p.counts.old + 1
unfolding counted
counted_most p q line is =
    subst (λ r. IfOk r (λ q. counted q.counts ≤ counted p.counts + 1)) is (counted_line p line)

module _ (line : List ℕ) (lines left : List (List ℕ)) (number : ℕ) (p : Progress)
    (first : left ≡ line ∷ lines) where
  -- the line was applied
  pub line_done : (q : Progress) → import_line p line ≡ Ok q
      → import_lines lines (number + 1) q ≡ import_lines left number p
  line_done q is =
      sym (ap (λ next. import_on number p (import_lines lines) next) is)
      ∙ sym (ap (λ xs. import_lines xs number p) first)

  pub line_done-front : (q : Progress) (t : State) → import_line p line ≡ Ok q
      → Front lines (number + 1) q t → Front left number p t
  line_done-front q t is front =
      subst (λ xs. Front xs number p t) (sym first) (front_more line lines number p q t is front)

  -- memory ran out in the line, which may have been applied
  pub lost_front : (t : State) → StaysOrLeads (import_line p line) p.state t → Front left number p t
  lost_front t (inl same) = subst (Front left number p) (sym same) (front_none left number p)
  lost_front t (inr (q, is, leads)) =
      line_done-front q t is
      (subst (Front lines (number + 1) q) (sym leads) (front_none lines (number + 1) q))

  -- the line was refused
  pub line_stops : (why : Code) → import_line p line ≡ Err why
      → record { progress = p; stop = Some (record { line = number; why = why }) }
      ≡ import_lines left number p
  line_stops why is =
      sym (ap (λ next. import_on number p (import_lines lines) next) is)
      ∙ sym (ap (λ xs. import_lines xs number p) first)

-- ---- what a run comes to

-- what is written behind an input leaves none of it to read
pub whole_behind : (input text : List ℕ) (mid new : Option Traffic) → IsReadWhole input mid
    → WritesFront text mid new → IsReadWhole input new
whole_behind input text mid new whole front = λ h. IsAtEnd-written _ mid new front.writes (whole h)

report_of-ends : (counts : Counts) (stop : Option Stop)
    → ((report_of counts stop).status ≡ status.Done)
    ⊎ ((report_of counts stop).status ≡ status.Refused)
report_of-ends counts None = inl refl
report_of-ends counts (Some stop) = inr refl

module _ (Unread Unkept : Type 0) (s t : State) (new : Option Traffic) (input text : List ℕ) where
  comes_as : (end : Status) → (end ≡ status.Done) ⊎ (end ≡ status.Refused) → IsReadWhole input new
      → LeavesAll s input end text t → Comes Unread Unkept s t new input end text
  comes_as status.Done either whole all = (whole, all)
  comes_as status.Refused either whole all = (whole, all)
  comes_as status.WriteFault either whole all = absurd (⊎_elim (λ e. cc) (λ e. cc) either)
  comes_as status.Misunderstood either whole all = absurd (⊎_elim (λ e. cc) (λ e. cc) either)
  comes_as status.KeeperFailed either whole all = absurd (⊎_elim (λ e. cc) (λ e. cc) either)
  comes_as status.ReadFault either whole all = absurd (⊎_elim (λ e. cc) (λ e. cc) either)
  comes_as status.Memory either whole all = absurd (⊎_elim (λ e. cc) (λ e. cc) either)
  comes_as (status.Damaged tab key) either whole all = absurd (⊎_elim (λ e. cc) (λ e. cc) either)
  comes_as status.NoReader either whole all = absurd (⊎_elim (λ e. cc) (λ e. cc) either)
  comes_as status.DoorFailed either whole all = absurd (⊎_elim (λ e. cc) (λ e. cc) either)

  pub comes_all : (end : Status) → IsReadWhole input new → LeavesAll s input end text t
      → Comes Unread Unkept s t new input end text
  comes_all end whole all =
      let i = imported_of s input in
      comes_as end (⊎_elim (λ e. inl (sym all.ends ∙ e)) (λ e. inr (sym all.ends ∙ e))
      (report_of-ends i.progress.counts i.stop)) whole all

-- ---- the ends of `import`

module _ (Unread Failed Unkept : Type 0) (s t : State) where
  told_whole : (old new : Option Traffic) (end : Status)
      → TellsWhole (Comes Unread Unkept s t new) old new end
      → Imports Unread Failed Unkept old new s t end
  unfolding Imports
  told_whole old new status.Done told = told
  told_whole old new status.Refused told = told
  told_whole old new status.KeeperFailed told = told
  told_whole old new status.ReadFault told = told
  told_whole old new status.WriteFault told = absurd told.comes
  told_whole old new status.Misunderstood told = absurd told.comes
  told_whole old new status.Memory told = absurd told.comes
  told_whole old new (status.Damaged tab key) told = absurd told.comes
  told_whole old new status.NoReader told = absurd told.comes
  told_whole old new status.DoorFailed told = absurd told.comes

  told_front : (old new : Option Traffic) → Failed
      → TellsFront (Comes Unread Unkept s t new) old new
      → Imports Unread Failed Unkept old new s t status.WriteFault
  unfolding Imports
  told_front old new failed told = (failed, told)

  -- an input was read, and what the import came to was told
  pub Imports-told : (Rose : Type 0) (input text : List ℕ) (old mid new : Option Traffic)
      (meant end : Status) → Comes Unread Unkept s t new input meant text → Reads input old mid
      → WritesFront text mid new → (Rose → Failed) → Tells Rose text mid new meant end
      → Imports Unread Failed Unkept old new s t end
  Imports-told Rose input text old mid new meant end comes r front failed told =
      let P : Status → Type 0 = λ end. Imports Unread Failed Unkept old new s t end in
      ⊎_elim
      (λ (is, w). subst P (sym is)
      (told_whole old new meant (record {
        input = input;
        text = text;
        comes = comes;
        exchanged = exchange input text old mid new r w;
      })))
      (λ (is, rose). subst P (sym is) (told_front old new (failed rose)
      (record {
        meant = meant;
        input = input;
        text = text;
        comes = comes;
        printed = prints-front input text old mid new r front;
      })))
      told

  pub Imports-no_memory : (input : List ℕ) (old new : Option Traffic) → Reads input old new
      → LeavesFront s input t → Imports Unread Failed Unkept old new s t status.Memory
  unfolding Imports
  Imports-no_memory input old new r front =
      record { input = input; exchanged = exchange-read input old new r; leaves = front }

-- what the keeper's count says is taken for what it means
comes_kept : (Unread Unkept Unkept' : Type 0) (s t : State) (new : Option Traffic)
    (input text : List ℕ) (end : Status) → (Unkept → Unkept')
    → Comes Unread Unkept s t new input end text
    → Comes Unread Unkept' s t new input end text
comes_kept Unread Unkept Unkept' s t new input text status.Done f comes = comes
comes_kept Unread Unkept Unkept' s t new input text status.Refused f comes = comes
comes_kept Unread Unkept Unkept' s t new input text status.KeeperFailed f comes =
    (f comes.0, comes.1, comes.2, comes.3)
comes_kept Unread Unkept Unkept' s t new input text status.ReadFault f comes = comes
comes_kept Unread Unkept Unkept' s t new input text status.WriteFault f comes = comes
comes_kept Unread Unkept Unkept' s t new input text status.Misunderstood f comes = comes
comes_kept Unread Unkept Unkept' s t new input text status.Memory f comes = comes
comes_kept Unread Unkept Unkept' s t new input text (status.Damaged tab key) f comes = comes
comes_kept Unread Unkept Unkept' s t new input text status.NoReader f comes = comes
comes_kept Unread Unkept Unkept' s t new input text status.DoorFailed f comes = comes

module _ (Unread Failed Unkept Unkept' : Type 0) (old new : Option Traffic) (s t : State)
    (f : Unkept → Unkept') where
  whole_kept : (end : Status) → TellsWhole (Comes Unread Unkept s t new) old new end
      → TellsWhole (Comes Unread Unkept' s t new) old new end
  whole_kept end told = record {
    input = told.input;
    text = told.text;
    comes = comes_kept Unread Unkept Unkept' s t new told.input told.text end f told.comes;
    exchanged = told.exchanged;
  }

  front_kept : TellsFront (Comes Unread Unkept s t new) old new
      → TellsFront (Comes Unread Unkept' s t new) old new
  front_kept told = record {
    meant = told.meant;
    input = told.input;
    text = told.text;
    comes = comes_kept Unread Unkept Unkept' s t new told.input told.text told.meant f told.comes;
    printed = told.printed;
  }

  pub Imports-kept : (end : Status) → Imports Unread Failed Unkept old new s t end
      → Imports Unread Failed Unkept' old new s t end
  unfolding Imports
  Imports-kept status.Done i = whole_kept status.Done i
  Imports-kept status.Refused i = whole_kept status.Refused i
  Imports-kept status.KeeperFailed i = whole_kept status.KeeperFailed i
  Imports-kept status.ReadFault i = whole_kept status.ReadFault i
  Imports-kept status.WriteFault i = (i.0, front_kept i.1)
  Imports-kept status.Memory i = i
  Imports-kept status.Misunderstood i = i
  Imports-kept (status.Damaged tab key) i = i
  Imports-kept status.NoReader i = i
  Imports-kept status.DoorFailed i = i
