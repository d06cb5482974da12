-- What an accepted write makes of the numbers of objects.
use Rattle.std.proofs.Common.{◌≡◌, ℕ, ◌+◌, ◌≤◌, ℤ, true, false, cond, ◌||◌, List, ◌++◌, Option, Some, None, option_map, unwrap_or, inl, inr, refl, sym, ap, subst, ◌∙◌, arith}
use Rattle.std.specs.Prelude.{◌==◌, ◌^◌, ◌-◌, is_some, nat_lt}
use Rattle.std.proofs.lemmas.Bool.{cases_Bool, and_parts, cond_both, eqb-true}
use Rattle.an_keyed.specs.Key.{Key, same_key}
use Rattle.an_keyed.specs.Rows.{row_of, put_row}
use Rattle.an_keyed.proofs.KeyLemmas.{same_key-refl, same_key-true}
use Rattle.an_keyed.proofs.PutLemmas.{row_of-put_row}
use Rattle.an_policy.specs.Audience.{Identity}
use Rattle.an_machine.specs.Accepted.{effect_of, deletion, moment_of_write, number_behind, buried, manifest_tombstone}
use Rattle.an_machine.specs.Asked.{object_asked, version_asked, is_put}
use Rattle.an_state.specs.Commands.{object_of, version_of}
use Rattle.an_state.specs.Entries.{with_row, with_rows, after}
use Rattle.an_state.specs.State.{State, ReaderState, ManifestState, NoteState, reader_key, manifest_key, note_key, manifest_row, note_row, is_distinct}
use Rattle.an_machine.specs.Versions.{current, standing, note_standing, number_of, is_next}
use Rattle.an_state.specs.View.{is_on}
use Rattle.an_state.specs.declared.activity.Activity.{Activity}
use Rattle.an_machine.specs.declared.asked.Asked.{Asked}
use Rattle.an_machine.specs.declared.asked.Asked.TheVariants.{Deletion}
use Rattle.an_machine.specs.declared.asked.Asked.TheVariants as put
use Rattle.an_state.specs.declared.command.Object.{Object}
use Rattle.an_state.specs.declared.command.Object.TheVariants.{Reader, Manifest, Note}
use Rattle.an_state.specs.declared.entry.Row.TheVariants as kept
use Rattle.an_machine.specs.Legal.{Write, Accepts}
use Rattle.an_laws.proofs.BurialLemmas.{as_left, left_state, note_row-left}
use Rattle.an_laws.proofs.DropLemmas.{with_rows-tombstone}
use Rattle.an_keyed.proofs.FoundLemmas.{passes-some}
use Rattle.an_laws.proofs.RefusalLemmas.{asked-agrees}
use Rattle.an_laws.proofs.StepLemmas.{accepted-is}

-- ---- the number of the next write

-- the next write on an object has the number behind its last one
pub next-number : (s : State) (asked : Asked) → is_next s asked ≡ true
    → version_asked asked ≡ number_of s (object_asked asked) + 1
next-number s asked next =
    eqb-true _ _ (and_parts (is_put asked || (standing s (object_asked asked)).live)
    (version_asked asked == number_of s (object_asked asked) + 1) next).1

-- the next deletion is of what is live
pub drop-next : (s : State) (object : Object) (version : ℕ)
    → is_next s (Deletion object version) ≡ true → (standing s object).live ≡ true
drop-next s object version next =
    (and_parts (standing s object).live (version == number_of s object + 1) next).0

-- so a manifest that is deleted next has a row
pub drop-found : (s : State) (name : List ℕ) (version : ℕ)
    → is_next s (Deletion (Manifest name) version) ≡ true
    → (row : ManifestState) × (manifest_row s name ≡ Some row)
drop-found s name version next =
    let found =
    passes-some (λ row. is_some row.live) (manifest_row s name)
    (drop-next s (Manifest name) version next) in
    (found.0, found.1)

-- ---- the number of a row that is put

module _ {R : Type 0} (key : R → Key) (version : R → ℕ) where
  -- the number under a key: 0 without a row
  abbrev number_at : Key → List R → ℕ
  number_at wanted rows = unwrap_or (option_map version (row_of key wanted rows)) 0

  -- the row that was put has its number
  number_at-put : (row : R) (rows : List R)
      → number_at (key row) (put_row key row rows) ≡ version row
  number_at-put row rows =
      ap (λ found. unwrap_or (option_map version found) 0) (row_of-put_row key row (key row) rows)
      ∙ rw (same_key-refl (key row)) refl

  -- a row whose number is no lower than the one before it makes no number lower
  number_at-rises : (row : R) (rows : List R) → number_at (key row) rows ≤ version row
      → (wanted : Key) → number_at wanted rows ≤ number_at wanted (put_row key row rows)
  number_at-rises row rows up wanted =
      let found = row_of-put_row key row wanted rows in
      elim (cases_Bool (same_key (key row) wanted)) [
        | inl is ↦
            rw (found, is)
            (subst (λ k. number_at k rows ≤ version row) (same_key-true (key row) wanted is) up)
        | inr isnt ↦ rw (found, isnt) (omega arith)
      ]

-- between two states no number falls, and an object comes to have this one
pub record IsWritten (s t : State) (object : Object) (version : ℕ) : Type 0 where
  pub rises : (other : Object) → number_of s other ≤ number_of t other
  pub has : number_of t object ≡ version

-- the next row of a reader, of a manifest or of an annotation makes no number lower
reader-rises : (s : State) (r : ReaderState) → r.version ≡ number_of s (Reader r.name) + 1
    → (object : Object) → number_of s object ≤ number_of (with_row s (kept.Reader r)) object
reader-rises s r next (Reader name) =
    number_at-rises reader_key (λ row. row.version) r s.readers (omega arith)
    (record { owner = None; name = name })
reader-rises s r next (Manifest name) = omega arith
reader-rises s r next (Note owner name) = omega arith

manifest-rises : (s : State) (m : ManifestState) → m.version ≡ number_of s (Manifest m.name) + 1
    → (object : Object) → number_of s object ≤ number_of (with_row s (kept.Manifest m)) object
manifest-rises s m next (Reader name) = omega arith
manifest-rises s m next (Manifest name) =
    number_at-rises manifest_key (λ row. row.version) m s.manifests (omega arith)
    (record { owner = None; name = name })
manifest-rises s m next (Note owner name) = omega arith

note-rises : (s : State) (n : NoteState) → n.version ≡ number_of s (Note n.owner n.name) + 1
    → (object : Object) → number_of s object ≤ number_of (with_row s (kept.Note n)) object
note-rises s n next (Reader name) = omega arith
note-rises s n next (Manifest name) = omega arith
note-rises s n next (Note owner name) =
    number_at-rises note_key (λ row. row.version) n s.notes (omega arith)
    (record { owner = Some owner; name = name })

-- it gives its object its number
reader-written : (s : State) (r : ReaderState) → r.version ≡ number_of s (Reader r.name) + 1
    → IsWritten s (with_row s (kept.Reader r)) (Reader r.name) r.version
reader-written s r next = record {
  rises = reader-rises s r next;
  has = number_at-put reader_key (λ row. row.version) r s.readers;
}

manifest-written : (s : State) (m : ManifestState) → m.version ≡ number_of s (Manifest m.name) + 1
    → IsWritten s (with_row s (kept.Manifest m)) (Manifest m.name) m.version
manifest-written s m next = record {
  rises = manifest-rises s m next;
  has = number_at-put manifest_key (λ row. row.version) m s.manifests;
}

note-written : (s : State) (n : NoteState) → n.version ≡ number_of s (Note n.owner n.name) + 1
    → IsWritten s (with_row s (kept.Note n)) (Note n.owner n.name) n.version
note-written s n next = record {
  rises = note-rises s n next;
  has = number_at-put note_key (λ row. row.version) n s.notes;
}

-- ---- the deletion of a manifest

-- the number behind another is no lower
number_behind-rises : (version : ℕ) → version ≤ number_behind version
number_behind-rises version =
    cond_both (nat_lt version (2 ^ 32 - 1)) (version + 1) version (λ n. version ≤ n)
    (λ h. omega arith) (λ h. omega arith)

-- an annotation has no lower a number as it is left
left-version : (manifest : List ℕ) (row : NoteState) → row.version ≤ (as_left manifest row).version
left-version manifest row =
    elim (is_on manifest row) as (λ b. row.version ≤ (cond b (buried row) row).version) [
      | true ↦ number_behind-rises row.version
      | false ↦ omega arith
    ]

-- nor has what is found, if anything is
left-number : (manifest : List ℕ) (found : Option NoteState)
    → current (note_standing found) ≤ current (note_standing (option_map (as_left manifest) found))
left-number manifest None = omega arith
left-number manifest (Some row) = left-version manifest row

-- what goes with a manifest makes no number lower
left-rises : (s : State) (manifest : List ℕ) → is_distinct s ≡ true → (object : Object)
    → number_of s object ≤ number_of (left_state s manifest) object
left-rises s manifest distinct (Reader name) = omega arith
left-rises s manifest distinct (Manifest name) = omega arith
left-rises s manifest distinct (Note owner name) =
    subst (λ found. number_of s (Note owner name) ≤ current (note_standing found))
    (sym (note_row-left s manifest owner name distinct))
    (left-number manifest (note_row s owner name))

-- the tombstone of the manifest is put last
dropped-written : (s : State) (name : List ℕ) (version : ℕ) → is_distinct s ≡ true
    → version ≡ number_of s (Manifest name) + 1
    → (row : ManifestState)
    → IsWritten s
    (with_row (left_state s name) (kept.Manifest (manifest_tombstone name version row)))
    (Manifest name) version
dropped-written s name version distinct next row =
    let put = manifest-written (left_state s name) (manifest_tombstone name version row) next in
    record {
      rises = λ other. omega (arith, left-rises s name distinct other, put.rises other);
      has = put.has;
    }

-- ---- an accepted write

-- the rows of an accepted write make no number lower, and give its object its number
deletion-written : (s : State) (who : Identity) (at : ℤ) (object : Object) (version : ℕ)
    → is_distinct s ≡ true → is_next s (Deletion object version) ≡ true
    → IsWritten s (with_rows (deletion s who at version object).rows s) object version
deletion-written s who at (Reader name) version distinct next =
    reader-written s _ (next-number s (Deletion (Reader name) version) next)
deletion-written s who at (Manifest name) version distinct next =
    let found = drop-found s name version next in
    subst (λ t. IsWritten s t (Manifest name) version)
    (sym (with_rows-tombstone s who at name version found.0 found.1))
    (dropped-written s name version distinct
    (next-number s (Deletion (Manifest name) version) next) found.0)
deletion-written s who at (Note owner name) version distinct next =
    note-written s _ (next-number s (Deletion (Note owner name) version) next)

rows-written : (s : State) (who : Identity) (at : ℤ) (asked : Asked) → is_distinct s ≡ true
    → is_next s asked ≡ true
    → IsWritten s (with_rows (effect_of s who at asked).rows s) (object_asked asked)
    (version_asked asked)
rows-written s who at (put.Reader r) distinct next =
    reader-written s _ (next-number s (put.Reader r) next)
rows-written s who at (put.Manifest m) distinct next =
    manifest-written s _ (next-number s (put.Manifest m) next)
rows-written s who at (put.Note n) distinct next =
    note-written s _ (next-number s (put.Note n) next)
rows-written s who at (Deletion object version) distinct next =
    deletion-written s who at object version distinct next

-- activities have no numbers
number-activities : (s : State) (activities : List Activity) (object : Object)
    → number_of (record s { activities = activities }) object ≡ number_of s object
number-activities s activities (Reader name) = refl
number-activities s activities (Manifest name) = refl
number-activities s activities (Note owner name) = refl

activities-written : (s t : State) (activities : List Activity) (object : Object) (version : ℕ)
    → IsWritten s t object version
    → IsWritten s (record t { activities = activities }) object version
activities-written s t activities object version put = record {
  rises = λ other. rw (number-activities t activities other) (put.rises other);
  has = number-activities t activities object ∙ put.has;
}

-- behind an accepted write no number is lower, and its object has its number
pub accepted-written : (s : State) (write : Write) → is_distinct s ≡ true → Accepts s write
    → IsWritten s (after s write.entry) (object_of write.command) (version_of write.command)
accepted-written s write distinct accepts =
    let is = accepted-is s write accepts in
    let agree = asked-agrees write.command is.asked is.reads in
    let effect = effect_of s is.who (moment_of_write s write.moment) is.asked in
    let t = with_rows effect.rows s in
    let put = rows-written s is.who (moment_of_write s write.moment) is.asked distinct is.next in
    rw (is.same, ← agree.object, ← agree.version)
    (activities-written s t (t.activities ++ effect.activities) (object_asked is.asked)
    (version_asked is.asked) put)
