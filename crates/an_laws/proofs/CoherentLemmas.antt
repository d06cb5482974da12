-- Each accepted write leads from a coherent state to a coherent one.
use Rattle.std.proofs.Common.{◌≡◌, ℕ, ℤ, true, false, not, List, [], ◌∷◌, ◌++◌, Option, Some, None, refl, sym, ap, subst, ◌∙◌}
use Rattle.std.specs.Prelude.{All, IsTrue}
use Rattle.std.specs.List.{list_all}
use Rattle.std.proofs.lemmas.Bool.{not-false}
use Rattle.std.proofs.lemmas.List.Elements.{All-nil}
use Rattle.an_base.specs.Outcome.{first_of, passes}
use Rattle.an_keyed.specs.Key.{Key}
use Rattle.an_policy.specs.Audience.{Identity}
use Rattle.an_machine.specs.Accepted.{effect_of, manifest_tombstone, moment_of_write, note_tombstone, put_manifest, put_note}
use Rattle.an_state.specs.View.{audience_of_manifest, audience_of_note}
use Rattle.an_state.specs.Entries.{after, with_row, with_rows}
use Rattle.an_machine.specs.Refusals.{refusals_behind}
use Rattle.an_state.specs.Sound.{is_sound, stands_on_live}
use Rattle.an_state.specs.State.{State, ReaderState, ManifestState, empty, manifest_row, note_row, is_distinct}
use Rattle.an_machine.specs.Versions.{is_next}
use Rattle.an_policy.specs.Group.{same_group}
use Rattle.an_state.specs.declared.activity.Activity.{Activity}
use Rattle.an_machine.specs.declared.asked.Asked.{Asked}
use Rattle.an_machine.specs.declared.asked.Asked.TheVariants.{Deletion}
use Rattle.an_machine.specs.declared.asked.Asked.TheVariants as put
use Rattle.an_machine.specs.declared.asked.ManifestPut.{ManifestPut}
use Rattle.an_machine.specs.declared.asked.NotePut.{NotePut}
use Rattle.an_state.specs.declared.command.Object.TheVariants as object
use Rattle.an_state.specs.declared.entry.Row.TheVariants as kept
use Rattle.an_laws.specs.Coherent.{Chain, Coherent, activities_of, audiences_of, has_any, has_row}
use Rattle.an_machine.specs.Legal.{Write, Accepts, Legal, state_of}
use Rattle.an_laws.proofs.AudienceLemmas.{CoherentFirst, coherent-first, all-audiences}
use Rattle.an_laws.proofs.BurialLemmas.{left_state}
use Rattle.an_laws.proofs.DropLemmas.{with_rows-tombstone}
use Rattle.an_laws.proofs.LeadLemmas.{key_at, Leads, leads-none, leads-both, leads-note, leads-manifest, coherent-behind, NotesStay}
use Rattle.an_laws.proofs.LeftLemmas.{leads-left}
use Rattle.an_laws.proofs.RefusalLemmas.{manifest-fixed, same_group-equal}
use Rattle.an_laws.proofs.RiseLemmas.{drop-found}
use Rattle.an_laws.proofs.SoundLemmas.{sound-after}
use Rattle.an_laws.proofs.SoundParts.{sound-parts}
use Rattle.an_laws.proofs.StayLemmas.{group_in, stay-kept, stay-new}
use Rattle.an_laws.proofs.StepLemmas.{accepted-is}

-- ---- the empty state

empty_at : (owner : Option (List ℕ)) (name : List ℕ)
    → All (Chain None (activities_of (key_at owner name) []))
    (audiences_of empty (key_at owner name))
    × (has_row empty (key_at owner name) ≡ has_any (activities_of (key_at owner name) []))
empty_at None name = (All-nil _, refl)
empty_at (Some owner) name = (All-nil _, refl)

-- the empty state is coherent: no object has a row, and none an activity
pub empty-coherent : Coherent empty
empty-coherent key = empty_at key.owner key.name

-- ---- a write

-- a state whose activities are those of the one before, and whose rows are what new ones lead to
record Arrives (s : State) (new : List Activity) (t : State) : Type 0 where
  leads : Leads s new t
  same : t.activities ≡ s.activities

coherent-arrives : (s t : State) (new : List Activity) → CoherentFirst s → Arrives s new t
    → CoherentFirst (record t { activities = t.activities ++ new })
coherent-arrives s t new coherent arrives =
    subst (λ activities. CoherentFirst (record t { activities = activities ++ new }))
    (sym arrives.same) (coherent-behind s t new coherent arrives.leads)

-- readers have no activities, and are no object's rows
arrives-reader : (s : State) (row : ReaderState) → Arrives s [] (with_row s (kept.Reader row))
arrives-reader s row = record {
  leads = leads-none s (with_row s (kept.Reader row)) (λ key. (refl, refl));
  same = refl;
}

module _ (s : State) (who : Identity) (at : ℤ) where
  abbrev ArrivesBy : Asked → Type 0
  ArrivesBy asked =
      Arrives s (effect_of s who at asked).activities (with_rows (effect_of s who at asked).rows s)

  -- a manifest that is put has the group of the one that it replaces
  stay-put : (row : ManifestState) (found : Option ManifestState) → manifest_row s row.name ≡ found
      → passes (λ other. not (same_group other.group row.group)) found ≡ false
      → IsTrue (list_all (stands_on_live s) s.notes) → NotesStay s row
  stay-put row None is fixed stand = stay-new s row is stand
  stay-put row (Some old) is fixed stand =
      stay-kept s row (ap group_in is
      ∙ ap (λ group. Some group) (same_group-equal old.group row.group (not-false _ fixed)))

  arrives-put_manifest : (m : ManifestPut) → first_of (refusals_behind s (put.Manifest m)) ≡ None
      → IsTrue (list_all (stands_on_live s) s.notes) → ArrivesBy (put.Manifest m)
  arrives-put_manifest m none stand =
      let row = put_manifest at (manifest_row s m.name) m in
      record {
        leads =
            leads-manifest s row who at (audience_of_manifest row) refl
            (stay-put row (manifest_row s m.name) refl (manifest-fixed s m none) stand);
        same = refl;
      }

  arrives-put_note : (n : NotePut) → ArrivesBy (put.Note n)
  arrives-put_note n =
      let row = put_note who at (note_row s n.owner n.name) n in
      record { leads = leads-note s row who at (audience_of_note s row) refl; same = refl }

  -- the tombstone of an annotation is read by nobody
  arrives-drop_note : (owner name : List ℕ) (version : ℕ)
      → ArrivesBy (Deletion (object.Note owner name) version)
  arrives-drop_note owner name version = record {
    leads = leads-note s (note_tombstone owner name version) who at None refl;
    same = refl;
  }

  -- the tombstone of a manifest is put behind those of its annotations
  arrives-buried : (name : List ℕ) (version : ℕ) (old : ManifestState)
      → manifest_row s name ≡ Some old → IsTrue (is_distinct s)
      → ArrivesBy (Deletion (object.Manifest name) version)
  arrives-buried name version old is distinct =
      let left = left_state s name in
      let row = manifest_tombstone name version old in
      let buried = leads-left s who at name distinct in
      let last = leads-manifest left row who at None refl (stay-kept left row (ap group_in is)) in
      subst
      (λ t. Arrives s (effect_of s who at (Deletion (object.Manifest name) version)).activities t)
      (sym (with_rows-tombstone s who at name version old is))
      (record { leads = leads-both buried last; same = refl })

  -- what is asked for leads to the rows that it puts
  arrives : (asked : Asked) → first_of (refusals_behind s asked) ≡ None → is_next s asked ≡ true
      → IsTrue (is_sound s) → ArrivesBy asked
  arrives (put.Reader r) none next sound = arrives-reader s _
  arrives (put.Manifest m) none next sound = arrives-put_manifest m none (sound-parts s sound).stand
  arrives (put.Note n) none next sound = arrives-put_note n
  arrives (Deletion (object.Reader name) version) none next sound = arrives-reader s _
  arrives (Deletion (object.Manifest name) version) none next sound =
      let found = drop-found s name version next in
      arrives-buried name version found.0 found.1 (sound-parts s sound).distinct
  arrives (Deletion (object.Note owner name) version) none next sound =
      arrives-drop_note owner name version

-- a write that is accepted keeps the first rows coherent
first-after : (s : State) (write : Write) → Accepts s write → IsTrue (is_sound s) → CoherentFirst s
    → CoherentFirst (after s write.entry)
first-after s write accepts sound coherent =
    let is = accepted-is s write accepts in
    let at = moment_of_write s write.moment in
    let effect = effect_of s is.who at is.asked in
    let behind = arrives s is.who at is.asked is.unrefused is.next sound in
    subst (λ entry. CoherentFirst (after s entry)) (sym is.same)
    (coherent-arrives s (with_rows effect.rows s) effect.activities coherent behind)

-- and all rows, whose names stay distinct; in the two parts that the law's clause has there
pub chains-after : (s : State) (write : Write) (key : Key) → Accepts s write → IsTrue (is_sound s)
    → Coherent s
    → All (Chain None (activities_of key (after s write.entry).activities))
    (audiences_of (after s write.entry) key)
chains-after s write key accepts sound coherent =
    all-audiences (after s write.entry) key
    (sound-parts (after s write.entry) (sound-after s write accepts sound)).distinct
    (first-after s write accepts sound (coherent-first s coherent))

pub rows-after : (s : State) (write : Write) (key : Key) → Accepts s write → IsTrue (is_sound s)
    → Coherent s
    → has_row (after s write.entry) key
    ≡ has_any (activities_of key (after s write.entry).activities)
rows-after s write key accepts sound coherent =
    (first-after s write accepts sound (coherent-first s coherent) key).1

pub coherent-after : (s : State) (write : Write) → Accepts s write → IsTrue (is_sound s)
    → Coherent s → Coherent (after s write.entry)
coherent-after s write accepts sound coherent key =
    (chains-after s write key accepts sound coherent, rows-after s write key accepts sound coherent)

-- so each legal history leads to a coherent state
pub histories-coherent : (s : State) (writes : List Write) → Legal s writes → IsTrue (is_sound s)
    → Coherent s → Coherent (state_of s writes)
histories-coherent s [] legal sound coherent = coherent
histories-coherent s (write ∷ writes) legal sound coherent =
    histories-coherent (after s write.entry) writes legal.1 (sound-after s write legal.0 sound)
    (coherent-after s write legal.0 sound coherent)

pub chains-along : (s : State) (writes : List Write) (key : Key) → Legal s writes
    → IsTrue (is_sound s) → Coherent s
    → All (Chain None (activities_of key (state_of s writes).activities))
    (audiences_of (state_of s writes) key)
chains-along s writes key legal sound coherent =
    (histories-coherent s writes legal sound coherent key).0

pub rows-along : (s : State) (writes : List Write) (key : Key) → Legal s writes
    → IsTrue (is_sound s) → Coherent s
    → has_row (state_of s writes) key ≡ has_any (activities_of key (state_of s writes).activities)
rows-along s writes key legal sound coherent =
    (histories-coherent s writes legal sound coherent key).1

pub ruleset coherence = (empty-coherent, chains-after, rows-after, chains-along, rows-along)
