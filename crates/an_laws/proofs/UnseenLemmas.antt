-- A write of whose activities a caller sees none leaves what the caller may read.
use Rattle.std.proofs.Common.{◌≡◌, ℕ, ℤ, Bool, true, false, cond, not, ◌&&◌, ◌||◌, List, [], ◌∷◌, ◌++◌, map, Option, Some, None, option_map, option_and_then, IsTrue, inl, inr, refl, sym, ap, subst, ◌∙◌, append-nil}
use Rattle.std.specs.Prelude.{filter}
use Rattle.std.specs.List.{list_all, cons_option}
use Rattle.std.proofs.lemmas.Bool.{cases_Bool, and_parts, and_from, and_cases, not-true, not-false, not_from_false, both_ways, cond-true, cond-false}
use Rattle.std.proofs.lemmas.List.Elements.{filter_agree, filter_map-append}
use Rattle.std.proofs.lemmas.List.Folds.{list_all-append, list_all-map}
use Rattle.an_base.specs.Outcome.{first_of, passes}
use Rattle.an_keyed.specs.Key.{same_key}
use Rattle.an_keyed.specs.Rows.{row_of}
use Rattle.an_keyed.proofs.KeyLemmas.{same_key-true}
use Rattle.an_keyed.proofs.PutLemmas.{distinct-put_row}
use Rattle.an_policy.specs.Audience.{Identity, is_in, is_inside, is_named, may}
use Rattle.an_policy.specs.Seen.{reads, as_seen}
use Rattle.an_policy.specs.declared.who.Caller.{Caller}
use Rattle.an_policy.specs.declared.group.Group.{Group}
use Rattle.an_policy.specs.declared.kind.Kind.TheVariants.{Create, Update, Delete}
use Rattle.an_machine.specs.Accepted.{buried, burial, effect_of, manifest_activity, manifest_tombstone, moment_of_write, note_activity, note_tombstone, notes_on, put_manifest, put_note}
use Rattle.an_state.specs.View.{audience_of_manifest, audience_of_note}
use Rattle.an_state.specs.Entries.{after, with_row, with_rows}
use Rattle.an_machine.specs.Legal.{Write, Accepts, Legal, state_of}
use Rattle.an_machine.specs.Refusals.{refusals_behind}
use Rattle.an_state.specs.State.{State, ReaderState, ManifestState, NoteState, LiveNote, manifest_key, note_key, manifest_row, note_row, who_of, notes_are_distinct}
use Rattle.an_machine.specs.Versions.{is_next}
use Rattle.an_policy.specs.Group.{same_group}
use Rattle.an_state.specs.View.{View, view_of, view_for, is_on, note_audience, shows_manifest, shows_note, seen_as, seen_by}
use Rattle.an_state.specs.declared.activity.Activity.{Activity}
use Rattle.an_machine.specs.declared.asked.Asked.{Asked}
use Rattle.an_machine.specs.declared.asked.Asked.TheVariants.{Deletion}
use Rattle.an_machine.specs.declared.asked.Asked.TheVariants as put
use Rattle.an_machine.specs.declared.asked.ManifestPut.{ManifestPut}
use Rattle.an_machine.specs.declared.asked.NotePut.{NotePut}
use Rattle.an_state.specs.declared.command.Object.TheVariants as object
use Rattle.an_state.specs.declared.entry.Entry.{Entry}
use Rattle.an_state.specs.declared.entry.Entry.TheVariants.{Restored, Done}
use Rattle.an_state.specs.declared.entry.Row.{Row}
use Rattle.an_state.specs.declared.entry.Row.TheVariants as kept
use Rattle.an_laws.specs.Isolation.{reads_as, activities_in, IsUnseen, AreUnseen}
use Rattle.an_state.specs.View.{view_by}
use Rattle.an_laws.proofs.BurialLemmas.{left_state}
use Rattle.an_laws.proofs.CallerLemmas.{caller-after}
use Rattle.an_laws.proofs.DropLemmas.{with_rows-tombstone}
use Rattle.an_laws.proofs.HiddenLemmas.{hidden-put_row, hidden-put_all, hidden-found}
use Rattle.an_laws.proofs.LeadLemmas.{key_at, with_manifest, manifest_found}
use Rattle.an_laws.proofs.RefusalLemmas.{manifest-fixed, same_group-equal}
use Rattle.an_laws.proofs.RiseLemmas.{drop-found}
use Rattle.an_laws.proofs.SoundLemmas.{activities-then}
use Rattle.an_laws.proofs.StepLemmas.{accepted-is}
use Rattle.an_laws.proofs.ToldLemmas.{manifest_shown, note_shown}

-- ---- what an activity tells that isn't seen

none-behind_option : {A : Type 0} (o : Option A) (rest : List A) → cons_option o rest ≡ []
    → (o ≡ None) × (rest ≡ [])
none-behind_option None rest none = (refl, none)
none-behind_option (Some x) rest none = absurd (cc)

none-mapped : {A B : Type 0} (f : A → B) (o : Option A) → option_map f o ≡ None → o ≡ None
none-mapped f None none = refl
none-mapped f (Some x) none = absurd (cc)

-- a change that isn't seen is of what neither could be read nor can be
unseen-change : (was is : Bool)
    → cond was (cond is (Some Update) (Some Delete)) (cond is (Some Create) None) ≡ None
    → (was ≡ false) × (is ≡ false)
unseen-change true true none = absurd (cc)
unseen-change true false none = absurd (cc)
unseen-change false true none = absurd (cc)
unseen-change false false none = (refl, refl)

module _ (reader : Identity) where
  abbrev is_unread : Activity → Bool
  is_unread activity = not (reads reader activity.before) && not (reads reader activity.after)

  unread-one : (activity : Activity) → seen_as reader activity ≡ None → is_unread activity ≡ true
  unread-one activity none =
      let both =
      unseen-change (reads reader activity.before) (reads reader activity.after)
      (none-mapped _ (as_seen reader activity.before activity.after) none) in
      and_from _ _ (not_from_false _ both.0) (not_from_false _ both.1)

  unread-all : (activities : List Activity) → seen_by reader activities ≡ []
      → list_all is_unread activities ≡ true
  unread-all [] none = refl
  unread-all (activity ∷ activities) none =
      let both = none-behind_option (seen_as reader activity) (seen_by reader activities) none in
      and_from _ _ (unread-one activity both.0) (unread-all activities both.1)

  -- of one activity alone
  record Unread (activity : Activity) : Type 0 where
    before : reads reader activity.before ≡ false
    behind : reads reader activity.after ≡ false

  unread-only : (activity : Activity) → seen_by reader (activity ∷ []) ≡ [] → Unread activity
  unread-only activity none =
      let one = and_parts (is_unread activity) true (unread-all (activity ∷ []) none) in
      let both = and_parts _ _ one.0 in
      record { before = not-true _ both.0; behind = not-true _ both.1 }

-- ---- what may be read of an annotation goes by its manifest's group

module _ (reader : Identity) where
  -- there is a manifest, and the caller is in its group
  abbrev opens_to : Option ManifestState → Bool
  opens_to found = passes (λ manifest. is_in reader manifest.group) found

  below-opened : (row : NoteState) (live : LiveNote) (found : Option ManifestState)
      → passes (λ manifest. may reader (note_audience manifest row live)) found
      ≡ (opens_to found && (is_inside reader live.group || is_named reader row.owner))
  below-opened row live None = refl
  below-opened row live (Some manifest) = refl

  module _ (s t : State) (alike : (name : List ℕ)
      → opens_to (manifest_row t name) ≡ opens_to (manifest_row s name)) where
    live-alike : (row : NoteState) (live : Option LiveNote)
        → passes (λ its. passes (λ manifest. may reader (note_audience manifest row its))
        (manifest_row t its.manifest)) live
        ≡ passes (λ its. passes (λ manifest. may reader (note_audience manifest row its))
        (manifest_row s its.manifest)) live
    live-alike row None = refl
    live-alike row (Some live) =
        below-opened row live (manifest_row t live.manifest)
        ∙ ap (λ b. b && (is_inside reader live.group || is_named reader row.owner))
        (alike live.manifest)
        ∙ sym (below-opened row live (manifest_row s live.manifest))

    -- where each manifest is open to the caller in both states or in none, the same annotations are
    -- shown
    shown-alike : (row : NoteState) → shows_note t reader row ≡ shows_note s reader row
    shown-alike row = live-alike row row.live

-- ---- what a write leaves of a view

-- the caller may read the same rows behind a write
record Keeps (s t : State) (reader : Identity) : Type 0 where
  manifests : filter (shows_manifest reader) t.manifests
      ≡ filter (shows_manifest reader) s.manifests
  notes : filter (shows_note t reader) t.notes ≡ filter (shows_note s reader) s.notes

module _ (s : State) (reader : Identity) where
  -- what is put in place of what isn't read, and isn't read itself
  keeps-note : (row : NoteState)
      → reads reader (option_and_then (audience_of_note s) (note_row s row.owner row.name)) ≡ false
      → reads reader (audience_of_note s row) ≡ false
      → Keeps s (with_row s (kept.Note row)) reader
  keeps-note row before behind = record {
    manifests = refl;
    notes =
        hidden-put_row (shows_note s reader) note_key row s.notes
        (note_shown s reader (Some row) ∙ behind)
        (note_shown s reader (note_row s row.owner row.name) ∙ before);
  }

  manifests-kept : (row : ManifestState) (manifests : List ManifestState)
      → reads reader
      (option_and_then audience_of_manifest (row_of manifest_key (manifest_key row) manifests))
      ≡ false
      → reads reader (audience_of_manifest row) ≡ false
      → filter (shows_manifest reader)
      (with_manifest (record s { manifests = manifests }) row).manifests
      ≡ filter (shows_manifest reader) manifests
  manifests-kept row manifests before behind =
      hidden-put_row (shows_manifest reader) manifest_key row manifests
      (manifest_shown reader (Some row) ∙ behind)
      (manifest_shown reader (row_of manifest_key (manifest_key row) manifests) ∙ before)

  -- a manifest in place of one that is as open leaves each as open as it was
  alike-put : (t : State) (row : ManifestState) → t.manifests ≡ s.manifests
      → opens_to reader (Some row) ≡ opens_to reader (manifest_row s row.name)
      → (name : List ℕ)
      → opens_to reader (manifest_row (with_manifest t row) name)
      ≡ opens_to reader (manifest_row s name)
  alike-put t row rows same name =
      elim (cases_Bool (same_key (manifest_key row) (key_at None name))) [
        | inl is ↦
            let named : row.name ≡ name =
            ap (λ key. key.name) (same_key-true (manifest_key row) (key_at None name) is) in
            ap (opens_to reader) (manifest_found t row name ∙ cond-true _ _ _ is) ∙ same
            ∙ ap (λ its. opens_to reader (manifest_row s its)) named
        | inr isnt ↦
            ap (opens_to reader) (manifest_found t row name ∙ cond-false _ _ _ isnt)
            ∙ ap
            (λ manifests. opens_to reader (row_of manifest_key (key_at None name) manifests)) rows
      ]

module _ (s : State) (who : Identity) (at : ℤ) (reader : Identity) where
  abbrev KeepsBy : Asked → Type 0
  KeepsBy asked = Keeps s (with_rows (effect_of s who at asked).rows s) reader

  abbrev Unseen : Asked → Type 0
  Unseen asked = seen_by reader (effect_of s who at asked).activities ≡ []

  keeps-reader : (row : ReaderState) → Keeps s (with_row s (kept.Reader row)) reader
  keeps-reader row = record { manifests = refl; notes = refl }

  -- a manifest that the caller can't read is in a group that the caller isn't in
  outside : (group : Group) → (is_in reader group && true) ≡ false → is_in reader group ≡ false
  outside group hidden = elim (and_cases (is_in reader group) true hidden)
      [ inl is ↦ is | inr isnt ↦ absurd (both_ways _ isnt refl) ]

  -- the manifest that it replaces is in that group
  same-closed : (row : ManifestState) (found : Option ManifestState)
      → is_in reader row.group ≡ false
      → passes (λ old. not (same_group old.group row.group)) found ≡ false
      → opens_to reader found ≡ false
  same-closed row None closed fixed = refl
  same-closed row (Some old) closed fixed =
      ap (is_in reader) (same_group-equal old.group row.group (not-false _ fixed)) ∙ closed

  keeps-put_manifest : (m : ManifestPut) → first_of (refusals_behind s (put.Manifest m)) ≡ None
      → Unseen (put.Manifest m) → KeepsBy (put.Manifest m)
  keeps-put_manifest m none unseen =
      let row = put_manifest at (manifest_row s m.name) m in
      let could = option_and_then audience_of_manifest (manifest_row s m.name) in
      let unread =
      unread-only reader
      (manifest_activity who at m.name could (audience_of_manifest row)) unseen in
      let closed : is_in reader row.group ≡ false = outside row.group unread.behind in
      let same : opens_to reader (Some row) ≡ opens_to reader (manifest_row s row.name) =
      closed ∙ sym (same-closed row (manifest_row s m.name) closed (manifest-fixed s m none)) in
      record {
        manifests = manifests-kept s reader row s.manifests unread.before unread.behind;
        notes =
            filter_agree (shows_note (with_manifest s row) reader) (shows_note s reader)
            (shown-alike reader s (with_manifest s row) (alike-put s reader s row refl same))
            s.notes;
      }

  keeps-put_note : (n : NotePut) → Unseen (put.Note n) → KeepsBy (put.Note n)
  keeps-put_note n unseen =
      let before = note_row s n.owner n.name in
      let row = put_note who at before n in
      let unread =
      unread-only reader (note_activity who at n.owner n.name
      (option_and_then (audience_of_note s) before) (audience_of_note s row)) unseen in
      keeps-note s reader row unread.before unread.behind

  keeps-drop_note : (owner name : List ℕ) (version : ℕ)
      → Unseen (Deletion (object.Note owner name) version)
      → KeepsBy (Deletion (object.Note owner name) version)
  keeps-drop_note owner name version unseen =
      let unread =
      unread-only reader (note_activity who at owner name
      (option_and_then (audience_of_note s) (note_row s owner name)) None) unseen in
      keeps-note s reader (note_tombstone owner name version) unread.before refl

  -- ---- the deletion of a manifest

  -- tombstones aren't shown
  buried-hidden : (rows : List NoteState)
      → list_all (λ row. not (shows_note s reader row)) (map buried rows) ≡ true
  buried-hidden [] = refl
  buried-hidden (row ∷ rows) = buried-hidden rows

  -- an annotation whose burial isn't seen wasn't shown
  burials-hidden : (rows : List NoteState)
      → list_all (is_unread reader) (map (burial s who at) rows) ≡ true
      → list_all (λ row. not (shows_note s reader row)) rows ≡ true
  burials-hidden [] unread = refl
  burials-hidden (row ∷ rows) unread =
      let both =
      and_parts (is_unread reader (burial s who at row))
      (list_all (is_unread reader) (map (burial s who at) rows)) unread in
      let here = and_parts _ _ both.0 in
      and_from _ _ (ap not (note_shown s reader (Some row)) ∙ here.0) (burials-hidden rows both.1)

  -- the annotations that go with a manifest are none that the caller may read
  left-hidden : (name : List ℕ) → notes_are_distinct s ≡ true
      → list_all (λ row. not (shows_note s reader row)) (notes_on s name) ≡ true
      → filter (shows_note s reader) (left_state s name).notes
      ≡ filter (shows_note s reader) s.notes
  left-hidden name distinct hidden =
      let old = hidden-found (shows_note s reader) note_key (is_on name) s.notes distinct hidden in
      hidden-put_all (shows_note s reader) note_key (map buried (notes_on s name)) s.notes
      (buried-hidden (notes_on s name))
      (list_all-map
      (λ row. not (passes (shows_note s reader) (row_of note_key (note_key row) s.notes))) buried
      (notes_on s name)
      ∙ old)

  keeps-buried : (name : List ℕ) (version : ℕ) (old : ManifestState)
      → manifest_row s name ≡ Some old → notes_are_distinct s ≡ true
      → Unseen (Deletion (object.Manifest name) version)
      → KeepsBy (Deletion (object.Manifest name) version)
  keeps-buried name version old is distinct unseen =
      let could = option_and_then audience_of_manifest (manifest_row s name) in
      let last = manifest_activity who at name could None in
      let all : list_all (is_unread reader) (map (burial s who at) (notes_on s name) ++ last ∷ [])
      ≡ true = unread-all reader (map (burial s who at) (notes_on s name) ++ last ∷ []) unseen in
      let parts =
      and_parts _ _ (sym
      (list_all-append (is_unread reader) (map (burial s who at) (notes_on s name)) (last ∷ []))
      ∙ all) in
      let ends = and_parts _ _ (and_parts (is_unread reader last) true parts.1).0 in
      let left = left_state s name in
      let row = manifest_tombstone name version old in
      let t = with_manifest left row in
      let same : opens_to reader (Some row) ≡ opens_to reader (manifest_row s row.name) =
      ap (opens_to reader) (sym is) in
      subst (λ u. Keeps s u reader)
      (sym (with_rows-tombstone s who at name version old is)) (record {
        manifests = manifests-kept left reader row s.manifests (not-true _ ends.0) refl;
        notes =
            filter_agree (shows_note t reader) (shows_note s reader)
            (shown-alike reader s t (alike-put s reader left row refl same)) left.notes
            ∙ left-hidden name distinct (burials-hidden (notes_on s name) parts.0);
      })

  -- ---- all

  keeps : (asked : Asked) → first_of (refusals_behind s asked) ≡ None → is_next s asked ≡ true
      → notes_are_distinct s ≡ true → Unseen asked → KeepsBy asked
  keeps (put.Reader r) none next distinct unseen = keeps-reader _
  keeps (put.Manifest m) none next distinct unseen = keeps-put_manifest m none unseen
  keeps (put.Note n) none next distinct unseen = keeps-put_note n unseen
  keeps (Deletion (object.Reader name) version) none next distinct unseen = keeps-reader _
  keeps (Deletion (object.Manifest name) version) none next distinct unseen =
      let found = drop-found s name version next in
      keeps-buried name version found.0 found.1 distinct unseen
  keeps (Deletion (object.Note owner name) version) none next distinct unseen =
      keeps-drop_note owner name version unseen

-- ---- the view

same-view_of : (s t : State) (reader : Identity) → Keeps s t reader
    → seen_by reader t.activities ≡ seen_by reader s.activities
    → view_of t reader ≡ view_of s reader
same-view_of s t reader same seen = let manifests = same.manifests in let notes = same.notes in cc

-- activities that aren't seen stand behind the others
seen-append : (reader : Identity) (old new : List Activity) → seen_by reader new ≡ []
    → seen_by reader (old ++ new) ≡ seen_by reader old
seen-append reader old new none =
    filter_map-append (seen_as reader) old new ∙ ap (λ l. seen_by reader old ++ l) none
    ∙ append-nil (seen_by reader old)

view-after : (s : State) (write : Write) (reader : Identity) → notes_are_distinct s ≡ true
    → Accepts s write → seen_by reader (activities_in write.entry) ≡ []
    → view_of (after s write.entry) reader ≡ view_of s reader
view-after s write reader distinct accepts unseen =
    let is = accepted-is s write accepts in
    let at = moment_of_write s write.moment in
    let effect = effect_of s is.who at is.asked in
    let t = with_rows effect.rows s in
    let new : seen_by reader effect.activities ≡ [] =
    ap (λ entry. seen_by reader (activities_in entry)) (sym is.same) ∙ unseen in
    let same = keeps s is.who at reader is.asked is.unrefused is.next distinct new in
    let u : State = record t { activities = t.activities ++ effect.activities } in
    let seen : seen_by reader u.activities ≡ seen_by reader s.activities =
    seen-append reader t.activities effect.activities new
    ∙ ap (seen_by reader) (activities-then s is.who at is.asked) in
    ap (λ entry. view_of (after s entry) reader) is.same
    ∙ same-view_of s u reader (record { manifests = same.manifests; notes = same.notes }) seen

view-for : (s t : State) (who : Option Identity)
    → view_of t (reads_as who) ≡ view_of s (reads_as who) → view_for t who ≡ view_for s who
view-for s t None same = ap {A = View} (λ view. record view { who = None }) same
view-for s t (Some who) same = same

-- ---- the law

pub unseen-after : (s : State) (write : Write) (caller : Caller) → IsTrue (notes_are_distinct s)
    → Accepts s write → IsUnseen s caller write.entry
    → who_of (after s write.entry) caller ≡ who_of s caller
    → view_by (after s write.entry) caller ≡ view_by s caller
unseen-after s write caller distinct accepts unseen same =
    ap (view_for (after s write.entry)) same
    ∙ view-for s (after s write.entry) (who_of s caller)
    (view-after s write (reads_as (who_of s caller)) distinct accepts unseen)

-- annotations keep keys of their own
notes-with_row : (s : State) (r : Row) → notes_are_distinct s ≡ true
    → notes_are_distinct (with_row s r) ≡ true
notes-with_row s (kept.Reader r) distinct = distinct
notes-with_row s (kept.Manifest m) distinct = distinct
notes-with_row s (kept.Note n) distinct = distinct-put_row note_key n s.notes distinct
notes-with_row s (kept.Activity a) distinct = distinct

notes-with_rows : (rows : List Row) (s : State) → notes_are_distinct s ≡ true
    → notes_are_distinct (with_rows rows s) ≡ true
notes-with_rows [] s distinct = distinct
notes-with_rows (r ∷ rows) s distinct =
    notes-with_rows rows (with_row s r) (notes-with_row s r distinct)

notes-after : (s : State) (entry : Entry) → notes_are_distinct s ≡ true
    → notes_are_distinct (after s entry) ≡ true
notes-after s (Restored row) distinct = notes-with_row s row distinct
notes-after s (Done command moment by rows activities) distinct = notes-with_rows rows s distinct

-- and so it is behind each legal history
pub histories-unseen : (s : State) (writes : List Write) (caller : Caller)
    → IsTrue (notes_are_distinct s) → Legal s writes → AreUnseen s caller writes
    → view_by (state_of s writes) caller ≡ view_by s caller
histories-unseen s [] caller distinct legal unseen = refl
histories-unseen s (write ∷ writes) caller distinct legal unseen =
    histories-unseen (after s write.entry) writes caller
    (notes-after s write.entry distinct) legal.1 unseen.2
    ∙ unseen-after s write caller distinct legal.0 unseen.0
    (caller-after s write caller legal.0 unseen.1)

pub ruleset unseen = (caller-after, unseen-after, histories-unseen)
