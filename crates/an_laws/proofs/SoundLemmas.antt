-- What is sound stays sound: each of the six tests, and then all of them.
use Rattle.std.proofs.Common.{◌≡◌, ℕ, ℤ, Bool, true, not, int_lt, List, [], ◌∷◌, ◌++◌, map, Some, None, option_and_then, IsTrue, refl, sym, ap, subst, ◌∙◌}
use Rattle.std.specs.List.{list_all}
use Rattle.std.proofs.lemmas.Bool.{and_from, eq-eqb}
use Rattle.std.proofs.lemmas.Slice.Eq.{bytes_eq-Decides}
use Rattle.an_base.specs.Outcome.{first_of}
use Rattle.an_keyed.proofs.PutLemmas.{all-put_row, distinct-put_row}
use Rattle.an_policy.specs.Audience.{Identity}
use Rattle.an_policy.specs.declared.reader.Reader.{Reader}
use Rattle.an_machine.specs.Accepted.{burial, effect_of, manifest_activity, moment_of_write, note_tombstone, notes_on, put_manifest, put_note, reader_tombstone}
use Rattle.an_state.specs.View.{audience_of_manifest}
use Rattle.an_machine.specs.Asked.{manifest_asked}
use Rattle.an_state.specs.Entries.{after, with_rows}
use Rattle.an_machine.specs.Refusals.{refusals_behind}
use Rattle.an_state.specs.Sound.{is_sound, agrees, tokens_are_distinct, is_live_manifest, stands_on_live, moments_never_fall}
use Rattle.an_state.specs.State.{State, NoteState, empty, reader_key, note_key, manifest_row, note_row, live_readers, keys_are_distinct, is_distinct}
use Rattle.an_state.specs.declared.activity.Activity.{Activity}
use Rattle.an_machine.specs.declared.asked.Asked.{Asked}
use Rattle.an_machine.specs.declared.asked.Asked.TheVariants.{Deletion}
use Rattle.an_machine.specs.declared.asked.Asked.TheVariants as put
use Rattle.an_state.specs.declared.command.Object.TheVariants as object
use Rattle.an_state.proofs.DistinctLemmas.{distinct-with_rows, notes-distinct}
use Rattle.an_machine.specs.Legal.{Write, Accepts, Legal, state_of}
use Rattle.an_keep.specs.Keeper.{Told}
use Rattle.an_laws.specs.Events.{AreKept, Event, IsLegal, Opened, Wrote, state_at, state_behind}
use Rattle.an_laws.proofs.DropLemmas.{dropped, with_rows-dropped}
use Rattle.an_laws.proofs.MomentLemmas.{not_below-self, moments-rise}
use Rattle.an_laws.proofs.RefusalLemmas.{asked-agrees, reader-untaken, note-based}
use Rattle.an_laws.proofs.SoundParts.{Sound, sound-parts, sound-from}
use Rattle.an_laws.proofs.StandLemmas.{stand-put, stand-dropped}
use Rattle.an_laws.proofs.StepLemmas.{accepted-is}
use Rattle.an_laws.proofs.TokensLemmas.{tokens-put_row}

-- what holds of each annotation's activity and of the last one holds of all
all-burials : (p : Activity → Bool) (bury : NoteState → Activity) (last : Activity)
    → ((row : NoteState) → p (bury row) ≡ true) → p last ≡ true
    → (rows : List NoteState) → list_all p (map bury rows ++ last ∷ []) ≡ true
all-burials p bury last each ends [] = and_from _ _ ends refl
all-burials p bury last each ends (row ∷ rows) =
    and_from _ _ (each row) (all-burials p bury last each ends rows)

-- names stay distinct whatever the activities are
distinct-with_activities : (t : State) (activities : List Activity) → is_distinct t ≡ true
    → is_distinct (record t { activities = activities }) ≡ true
unfolding is_distinct
distinct-with_activities t activities distinct = distinct

module _ (s : State) (who : Identity) (at : ℤ) where
  -- the state with the rows of the write
  abbrev then : Asked → State
  then asked = with_rows (effect_of s who at asked).rows s

  abbrev gone : List ℕ → ℕ → Asked
  gone name version = Deletion (object.Manifest name) version

  -- ---- readers

  readers-stay : (asked : Asked) → keys_are_distinct reader_key s.readers ≡ true
      → keys_are_distinct reader_key (then asked).readers ≡ true
  readers-stay (put.Reader r) keys =
      distinct-put_row reader_key (record { name = r.name; version = r.version; live = Some r })
      s.readers keys
  readers-stay (put.Manifest m) keys = keys
  readers-stay (put.Note n) keys = keys
  readers-stay (Deletion (object.Reader name) version) keys =
      distinct-put_row reader_key (reader_tombstone name version) s.readers keys
  readers-stay (Deletion (object.Manifest name) version) keys =
      ap (λ t. keys_are_distinct reader_key t.readers) (with_rows-dropped s who at name version)
      ∙ keys
  readers-stay (Deletion (object.Note owner name) version) keys = keys

  -- a reader that is put has its row's name and number
  agrees-put : (r : Reader)
      → agrees (record { name = r.name; version = r.version; live = Some r }) ≡ true
  agrees-put r =
      and_from _ _ ((bytes_eq-Decides r.name r.name).1 refl) (eq-eqb r.version r.version refl)

  agree-stay : (asked : Asked) → list_all agrees s.readers ≡ true
      → list_all agrees (then asked).readers ≡ true
  agree-stay (put.Reader r) agree =
      all-put_row reader_key agrees (record { name = r.name; version = r.version; live = Some r })
      s.readers (agrees-put r) agree
  agree-stay (put.Manifest m) agree = agree
  agree-stay (put.Note n) agree = agree
  agree-stay (Deletion (object.Reader name) version) agree =
      all-put_row reader_key agrees (reader_tombstone name version) s.readers refl agree
  agree-stay (Deletion (object.Manifest name) version) agree =
      ap (λ t. list_all agrees t.readers) (with_rows-dropped s who at name version) ∙ agree
  agree-stay (Deletion (object.Note owner name) version) agree = agree

  tokens-stay : (asked : Asked) → first_of (refusals_behind s asked) ≡ None → Sound s
      → tokens_are_distinct (live_readers (then asked)) ≡ true
  tokens-stay (put.Reader r) none sound =
      tokens-put_row (record { name = r.name; version = r.version; live = Some r }) s.readers
      sound.readers sound.agree sound.tokens (reader-untaken s r none)
  tokens-stay (put.Manifest m) none sound = sound.tokens
  tokens-stay (put.Note n) none sound = sound.tokens
  tokens-stay (Deletion (object.Reader name) version) none sound =
      tokens-put_row (reader_tombstone name version) s.readers sound.readers sound.agree
      sound.tokens refl
  tokens-stay (Deletion (object.Manifest name) version) none sound =
      ap (λ t. tokens_are_distinct (live_readers t)) (with_rows-dropped s who at name version)
      ∙ sound.tokens
  tokens-stay (Deletion (object.Note owner name) version) none sound = sound.tokens

  -- ---- annotations

  -- the keys of annotations are distinct behind a deletion
  keys-dropped : (name : List ℕ) (version : ℕ) → is_distinct (then (gone name version)) ≡ true
      → keys_are_distinct note_key (dropped s name version).notes ≡ true
  keys-dropped name version distinct =
      ap (λ t. keys_are_distinct note_key t.notes) (sym (with_rows-dropped s who at name version))
      ∙ notes-distinct (then (gone name version)) distinct

  -- an annotation is put on a live manifest
  abbrev pub Based : Asked → Type 0
  Based asked =
      (manifest : List ℕ) → manifest_asked asked ≡ Some manifest
      → is_live_manifest s manifest ≡ true

  stand-stay : (asked : Asked) → Based asked → Sound s
      → list_all (stands_on_live (then asked)) (then asked).notes ≡ true
  stand-stay (put.Reader r) based sound = sound.stand
  stand-stay (put.Manifest m) based sound =
      stand-put s (put_manifest at (manifest_row s m.name) m) refl sound.stand
  stand-stay (put.Note n) based sound =
      all-put_row note_key (stands_on_live s)
      (put_note who at (note_row s n.owner n.name) n) s.notes (based n.manifest refl) sound.stand
  stand-stay (Deletion (object.Reader name) version) based sound = sound.stand
  stand-stay (Deletion (object.Manifest name) version) based sound =
      ap (λ t. list_all (stands_on_live t) t.notes) (with_rows-dropped s who at name version)
      ∙ stand-dropped s name version (notes-distinct s sound.distinct)
      (keys-dropped name version
      (distinct-with_rows (effect_of s who at (gone name version)).rows s sound.distinct))
      sound.stand
  stand-stay (Deletion (object.Note owner name) version) based sound =
      all-put_row note_key (stands_on_live s)
      (note_tombstone owner name version) s.notes refl sound.stand

  -- ---- moments

  -- the activities of a write have its moment
  all-new : (test : ℤ → Bool) → test at ≡ true → (asked : Asked)
      → list_all (λ activity. test activity.at) (effect_of s who at asked).activities ≡ true
  all-new test is (put.Reader r) = refl
  all-new test is (put.Manifest m) = and_from _ _ is refl
  all-new test is (put.Note n) = and_from _ _ is refl
  all-new test is (Deletion (object.Reader name) version) = refl
  all-new test is (Deletion (object.Manifest name) version) =
      all-burials (λ activity. test activity.at) (burial s who at)
      (manifest_activity who at name
      (option_and_then audience_of_manifest (manifest_row s name)) None)
      (λ row. is) is (notes_on s name)
  all-new test is (Deletion (object.Note owner name) version) = and_from _ _ is refl

  -- its rows are none of activities
  pub activities-then : (asked : Asked) → (then asked).activities ≡ s.activities
  activities-then (put.Reader r) = refl
  activities-then (put.Manifest m) = refl
  activities-then (put.Note n) = refl
  activities-then (Deletion (object.Reader name) version) = refl
  activities-then (Deletion (object.Manifest name) version) =
      ap (λ t. t.activities) (with_rows-dropped s who at name version)
  activities-then (Deletion (object.Note owner name) version) = refl

  rise-stay : (moment : ℤ) (asked : Asked) → at ≡ moment_of_write s moment
      → moments_never_fall s.activities ≡ true
      → moments_never_fall ((then asked).activities ++ (effect_of s who at asked).activities) ≡ true
  rise-stay moment asked when rise =
      let self = not_below-self at in
      let from : list_all (λ activity. not (int_lt activity.at (moment_of_write s moment)))
      (effect_of s who at asked).activities ≡ true =
      subst (λ m. list_all (λ activity. not (int_lt activity.at m))
      (effect_of s who at asked).activities ≡ true) when
      (all-new (λ its. not (int_lt its at)) self asked) in
      let until : list_all (λ activity. not (int_lt (moment_of_write s moment) activity.at))
      (effect_of s who at asked).activities ≡ true =
      subst (λ m. list_all (λ activity. not (int_lt m activity.at))
      (effect_of s who at asked).activities ≡ true) when
      (all-new (λ its. not (int_lt at its)) self asked) in
      ap (λ activities. moments_never_fall (activities ++ (effect_of s who at asked).activities))
      (activities-then asked)
      ∙ moments-rise moment s.activities (effect_of s who at asked).activities rise from until

  -- ---- all

  sound-then : (moment : ℤ) (asked : Asked) → at ≡ moment_of_write s moment
      → first_of (refusals_behind s asked) ≡ None → Based asked → Sound s
      → is_sound (record (then asked) {
        activities = (then asked).activities ++ (effect_of s who at asked).activities;
      }) ≡ true
  sound-then moment asked when none based sound =
      let t = then asked in
      sound-from (record t { activities = t.activities ++ (effect_of s who at asked).activities })
      (record {
        readers = readers-stay asked sound.readers;
        distinct =
            distinct-with_activities t (t.activities ++ (effect_of s who at asked).activities)
            (distinct-with_rows (effect_of s who at asked).rows s sound.distinct);
        agree = agree-stay asked sound.agree;
        tokens = tokens-stay asked none sound;
        stand = stand-stay asked based sound;
        rise = rise-stay moment asked when sound.rise;
      })

-- the empty state is sound
pub empty-sound : IsTrue (is_sound empty)
unfolding is_sound is_distinct
empty-sound = refl

-- an accepted write leads from a sound state to a sound one
pub sound-after : (s : State) (write : Write) → Accepts s write → IsTrue (is_sound s)
    → IsTrue (is_sound (after s write.entry))
sound-after s write accepts sound =
    let is = accepted-is s write accepts in
    let agree = asked-agrees write.command is.asked is.reads in
    ap (λ entry. is_sound (after s entry)) is.same
    ∙ sound-then s is.who (moment_of_write s write.moment) write.moment is.asked refl is.unrefused
    (λ manifest under.
    note-based s is.who write.command manifest is.permitted (sym agree.manifest ∙ under))
    (sound-parts s sound)

-- so each legal history leads to one
pub histories-sound : (s : State) (writes : List Write) → Legal s writes → IsTrue (is_sound s)
    → IsTrue (is_sound (state_of s writes))
histories-sound s [] legal sound = sound
histories-sound s (write ∷ writes) legal sound =
    histories-sound (after s write.entry) writes legal.1 (sound-after s write legal.0 sound)

-- and each list of events that were kept
events-sound : (before : Told) (s : State) (events : List Event) → AreKept before s events
    → IsTrue (is_sound s) → IsTrue (is_sound (state_behind s events))
events-sound before s [] kept sound = sound
events-sound before s (Opened found told ∷ events) kept sound = absurd kept
events-sound before s (Wrote write told ∷ events) (accepts, keeps, kept) sound =
    events-sound told (after s write.entry) events kept (sound-after s write accepts sound)

pub lists-sound : (events : List Event) → IsLegal events → IsTrue (is_sound (state_at events))
lists-sound [] legal = absurd legal
lists-sound (Opened s told ∷ events) (valid, sound, are, kept) =
    events-sound told s events kept sound
lists-sound (Wrote write told ∷ events) legal = absurd legal

pub ruleset soundness = (empty-sound, sound-after, histories-sound, lists-sound)
