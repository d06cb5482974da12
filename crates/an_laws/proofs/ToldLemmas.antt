-- What a caller saw of an object tells whether the object is in its view.
use Rattle.std.proofs.Common.{◌≡◌, ℕ, Bool, true, false, not, cond, ◌&&◌, List, [], ◌∷◌, Option, Some, None, option_map, option_and_then, is_some, map, inl, inr, refl, sym, ap, ◌∙◌}
use Rattle.std.specs.Prelude.{All, IsTrue, filter, find}
use Rattle.std.specs.Option.{option_or}
use Rattle.std.specs.List.{last_or, cons_option}
use Rattle.std.proofs.Math.Bool.{and-false}
use Rattle.std.proofs.lemmas.Bool.{cases_Bool}
use Rattle.std.proofs.lemmas.List.Elements.{All-nil, All-cons, All-head, All-tail}
use Rattle.an_base.specs.Outcome.{passes}
use Rattle.an_keyed.specs.Key.{Key, same_key}
use Rattle.an_keyed.proofs.PutLemmas.{row_of-find}
use Rattle.an_policy.specs.Audience.{Identity, may}
use Rattle.an_policy.specs.Seen.{reads, as_seen, is_deletion}
use Rattle.an_policy.specs.declared.group.Audience.{Audience}
use Rattle.an_policy.specs.declared.kind.Kind.TheVariants.{Create, Update, Delete}
use Rattle.an_state.specs.View.{audience_of_manifest, audience_of_note}
use Rattle.an_state.specs.Sound.{is_sound}
use Rattle.an_state.specs.State.{State, ManifestState, NoteState, LiveManifest, LiveNote, manifest_key, note_key, manifest_row, note_row}
use Rattle.an_state.specs.View.{view_of, manifest_audience, note_audience, shows_manifest, shows_note, activity_key, seen_by, is_change_of}
use Rattle.an_state.specs.declared.activity.Activity.{Activity}
use Rattle.an_state.specs.declared.activity.Seen.{Seen}
use Rattle.an_state.proofs.ChangeLemmas.{change, own_change, other_change}
use Rattle.an_laws.specs.Coherent.{activities_of, Chain, Coherent, is_in_view, is_told}
use Rattle.an_machine.specs.Legal.{Write, Legal, state_of}
use Rattle.an_laws.proofs.AudienceLemmas.{key_at, audience_of, coherent-first}
use Rattle.an_laws.proofs.CoherentLemmas.{histories-coherent}

-- ---- what is in the view

passes-option_map : {A B : Type 0} (test : B → Bool) (f : A → B) (o : Option A)
    → passes test (option_map f o) ≡ passes (λ x. test (f x)) o
passes-option_map test f None = refl
passes-option_map test f (Some x) = refl

passes-manifest : (who : Identity) (audience : Audience) (live : Option LiveManifest)
    → (is_some live && may who audience) ≡ passes (may who) (option_map (λ it. audience) live)
passes-manifest who audience None = refl
passes-manifest who audience (Some live) = refl

-- a manifest is shown to who may read it
pub manifest_shown : (who : Identity) (found : Option ManifestState)
    → passes (shows_manifest who) found
    ≡ passes (may who) (option_and_then audience_of_manifest found)
manifest_shown who None = refl
manifest_shown who (Some row) = passes-manifest who (manifest_audience row) row.live

note_live : (s : State) (who : Identity) (row : NoteState) (live : Option LiveNote)
    → passes (λ it.
    passes (λ manifest. may who (note_audience manifest row it)) (manifest_row s it.manifest)) live
    ≡ passes (may who) (option_and_then
    (λ it. option_map (λ manifest. note_audience manifest row it) (manifest_row s it.manifest))
    live)
note_live s who row None = refl
note_live s who row (Some live) =
    sym (passes-option_map (may who) (λ manifest. note_audience manifest row live)
    (manifest_row s live.manifest))

-- an annotation is shown to who may read it
pub note_shown : (s : State) (who : Identity) (found : Option NoteState)
    → passes (shows_note s who) found
    ≡ passes (may who) (option_and_then (audience_of_note s) found)
note_shown s who None = refl
note_shown s who (Some row) = note_live s who row row.live

module _ {R : Type 0} (has shows : R → Bool) (b : Bool) where
  -- the same where the first row has the key
  shown-here : (row : R) (rows : List R) → has row ≡ true → shows row ≡ b
      → (b ≡ false → is_some (find has (filter shows rows)) ≡ (is_some (find has rows) && b))
      → is_some (find has (filter shows (row ∷ rows))) ≡ (is_some (find has (row ∷ rows)) && b)
  shown-here row rows is same later = elim (cases_Bool b) [
    | inl shown ↦ let also : shows row ≡ true = same ∙ shown in rw (also, is, shown) refl
    | inr hidden ↦
        let also : shows row ≡ false = same ∙ hidden in
        rw (also, is) (later hidden ∙ ap (λ x. is_some (find has rows) && x) hidden
        ∙ and-false (is_some (find has rows)) ∙ sym hidden)
  ]

  -- where the rows that have a key are all shown or all hidden, one of them is among those shown
  -- exactly where they are and there is one
  shown-alike : (rows : List R) → All (λ row. shows row ≡ b) (filter has rows)
      → is_some (find has (filter shows rows)) ≡ (is_some (find has rows) && b)
  shown-alike [] alike = refl
  shown-alike (row ∷ rows) alike = elim (cases_Bool (has row)) [
    | inl is ↦
        let both = rw is at alike in
        shown-here row rows is (All-head (λ r. shows r ≡ b) row (filter has rows) both)
        (λ hidden. shown-alike rows (All-tail (λ r. shows r ≡ b) row (filter has rows) both))
    | inr isnt ↦ elim (cases_Bool (shows row)) [
      | inl shown ↦ rw (shown, isnt) (shown-alike rows (rw isnt at alike))
      | inr hidden ↦ rw (hidden, isnt) (shown-alike rows (rw isnt at alike))
    ]
  ]

-- a chain has one end
one_end : (before : Option Audience) (activities : List Activity) (one other : Option Audience)
    → Chain before activities one → Chain before activities other → one ≡ other
one_end before [] one other first second = sym first ∙ second
one_end before (activity ∷ activities) one other first second =
    one_end activity.after activities one other first.1 second.1

-- who may read what is there, if anything is
there-reads : {R : Type 0} (who : Identity) (f : R → Option Audience) (found : Option R)
    → (is_some found && reads who (option_and_then f found)) ≡ reads who (option_and_then f found)
there-reads who f None = refl
there-reads who f (Some row) = refl

module _ {R : Type 0} (s : State) (who : Identity) (key : Key) (f : R → Option Audience)
    (has shows : R → Bool)
    (shown : (row : R) → shows row ≡ reads who (f row)) (rows : List R) where
  -- rows whose activities are the same are shown alike
  alike : (xs : List R) → All (Chain None (activities_of key s.activities)) (map f xs)
      → (end : Option Audience) → Chain None (activities_of key s.activities) end
      → All (λ row. shows row ≡ reads who end) xs
  alike [] chains end chain = All-nil _
  alike (row ∷ xs) chains end chain =
      All-cons (λ r. shows r ≡ reads who end) row xs
      (shown row
      ∙ ap (reads who) (one_end None (activities_of key s.activities) (f row) end
      (All-head (Chain None (activities_of key s.activities)) (f row) (map f xs) chains) chain))
      (alike xs
      (All-tail (Chain None (activities_of key s.activities)) (f row) (map f xs) chains) end chain)

  -- one of them is among those shown exactly where the first may be read
  shown-first : (found : Option R) → find has rows ≡ found
      → All (Chain None (activities_of key s.activities)) (map f (filter has rows))
      → Chain None (activities_of key s.activities) (option_and_then f found)
      → is_some (find has (filter shows rows)) ≡ reads who (option_and_then f found)
  shown-first found is chains chain =
      shown-alike has shows (reads who (option_and_then f found)) rows
      (alike (filter has rows) chains (option_and_then f found) chain)
      ∙ ap (λ o. is_some o && reads who (option_and_then f found)) is
      ∙ there-reads who f found

-- in a coherent state an object is in the view of who may read it
in_view : (s : State) (who : Identity) (owner : Option (List ℕ)) (name : List ℕ) → Coherent s
    → is_in_view (view_of s who) (key_at owner name) ≡ reads who (audience_of s (key_at owner name))
in_view s who None name coherent =
    shown-first s who (key_at None name) audience_of_manifest
    (λ row. same_key (manifest_key row) (key_at None name)) (shows_manifest who)
    (λ row. manifest_shown who (Some row)) s.manifests (manifest_row s name)
    (sym (row_of-find manifest_key (key_at None name) s.manifests))
    (coherent (key_at None name)).0 (coherent-first s coherent (key_at None name)).0
in_view s who (Some owner) name coherent =
    shown-first s who (key_at (Some owner) name) (audience_of_note s)
    (λ row. same_key (note_key row) (key_at (Some owner) name)) (shows_note s who)
    (λ row. note_shown s who (Some row)) s.notes (note_row s owner name)
    (sym (row_of-find note_key (key_at (Some owner) name) s.notes))
    (coherent (key_at (Some owner) name)).0 (coherent-first s coherent (key_at (Some owner) name)).0

-- ---- what was seen

last_or-cons_option : {A : Type 0} (start o : Option A) (rest : List A)
    → last_or start (cons_option o rest) ≡ last_or (option_or o start) rest
last_or-cons_option start None rest = refl
last_or-cons_option start (Some x) rest = refl

abbrev tells : Option Seen → Bool
tells last = passes (λ its. not (is_deletion its.kind)) last

-- behind a change the last that was seen tells whether the object can be read
tells-behind : (activity : Activity) (start : Option Seen) (was is : Bool) → tells start ≡ was
    → tells (option_or (option_map (change activity)
    (cond was (cond is (Some Update) (Some Delete)) (cond is (Some Create) None))) start) ≡ is
tells-behind activity start true true told = refl
tells-behind activity start true false told = refl
tells-behind activity start false true told = refl
tells-behind activity start false false told = told

module _ (who : Identity) (key : Key) where
  abbrev changes : List Activity → List Seen
  changes activities = filter (is_change_of key) (seen_by who activities)

  tells-last : (activities : List Activity) (start : Option Seen) (before now : Option Audience)
      → tells start ≡ reads who before
      → Chain before (activities_of key activities) now
      → tells (last_or start (changes activities)) ≡ reads who now
  tells-last [] start before now told chain = told ∙ ap (reads who) chain
  tells-last (activity ∷ activities) start before now told chain =
      elim (cases_Bool (same_key (activity_key activity) key)) [
        | inl is ↦
            let links = rw is at chain in
            let seen = option_map (change activity) (as_seen who activity.before activity.after) in
            let behind =
            tells-behind activity start (reads who activity.before) (reads who activity.after)
            (told ∙ ap (reads who) (sym links.0)) in
            ap (λ l. tells (last_or start l))
            (own_change key activity (as_seen who activity.before activity.after)
            (seen_by who activities) is)
            ∙ ap tells (last_or-cons_option start seen (changes activities))
            ∙ tells-last activities (option_or seen start) activity.after now behind links.1
        | inr isnt ↦
            ap (λ l. tells (last_or start l))
            (other_change key activity (as_seen who activity.before activity.after)
            (seen_by who activities) isnt)
            ∙ tells-last activities start before now told (rw isnt at chain)
      ]

-- ---- the law

pub view-told : (s : State) (who : Identity) (key : Key) → Coherent s
    → is_in_view (view_of s who) key ≡ is_told (view_of s who).seen key
view-told s who key coherent =
    in_view s who key.owner key.name coherent
    ∙ sym (tells-last who key s.activities None None (audience_of s key) refl
    (coherent-first s coherent key).0)

-- and so it is behind each legal history
pub histories-told : (s : State) (writes : List Write) (who : Identity) (key : Key) → Legal s writes
    → IsTrue (is_sound s) → Coherent s
    → is_in_view (view_of (state_of s writes) who) key
    ≡ is_told (view_of (state_of s writes) who).seen key
histories-told s writes who key legal sound coherent =
    view-told (state_of s writes) who key (histories-coherent s writes legal sound coherent)

pub ruleset told = (view-told, histories-told)
