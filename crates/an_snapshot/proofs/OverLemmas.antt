-- What rows leave, laid over a state, is what stands there once they are put.
use Rattle.std.proofs.Common.{◌≡◌, ℕ, zero, suc, ◌+◌, ◌<◌, Bool, true, false, cond, ◌&&◌, List, [], ◌∷◌, length, take, get_or, Option, Some, None, option_map, option_and_then, refl, sym, ap, ◌∙◌, arith}
use Rattle.std.proofs.lemmas.Bool.{and_parts, and_from}
use Rattle.an_keyed.specs.Key.{Key, same_key}
use Rattle.an_keyed.specs.Rows.{row_of}
use Rattle.an_policy.specs.Group.{same_group}
use Rattle.an_state.specs.Entries.{with_row, with_rows}
use Rattle.an_state.specs.State.{State, ManifestState, NoteState, LiveNote, empty, manifest_key, note_key, manifest_row}
use Rattle.an_state.specs.View.{audience_of_note, note_audience}
use Rattle.an_state.specs.declared.entry.Row.{Row}
use Rattle.an_state.specs.declared.entry.Row.TheVariants as kept
use Rattle.an_snapshot.specs.Fits.{keeps_group, keep_groups}
use Rattle.an_snapshot.specs.Over.{latest, manifest_over, manifests_with, notes_with, keeps_over, audience_over}
use Rattle.an_keyed.proofs.PutLemmas.{row_of-put_row}

-- ---- one row more

pub rows-next : (rows : List Row) (i : ℕ) (row : Row) (s : State) → i < length rows
    → row ≡ get_or rows i row
    → with_rows (take (i + 1) rows) s ≡ with_row (with_rows (take i rows) s) row
rows-next [] i row s h is = absurd (omega arith)
rows-next (r ∷ rows) zero row s h is = ap (with_row s) (sym is)
rows-next (r ∷ rows) (suc i) row s h is =
    let next : suc i + 1 ≡ suc (i + 1) = omega arith in
    rw next (rows-next rows i row (with_row s r) (omega arith) is)

pub keeps-next : (rows : List Row) (i : ℕ) (row : Row) (s : State) → i < length rows
    → row ≡ get_or rows i row → keep_groups s (take i rows) ≡ true
    → keeps_group (with_rows (take i rows) s) row ≡ true → keep_groups s (take (i + 1) rows) ≡ true
keeps-next [] i row s h is before here = absurd (omega arith)
keeps-next (r ∷ rows) zero row s h is before here =
    and_from _ _ (ap (keeps_group s) (sym is) ∙ here) refl
keeps-next (r ∷ rows) (suc i) row s h is before here =
    let next : suc i + 1 ≡ suc (i + 1) = omega arith in
    let parts = and_parts (keeps_group s r) _ before in
    rw next
    (and_from _ _ parts.0 (keeps-next rows i row (with_row s r) (omega arith) is parts.1 here))

pub and_false : (a b : Bool) → b ≡ false → (a && b) ≡ false
and_false true b e = e
and_false false b e = refl

pub keeps-fails : (rows : List Row) (i : ℕ) (row : Row) (s : State) → i < length rows
    → row ≡ get_or rows i row → keeps_group (with_rows (take i rows) s) row ≡ false
    → keep_groups s rows ≡ false
keeps-fails [] i row s h is here = absurd (omega arith)
keeps-fails (r ∷ rows) zero row s h is here =
    let first : keeps_group s r ≡ false = ap (keeps_group s) (sym is) ∙ here in rw first refl
keeps-fails (r ∷ rows) (suc i) row s h is here =
    and_false (keeps_group s r) (keep_groups (with_row s r) rows)
    (keeps-fails rows i row (with_row s r) (omega arith) is here)

-- ---- the lists behind a row

pub manifests-row : (s : State) (row : Row)
    → (with_row s row).manifests ≡ manifests_with row s.manifests
manifests-row s (kept.Reader r) = refl
manifests-row s (kept.Manifest m) = refl
manifests-row s (kept.Note n) = refl
manifests-row s (kept.Activity a) = refl

pub notes-row : (s : State) (row : Row) → (with_row s row).notes ≡ notes_with row s.notes
notes-row s (kept.Reader r) = refl
notes-row s (kept.Manifest m) = refl
notes-row s (kept.Note n) = refl
notes-row s (kept.Activity a) = refl

-- ---- what is found

-- what is found behind rows is what they leave, or else what was found before
module _ {R : Type 0} (key : R → Key) (wanted : Key) (list : State → List R) (put : Row → Option R)
    (step : (s : State) (row : Row)
    → row_of key wanted (list (with_row s row))
    ≡ latest (put row) (row_of key wanted (list s))) where
  later-first : (a b c : Option R) → latest a (latest b c) ≡ latest (latest a b) c
  later-first None b c = refl
  later-first (Some x) b c = refl

  found-over : (rows : List Row) (t d s : State)
      → row_of key wanted (list t)
      ≡ latest (row_of key wanted (list d)) (row_of key wanted (list s))
      → row_of key wanted (list (with_rows rows t))
      ≡ latest (row_of key wanted (list (with_rows rows d))) (row_of key wanted (list s))
  found-over [] t d s is = is
  found-over (row ∷ rows) t d s is =
      found-over rows (with_row t row) (with_row d row) s
      (step t row ∙ ap (latest (put row)) is
      ∙ later-first (put row) (row_of key wanted (list d)) (row_of key wanted (list s))
      ∙ ap (λ o. latest o (row_of key wanted (list s))) (sym (step d row)))

latest-cond : {A : Type 0} (b : Bool) (x : A) (o : Option A)
    → cond b (Some x) o ≡ latest (cond b (Some x) None) o
latest-cond true x o = refl
latest-cond false x o = refl

abbrev manifest_put : Key → Row → Option ManifestState
manifest_put wanted (kept.Reader r) = None
manifest_put wanted (kept.Manifest m) = cond (same_key (manifest_key m) wanted) (Some m) None
manifest_put wanted (kept.Note n) = None
manifest_put wanted (kept.Activity a) = None

manifest-step : (wanted : Key) (s : State) (row : Row)
    → row_of manifest_key wanted (with_row s row).manifests
    ≡ latest (manifest_put wanted row) (row_of manifest_key wanted s.manifests)
manifest-step wanted s (kept.Reader r) = refl
manifest-step wanted s (kept.Manifest m) =
    row_of-put_row manifest_key m wanted s.manifests
    ∙ latest-cond (same_key (manifest_key m) wanted) m (row_of manifest_key wanted s.manifests)
manifest-step wanted s (kept.Note n) = refl
manifest-step wanted s (kept.Activity a) = refl

abbrev note_put : Key → Row → Option NoteState
note_put wanted (kept.Reader r) = None
note_put wanted (kept.Manifest m) = None
note_put wanted (kept.Note n) = cond (same_key (note_key n) wanted) (Some n) None
note_put wanted (kept.Activity a) = None

note-step : (wanted : Key) (s : State) (row : Row)
    → row_of note_key wanted (with_row s row).notes
    ≡ latest (note_put wanted row) (row_of note_key wanted s.notes)
note-step wanted s (kept.Reader r) = refl
note-step wanted s (kept.Manifest m) = refl
note-step wanted s (kept.Note n) =
    row_of-put_row note_key n wanted s.notes
    ∙ latest-cond (same_key (note_key n) wanted) n (row_of note_key wanted s.notes)
note-step wanted s (kept.Activity a) = refl

pub manifest-over : (rows : List Row) (s : State) (name : List ℕ)
    → manifest_row (with_rows rows s) name ≡ manifest_over s (with_rows rows empty).manifests name
manifest-over rows s name =
    found-over manifest_key (record { owner = None; name = name })
    (λ t. t.manifests) (manifest_put (record { owner = None; name = name }))
    (manifest-step (record { owner = None; name = name })) rows s empty s refl

pub note-over : (rows : List Row) (s : State) (key : Key)
    → row_of note_key key (with_rows rows s).notes
    ≡ latest (row_of note_key key (with_rows rows empty).notes) (row_of note_key key s.notes)
note-over rows s key =
    found-over note_key key (λ t. t.notes) (note_put key) (note-step key) rows s empty s refl

-- a row keeps a group behind rows where it does over what they leave
pub keeps-over : (rows : List Row) (s : State) (row : Row)
    → keeps_group (with_rows rows s) row ≡ keeps_over s (with_rows rows empty).manifests row
keeps-over rows s (kept.Reader r) = refl
keeps-over rows s (kept.Manifest m) =
    ap (λ (found : Option ManifestState). elim found
    [ None ↦ true | Some old ↦ same_group old.group m.group ])
    (manifest-over rows s m.name)
keeps-over rows s (kept.Note n) = refl
keeps-over rows s (kept.Activity a) = refl

-- so with an annotation's audience
pub audience-over : (rows : List Row) (s : State) (row : NoteState)
    → audience_of_note (with_rows rows s) row ≡ audience_over s (with_rows rows empty).manifests row
audience-over rows s row = either row.live
  where
    either : (live : Option LiveNote)
        → option_and_then (λ live. option_map (λ manifest. note_audience manifest row live)
        (manifest_row (with_rows rows s) live.manifest)) live
        ≡ option_and_then (λ live. option_map (λ manifest. note_audience manifest row live)
        (manifest_over s (with_rows rows empty).manifests live.manifest)) live
    either None = refl
    either (Some live) =
        ap (option_map (λ (manifest : ManifestState). note_audience manifest row live))
        (manifest-over rows s live.manifest)
