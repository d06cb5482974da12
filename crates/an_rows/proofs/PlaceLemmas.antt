-- The place that a row gets, from where the row of its object stands.
use Rattle.std.proofs.Common.{◌≡◌, ℕ, Bool, true, cond, not, List, [], ◌∷◌, length, Some, None, slice_get, inl, inr, sym, ap, ◌∙◌, arith}
use Rattle.std.specs.Prelude.{unwrap_or}
use Rattle.std.specs.List.{position, position_or_len}
use Rattle.std.proofs.lemmas.Bool.{cases_lt, lt-ltb, le-ltb}
use Rattle.std.proofs.lemmas.List.Sums.{prefix_len-le-length}
use Rattle.std.proofs.lemmas.Option.{same_Some}
use Rattle.an_state.specs.Entries.{with_row, with_rows}
use Rattle.an_state.specs.State.{State, ReaderState, ManifestState, NoteState}
use Rattle.an_state.specs.Tables.{length_of_list, place_of_object}
use Rattle.an_state.specs.declared.command.Object.TheVariants as object
use Rattle.an_state.specs.declared.entry.Row.{Row}
use Rattle.an_state.specs.declared.entry.Row.TheVariants as kept
use Rattle.an_rows.specs.Changes.{place_in, all_but_first_stand}
use Rattle.an_rows.proofs.SettledLemmas.{activities-settled}

-- the first place that passes, or the end where there is none
place_or_end : {R : Type 0} (test : R → Bool) (rows : List R)
    → unwrap_or (position test rows) (length rows) ≡ position_or_len test rows
place_or_end test rows =
    let place = position_or_len test rows in
    elim (cases_lt place (length rows)) [
      | inl within ↦
          ap (λ b. unwrap_or (cond b (Some place) None) (length rows))
          (lt-ltb place (length rows) within)
      | inr past ↦
          let end : length rows ≡ place =
          omega (arith, prefix_len-le-length (λ row. not (test row)) rows) in
          ap (λ b. unwrap_or (cond b (Some place) None) (length rows))
          (le-ltb place (length rows) past)
          ∙ end
    ]

module _ (s : State) (place : ℕ) where
  pub reader_place : (row : ReaderState) (name : List ℕ) → name ≡ row.name
      → place ≡ unwrap_or (place_of_object s (object.Reader name)) (length_of_list s 1)
      → place ≡ place_in s (kept.Reader row)
  reader_place row name named is =
      is ∙ ap (λ n. unwrap_or (place_of_object s (object.Reader n)) (length s.readers)) named
      ∙ place_or_end _ s.readers

  pub manifest_place : (row : ManifestState) (name : List ℕ) → name ≡ row.name
      → place ≡ unwrap_or (place_of_object s (object.Manifest name)) (length_of_list s 2)
      → place ≡ place_in s (kept.Manifest row)
  manifest_place row name named is =
      is ∙ ap (λ n. unwrap_or (place_of_object s (object.Manifest n)) (length s.manifests)) named
      ∙ place_or_end _ s.manifests

  pub note_place : (row : NoteState) (owner name : List ℕ) → owner ≡ row.owner → name ≡ row.name
      → place ≡ unwrap_or (place_of_object s (object.Note owner name)) (length_of_list s 3)
      → place ≡ place_in s (kept.Note row)
  note_place row owner name owned named is =
      is ∙ ap (λ o. unwrap_or (place_of_object s (object.Note o name)) (length s.notes)) owned
      ∙ ap (λ n. unwrap_or (place_of_object s (object.Note row.owner n)) (length s.notes)) named
      ∙ place_or_end _ s.notes

pub ruleset places = (reader_place, manifest_place, note_place)

-- ---- how many activities stand behind the rows of an entry

module _ (s : State) (count : ℕ) where
  pub behind_first : (rows : List Row) (row : Row) → slice_get rows 0 ≡ Some row
      → all_but_first_stand s rows ≡ true
      → count ≡ length (with_row s row).activities → count ≡ length (with_rows rows s).activities
  behind_first [] row first settled is = absurd (cc)
  behind_first (head ∷ rows) row first settled is =
      is ∙ ap (λ r. length (with_row s r).activities) (sym (same_Some head row first))
      ∙ ap length (sym (activities-settled s head rows settled))

  pub behind_nothing : (rows : List Row) → slice_get rows 0 ≡ None → count ≡ length s.activities
      → count ≡ length (with_rows rows s).activities
  behind_nothing [] none is = is
  behind_nothing (row ∷ rows) none is = absurd (cc)

pub ruleset activities_behind = (behind_first, behind_nothing)
