-- The state behind the deletion of a manifest, field by field.
use Rattle.std.proofs.Common.{◌≡◌, ℕ, ℤ, List, Option, Some, None, option_map, option_to_list, refl, ap, ◌∙◌}
use Rattle.an_keyed.specs.Rows.{put_row}
use Rattle.an_policy.specs.Audience.{Identity}
use Rattle.an_machine.specs.Accepted.{manifest_deletion, manifest_tombstone, notes_on}
use Rattle.an_state.specs.Entries.{with_row, with_rows}
use Rattle.an_state.specs.State.{State, ManifestState, manifest_key, manifest_row}
use Rattle.an_state.specs.declared.entry.Row.TheVariants as kept
use Rattle.an_laws.proofs.BurialLemmas.{left_state, with_rows-notes}

-- the row is put, where there is one
abbrev pub put_found : Option ManifestState → List ManifestState → List ManifestState
put_found None rows = rows
put_found (Some row) rows = put_row manifest_key row rows

-- the rows are put: the annotations are left, and the manifest, where it has a row, is a tombstone
abbrev pub dropped : State → List ℕ → ℕ → State
dropped s name version = record (left_state s name) {
  manifests =
      put_found (option_map (manifest_tombstone name version) (manifest_row s name)) s.manifests;
}

-- the tombstone is put, where the manifest has a row
with_rows-found : (name : List ℕ) (version : ℕ) (found : Option ManifestState) (s : State)
    → with_rows
    (option_to_list (option_map kept.Manifest (option_map (manifest_tombstone name version) found)))
    s
    ≡ record s {
      manifests = put_found (option_map (manifest_tombstone name version) found) s.manifests;
    }
with_rows-found name version None s = refl
with_rows-found name version (Some row) s = refl

module _ (s : State) (who : Identity) (at : ℤ) (name : List ℕ) (version : ℕ) where
  -- the rows of the deletion are put
  pub with_rows-dropped :
      with_rows (manifest_deletion s who at (manifest_row s name) name version).rows s
      ≡ dropped s name version
  with_rows-dropped =
      with_rows-notes (notes_on s name)
      (option_to_list (option_map kept.Manifest
      (option_map (manifest_tombstone name version) (manifest_row s name)))) s
      ∙ with_rows-found name version (manifest_row s name) (left_state s name)

  -- where the manifest has a row its tombstone is put last
  pub with_rows-tombstone : (row : ManifestState) → manifest_row s name ≡ Some row
      → with_rows (manifest_deletion s who at (manifest_row s name) name version).rows s
      ≡ with_row (left_state s name) (kept.Manifest (manifest_tombstone name version row))
  with_rows-tombstone row is =
      with_rows-dropped
      ∙ ap (λ found. record (left_state s name) {
        manifests = put_found (option_map (manifest_tombstone name version) found) s.manifests;
      }) is
