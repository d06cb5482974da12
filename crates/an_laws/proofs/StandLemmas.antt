-- Live annotations stand on live manifests, behind each write.
use Rattle.std.proofs.Common.{◌≡◌, ℕ, Bool, true, false, is_some, bytes_eq, List, Option, Some, None, option_map, refl, sym, ap, subst, ◌∙◌}
use Rattle.std.specs.List.{list_all}
use Rattle.std.proofs.lemmas.Bool.{cond-false, cond_both}
use Rattle.std.proofs.lemmas.Option.{same_Some}
use Rattle.an_base.specs.Outcome.{passes}
use Rattle.an_keyed.specs.Key.{Key, same_key}
use Rattle.an_keyed.specs.Rows.{row_of, put_row}
use Rattle.an_keyed.proofs.KeyLemmas.{other-key}
use Rattle.an_keyed.proofs.PutLemmas.{row_of-put_row}
use Rattle.an_machine.specs.Accepted.{buried, manifest_tombstone}
use Rattle.an_state.specs.State.{State, ManifestState, NoteState, manifest_key, note_key, manifest_row, keys_are_distinct}
use Rattle.an_state.specs.View.{is_on}
use Rattle.an_state.specs.Sound.{is_live_manifest, stands_on_live}
use Rattle.an_laws.proofs.BurialLemmas.{as_left, row_of-left}
use Rattle.an_laws.proofs.DropLemmas.{put_found, dropped}
use Rattle.an_keyed.proofs.FoundLemmas.{all-weaker, found-passes, all-from_found}
use Rattle.an_laws.proofs.LeadLemmas.{key_at}

abbrev has_live : Option ManifestState → Bool
has_live found = passes (λ row. is_some row.live) found

-- ---- a manifest is put

-- what was live is live where a live manifest is put
live-put : (row : ManifestState) → is_some row.live ≡ true
    → (manifests : List ManifestState) (name : List ℕ)
    → has_live (row_of manifest_key (key_at None name) manifests) ≡ true
    → has_live (row_of manifest_key (key_at None name) (put_row manifest_key row manifests)) ≡ true
live-put row lives manifests name live =
    ap has_live (row_of-put_row manifest_key row (key_at None name) manifests)
    ∙ cond_both (same_key (manifest_key row) (key_at None name)) (Some row)
    (row_of manifest_key (key_at None name) manifests) (λ found. has_live found ≡ true)
    (λ h. lives) (λ h. live)

-- an annotation stands where the manifests that were live still are
stands-weaker : (s t : State)
    → ((name : List ℕ) → is_live_manifest s name ≡ true → is_live_manifest t name ≡ true)
    → (row : NoteState) → stands_on_live s row ≡ true → stands_on_live t row ≡ true
stands-weaker s t live row =
    elim row.live as (λ its. (elim its [ None ↦ true | Some l ↦ is_live_manifest s l.manifest ])
    ≡ true
    → (elim its [ None ↦ true | Some l ↦ is_live_manifest t l.manifest ]) ≡ true) [
      | None ↦ λ h. refl
      | Some l ↦ λ h. live l.manifest h
    ]

-- a live manifest is put, and all annotations stand
pub stand-put : (s : State) (row : ManifestState) → is_some row.live ≡ true
    → list_all (stands_on_live s) s.notes ≡ true
    → list_all
    (stands_on_live (record s { manifests = put_row manifest_key row s.manifests })) s.notes ≡ true
stand-put s row lives stand =
    let t : State = record s { manifests = put_row manifest_key row s.manifests } in
    all-weaker (stands_on_live s) (stands_on_live t)
    (stands-weaker s t (live-put row lives s.manifests)) s.notes stand

-- ---- a manifest is deleted

-- every other manifest is live as before
live-found : (name other : List ℕ) (version : ℕ) → bytes_eq other name ≡ false
    → (manifests : List ManifestState)
    → has_live (row_of manifest_key (key_at None other) manifests) ≡ true
    → (found : Option ManifestState)
    → has_live (row_of manifest_key (key_at None other)
    (put_found (option_map (manifest_tombstone name version) found) manifests)) ≡ true
live-found name other version differ manifests live None = live
live-found name other version differ manifests live (Some row) =
    ap has_live (row_of-put_row manifest_key (manifest_tombstone name version row)
    (key_at None other) manifests
    ∙ cond-false _ _ _ (other-key (key_at None other) (key_at None name) differ))
    ∙ live

-- an annotation on another manifest stands still
stands-apart : (s : State) (name : List ℕ) (version : ℕ) (row : NoteState) → is_on name row ≡ false
    → stands_on_live s row ≡ true → stands_on_live (dropped s name version) row ≡ true
stands-apart s name version row =
    elim row.live as (λ its. passes (λ l. bytes_eq l.manifest name) its ≡ false
    → (elim its [ None ↦ true | Some l ↦ is_live_manifest s l.manifest ]) ≡ true
    → (elim its [ None ↦ true | Some l ↦ is_live_manifest (dropped s name version) l.manifest ])
    ≡ true) [
      | None ↦ λ apart stands. refl
      | Some l ↦
          λ apart stands.
          live-found name l.manifest version apart s.manifests stands (manifest_row s name)
    ]

-- an annotation on the manifest is a tombstone, and another stands still
stands-left : (s : State) (name : List ℕ) (version : ℕ) (row : NoteState)
    → stands_on_live s row ≡ true
    → stands_on_live (dropped s name version) (as_left name row) ≡ true
stands-left s name version row stands =
    cond_both (is_on name row) (buried row) row
    (λ left. stands_on_live (dropped s name version) left ≡ true) (λ on. refl)
    (λ apart. stands-apart s name version row apart stands)

-- so what is found under a key stands as it is left
stands-found : (s : State) (name : List ℕ) (version : ℕ) (key : Key) (row : NoteState)
    → list_all (stands_on_live s) s.notes ≡ true
    → (found : Option NoteState) → row_of note_key key s.notes ≡ found
    → option_map (as_left name) found ≡ Some row
    → stands_on_live (dropped s name version) row ≡ true
stands-found s name version key row stand None is left = absurd (cc)
stands-found s name version key row stand (Some before) is left =
    subst (λ r. stands_on_live (dropped s name version) r ≡ true)
    (same_Some (as_left name before) row left)
    (stands-left s name version before
    (found-passes note_key (stands_on_live s) key before s.notes stand is))

-- the manifest is deleted, and all annotations stand
pub stand-dropped : (s : State) (name : List ℕ) (version : ℕ)
    → keys_are_distinct note_key s.notes ≡ true
    → keys_are_distinct note_key (dropped s name version).notes ≡ true
    → list_all (stands_on_live s) s.notes ≡ true
    → list_all (stands_on_live (dropped s name version)) (dropped s name version).notes ≡ true
stand-dropped s name version distinct left stand =
    all-from_found note_key (stands_on_live (dropped s name version))
    (dropped s name version).notes left
    (λ row found. stands-found s name version (note_key row) row stand
    (row_of note_key (note_key row) s.notes) refl
    (sym (row_of-left name (note_key row) s.notes distinct) ∙ found))
