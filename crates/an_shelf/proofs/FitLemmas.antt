-- What is decided can be shown, and so can the row of a cell that stands next.
use Rattle.std.proofs.Common.{◌≡◌, ℕ, ℤ, Bool, true, false, cond, not, ◌==◌, ◌&&◌, List, [], ◌∷◌, ◌++◌, map, Option, Some, None, option_map, option_to_list, Result, Ok, Err, refl, ap, subst, ◌∙◌}
use Rattle.std.specs.Prelude.{find}
use Rattle.std.specs.List.{list_any}
use Rattle.std.specs.Result.{result_ok}
use Rattle.std.proofs.lemmas.Bool.{and_from, and_parts, cond-false, not-false, not-true, or_parts}
use Rattle.std.proofs.lemmas.Slice.Eq.{bytes_eq-Decides}
use Rattle.an_base.specs.Outcome.{first_of, or_refuse, passes}
use Rattle.an_keyed.specs.Key.{Key, same_key}
use Rattle.an_keyed.specs.Rows.{row_of}
use Rattle.an_keep.specs.Keeper.{Told}
use Rattle.an_keep.specs.declared.cell.Cell.{Cell}
use Rattle.an_policy.specs.Audience.{Identity}
use Rattle.an_policy.specs.Group.{same_group}
use Rattle.an_policy.specs.declared.group.Group.{Group}
use Rattle.an_policy.specs.declared.group.Group.TheVariants.{Public, Private, Named}
use Rattle.an_policy.specs.declared.who.Caller.{Caller}
use Rattle.an_state.specs.Entries.{after, with_row}
use Rattle.an_state.specs.Sound.{is_sound}
use Rattle.an_state.specs.State.{State, ManifestState, NoteState, manifest_key, manifest_row}
use Rattle.an_state.specs.declared.command.Command.{Command}
use Rattle.an_state.specs.declared.command.Object.TheVariants as object
use Rattle.an_state.specs.declared.entry.Entry.{Entry}
use Rattle.an_state.specs.declared.entry.Entry.TheVariants.{Restored}
use Rattle.an_state.specs.declared.entry.Row.{Row}
use Rattle.an_state.specs.declared.entry.Row.TheVariants as kept
use Rattle.an_machine.specs.Accepted.{buried, effect_of, manifest_tombstone, moment_of_write, notes_on}
use Rattle.an_machine.specs.Legal.{Accepts, Write}
use Rattle.an_machine.specs.Refusals.{refusals_behind}
use Rattle.an_machine.specs.Step.{step}
use Rattle.an_machine.specs.declared.asked.Asked.{Asked}
use Rattle.an_machine.specs.declared.asked.Asked.TheVariants.{Deletion}
use Rattle.an_machine.specs.declared.asked.Asked.TheVariants as put
use Rattle.an_machine.specs.declared.command.Decided.{Decided}
use Rattle.an_rows.specs.Cells.{Place, if_next, may_follow, place_of, row_behind, rows_before}
use Rattle.an_rows.specs.RowRead.{row_of_text}
use Rattle.an_rows.specs.declared.format.Format.{Format}
use Rattle.an_laws.proofs.RefusalLemmas.{manifest-fixed}
use Rattle.an_keyed.proofs.PutLemmas.{row_of-find}
use Rattle.an_laws.proofs.SoundLemmas.{sound-after}
use Rattle.an_laws.proofs.SoundParts.{sound-parts}
use Rattle.an_laws.proofs.StepLemmas.{accepted-is}
use Rattle.an_snapshot.specs.Fits.{fits, keep_groups, keeps_group, rows_of}
use Rattle.an_shelf.specs.Front.{CanShow}
use Rattle.an_shelf.specs.Restoring.{RowFits}
use Rattle.an_shelf.proofs.ReadingLemmas.{IsReading, reading-sound}
use Rattle.an_shelf.proofs.RestoringLemmas.{state-restored}

-- ---- manifests keep their groups

same_group-self : (group : Group) → same_group group group ≡ true
same_group-self Public = refl
same_group-self Private = refl
same_group-self (Named name) = (bytes_eq-Decides name name).1 refl

-- the manifest that is there, if one is, has this group
abbrev has_group : Option ManifestState → Group → Bool
has_group found group = elim found [ None ↦ true | Some old ↦ same_group old.group group ]

-- a manifest that is put has the group of the one that it replaces
put-keeps : (found : Option ManifestState) (group : Group)
    → passes (λ row. not (same_group row.group group)) found ≡ false → has_group found group ≡ true
put-keeps None group fixed = refl
put-keeps (Some old) group fixed = not-false _ fixed

key_of : List ℕ → Key
key_of name = record { owner = None; name = name }

-- its tombstone keeps its group
tombstone-keeps : (name : List ℕ) (version : ℕ) (found : Option ManifestState) (s : State)
    → manifest_row s name ≡ found
    → keep_groups s
    (option_to_list (option_map kept.Manifest (option_map (manifest_tombstone name version) found)))
    ≡ true
tombstone-keeps name version None s is = refl
tombstone-keeps name version (Some row) s is =
    and_from _ _ (ap (λ found. has_group found row.group) is ∙ same_group-self row.group) refl

-- annotations that are put before change no manifest
buried-keep : (notes : List NoteState) (tail : List Row) (s : State)
    → ((t : State) → t.manifests ≡ s.manifests → keep_groups t tail ≡ true)
    → keep_groups s (map (λ row. kept.Note (buried row)) notes ++ tail) ≡ true
buried-keep [] tail s ends = ends s refl
buried-keep (note ∷ notes) tail s ends =
    buried-keep notes tail (with_row s (kept.Note (buried note))) ends

effect-keeps : (s : State) (who : Identity) (at : ℤ) (asked : Asked)
    → first_of (refusals_behind s asked) ≡ None
    → keep_groups s (effect_of s who at asked).rows ≡ true
unfolding key_of
effect-keeps s who at (put.Reader r) none = refl
effect-keeps s who at (put.Manifest m) none =
    and_from _ _ (put-keeps (manifest_row s m.name) m.group (manifest-fixed s m none)) refl
effect-keeps s who at (put.Note n) none = refl
effect-keeps s who at (Deletion (object.Reader name) version) none = refl
effect-keeps s who at (Deletion (object.Manifest name) version) none =
    buried-keep (notes_on s name)
    (option_to_list
    (option_map kept.Manifest (option_map (manifest_tombstone name version) (manifest_row s name))))
    s
    (λ t same. tombstone-keeps name version (manifest_row s name) t
    (ap (row_of manifest_key (key_of name)) same))
effect-keeps s who at (Deletion (object.Note owner name) version) none = refl

-- ---- what is decided

-- an accepted write fits a sound state
accepted-fits : (s : State) (write : Write) → Accepts s write → is_sound s ≡ true
    → fits s write.entry ≡ true
unfolding fits
accepted-fits s write accepts sound =
    let is = accepted-is s write accepts in
    and_from _ _ (ap (λ entry. keep_groups s (rows_of entry)) is.same
    ∙ effect-keeps s is.who (moment_of_write s write.moment) is.asked is.unrefused)
    (sound-parts (after s write.entry) (sound-after s write accepts sound)).stand

pub decided-fits : (s : State) (moment : ℤ) (caller : Caller) (command : Command) (d : Decided)
    → step s moment caller command ≡ Ok d → is_sound s ≡ true → CanShow d.entry s
decided-fits s moment caller command d is sound = by_entry d.entry refl
  where
    by_entry : (found : Option Entry) → d.entry ≡ found → CanShow found s
    by_entry None at = tt
    by_entry (Some entry) at =
        accepted-fits s
        (record { moment = moment; caller = caller; command = command; entry = entry })
        (d, is, at) sound

-- ---- what is restored

not_found : {R : Type 0} (p : R → Bool) (rows : List R) → list_any p rows ≡ false
    → find p rows ≡ None
not_found p [] none = refl
not_found p (row ∷ rows) none =
    let parts = or_parts (p row) (list_any p rows) none in
    cond-false _ _ _ parts.0 ∙ not_found p rows parts.1

-- a row that may follow is that of a new manifest, or of none
follows-keeps : (s : State) (row : Row) → may_follow s row ≡ true → keeps_group s row ≡ true
follows-keeps s (kept.Reader row) follows = refl
follows-keeps s (kept.Manifest row) follows =
    ap (λ found. has_group found row.group)
    (row_of-find manifest_key (manifest_key row) s.manifests
    ∙ not_found (λ other. same_key (manifest_key other) (manifest_key row)) s.manifests
    (not-true _ follows))
follows-keeps s (kept.Note row) follows = refl
follows-keeps s (kept.Activity row) follows = refl

restored-fits : (s : State) (row : Row) → may_follow s row ≡ true → is_sound (with_row s row) ≡ true
    → fits s (Restored row) ≡ true
unfolding fits
restored-fits s row follows sound =
    and_from _ _ (and_from _ _ (follows-keeps s row follows) refl)
    (sound-parts (with_row s row) sound).stand

-- the row of a cell that stands next may follow
row-follows : (format : Format) (s : State) (cell : Cell) (row : Row)
    → row_behind format s cell ≡ Ok row → may_follow s row ≡ true
unfolding row_behind
row-follows format s cell row is = by_text (result_ok (row_of_text format cell.tab cell.val)) is
  where
    by_test : (other : Row) (test : Bool)
        → ((cell.key == rows_before s other) && may_follow s other) ≡ test
        → ◌≡◌ {A = Result Row Place} (cond test (Ok other) (Err (place_of cell))) (Ok row)
        → may_follow s row ≡ true
    by_test other true passes h =
        let same : other ≡ row = cc in
        subst (λ r. may_follow s r ≡ true) same
        (and_parts (cell.key == rows_before s other) _ passes).1
    by_test other false passes h = absurd (cc)

    by_text : (found : Option Row) → or_refuse (place_of cell) found (if_next s cell) ≡ Ok row
        → may_follow s row ≡ true
    by_text None h = absurd (cc)
    by_text (Some other) h =
        by_test other ((cell.key == rows_before s other) && may_follow s other) refl h

pub reading-fits : (format : Format) (told : Told) (s : State) (cell : Cell)
    → IsReading format told s cell → RowFits format s cell
reading-fits format told s cell reading row is =
    restored-fits s row (row-follows format s cell row is)
    (reading-sound format told s (with_row s row) cell reading
    (state-restored format s (with_row s row) cell row is refl))
