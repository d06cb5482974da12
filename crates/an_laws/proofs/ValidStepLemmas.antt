-- An accepted write leads from a valid and sound state to a valid one.
use Rattle.std.proofs.Common.{◌≡◌, ℕ, ◌+◌, ◌-◌, ◌^◌, ℤ, Bool, true, false, not, ◌&&◌, bytes_eq, nat_lt, nat_le, List, [], ◌∷◌, map, filter, find, Option, Some, None, Result, Ok, Err, is_some, option_map, option_and_then, option_to_list, IsTrue, refl, ap, subst, ◌∙◌, arith}
use Rattle.std.specs.Prelude.{unwrap_or, if◌then◌else◌}
use Rattle.std.specs.List.{list_all}
use Rattle.std.proofs.lemmas.Bool.{and_from, and_parts, or_left, or_right, cond_both, eq-eqb}
use Rattle.std.proofs.lemmas.Bool.Decides.{nat_tests}
use Rattle.std.proofs.lemmas.List.Folds.{list_all-append}
use Rattle.std.proofs.lemmas.Slice.Eq.{bytes_eq-Decides}
use Rattle.an_base.specs.Moment.{is_moment}
use Rattle.an_base.specs.Name.{is_name}
use Rattle.an_base.specs.Outcome.{passes, first_of}
use Rattle.an_base.specs.Tree.{is_tree, is_whole}
use Rattle.an_manifest.specs.Manifest.{manifest_of}
use Rattle.an_model.specs.Note.{note_of}
use Rattle.serde_json.specs.Data.{Data}
use Rattle.std.specs.Result.{result_map_both}
use Rattle.an_keyed.specs.Key.{Key, same_key}
use Rattle.an_keyed.specs.Rows.{row_of}
use Rattle.an_keyed.proofs.PutLemmas.{row_of-find}
use Rattle.an_policy.specs.Audience.{Identity, anonymous, operator, signed, is_named}
use Rattle.an_policy.specs.Group.{is_valid_group}
use Rattle.an_policy.specs.Inner.{is_valid_inner}
use Rattle.an_policy.specs.declared.group.Audience.{Audience}
use Rattle.an_policy.specs.declared.reader.Reader.{Reader}
use Rattle.an_machine.specs.Accepted.{manifest_activity, manifest_made, changed, put_manifest, live_in, creator_of, note_made, put_note, manifest_tombstone, number_behind, buried, notes_on, burial, user_of, effect_of, moment_of_write}
use Rattle.an_state.specs.View.{audience_of_manifest, audience_of_note}
use Rattle.an_machine.specs.Asked.{asked_of, asked_manifest, asked_note, no_manifest, no_note, no_reader}
use Rattle.an_policy.specs.Group.{is_private}
use Rattle.an_state.specs.Commands.{is_number, is_command, is_write}
use Rattle.an_state.specs.Entries.{after, with_rows}
use Rattle.an_machine.specs.Refusals.{is_anothers, refusals_before}
use Rattle.an_machine.specs.Versions.{is_next}
use Rattle.an_state.specs.Sound.{is_sound, is_live_manifest, stands_on_live}
use Rattle.an_state.specs.State.{State, ManifestState, LiveManifest, NoteState, LiveNote, manifest_key, note_key, manifest_row, note_row}
use Rattle.an_state.specs.View.{is_on, manifest_audience}
use Rattle.an_machine.specs.declared.asked.Asked.{Asked}
use Rattle.an_machine.specs.declared.asked.Asked.TheVariants.{Deletion}
use Rattle.an_machine.specs.declared.asked.Asked.TheVariants as put
use Rattle.an_machine.specs.declared.asked.ManifestPut.{ManifestPut}
use Rattle.an_machine.specs.declared.asked.NotePut.{NotePut}
use Rattle.an_state.specs.declared.command.Command.{Command}
use Rattle.an_state.specs.declared.command.Command.TheVariants.{PutReader, DropReader, PutManifest, DropManifest, PutNote, DropNote}
use Rattle.an_state.specs.declared.command.Object.TheVariants as object
use Rattle.an_machine.specs.declared.command.Refused.{Refused}
use Rattle.an_machine.specs.declared.command.Refused.TheVariants.{NotOwn, PrivateManifest}
use Rattle.an_machine.specs.declared.effect.Effect.{Effect}
use Rattle.an_state.specs.declared.entry.Row.TheVariants as kept
use Rattle.an_policy.specs.Reader.{reader_of}
use Rattle.an_machine.specs.Legal.{Write, Accepts, Legal, AreWrites, state_of}
use Rattle.an_laws.proofs.RefusalLemmas.{none-of, none-when, note-based}
use Rattle.an_laws.proofs.RiseLemmas.{drop-next}
use Rattle.an_laws.proofs.SoundLemmas.{sound-after, histories-sound}
use Rattle.an_laws.proofs.SoundParts.{sound-parts}
use Rattle.an_laws.proofs.StepLemmas.{accepted-is}
use Rattle.an_laws.proofs.ValidLemmas.{found-any, manifest-audience, note-audience, is_good_signer, signer-good, write-moment, valid-rows, valid-activities, manifest_activity-valid, note_activity-valid}
use Rattle.an_rows.specs.Valid.{if_any, is_iri, is_tombstone_number, is_valid_reader, is_valid_reader_row, is_manifest_group, is_sheet, is_note, is_valid_live_manifest, is_valid_manifest_row, is_valid_live_note, is_number_of_note, is_valid_note_row, is_valid_audience, is_valid_activity, is_valid_row, is_valid}
use Rattle.an_rows.specs.Cells as cells
use Rattle.an_rows.specs.declared.format.Format.TheVariants.{Second}
use Rattle.an_rows.proofs.OpenedLemmas.{AllValid, valid-parts, valid-from}
use Rattle.an_rows.proofs.RestoreLemmas.{cells-read-back, second-said}
use Rattle.an_rows.proofs.ValidLemmas.{same_Ok}
use Rattle.an_rows.proofs.ValidRowLemmas.{described-valid}
use Rattle.an_rows.proofs.ValidTreeLemmas.{sheet-of, note-of}

-- the rows and the activities of what a write comes to are valid
pub record IsValidEffect (effect : Effect) : Type 0 where
  pub rows : list_all is_valid_row effect.rows ≡ true
  pub activities : list_all is_valid_activity effect.activities ≡ true

-- ---- parts of valid rows

record ManifestParts (row : ManifestState) : Type 0 where
  name : is_name row.name ≡ true
  number : is_number row.version ≡ true
  group : is_manifest_group row.group ≡ true
  live : if_any is_valid_live_manifest row.live ≡ true

manifest-parts : (row : ManifestState) → is_valid_manifest_row row ≡ true → ManifestParts row
unfolding is_valid_manifest_row
manifest-parts row valid =
    let live =
    and_parts (is_name row.name && is_number row.version && is_manifest_group row.group) _ valid in
    let group = and_parts (is_name row.name && is_number row.version) _ live.0 in
    let both = and_parts (is_name row.name) _ group.0 in
    record { name = both.0; number = both.1; group = group.1; live = live.1 }

record NoteParts (row : NoteState) : Type 0 where
  owner : is_name row.owner ≡ true
  name : is_name row.name ≡ true
  number : is_number_of_note row.live row.version ≡ true
  live : if_any is_valid_live_note row.live ≡ true

note-parts : (row : NoteState) → is_valid_note_row row ≡ true → NoteParts row
unfolding is_valid_note_row
note-parts row valid =
    let live =
    and_parts
    (is_name row.owner && is_name row.name && is_number_of_note row.live row.version) _ valid in
    let number = and_parts (is_name row.owner && is_name row.name) _ live.0 in
    let both = and_parts (is_name row.owner) _ number.0 in
    record { owner = both.0; name = both.1; number = number.1; live = live.1 }

-- a row that is found has the key
find-test : {A : Type 0} (test : A → Bool) (xs : List A) → if_any test (find test xs) ≡ true
find-test test [] = refl
find-test test (x ∷ xs) =
    cond_both (test x) (Some x) (find test xs) (λ found. if_any test found ≡ true) (λ h. h)
    (λ h. find-test test xs)

found-key : {R : Type 0} (key : R → Key) (wanted : Key) (rows : List R)
    → if_any (λ row. same_key (key row) wanted) (row_of key wanted rows) ≡ true
found-key key wanted rows =
    ap (if_any (λ row. same_key (key row) wanted)) (row_of-find key wanted rows)
    ∙ find-test (λ row. same_key (key row) wanted) rows

some-mapped : {A B : Type 0} (f : A → B) (test : A → Bool) (found : Option A)
    → passes test found ≡ true → is_some (option_map f found) ≡ true
some-mapped f test None h = absurd (cc)
some-mapped f test (Some x) h = refl

number-tombstone : (n : ℕ) → is_number n ≡ true → is_tombstone_number n ≡ true
unfolding is_number is_tombstone_number
number-tombstone n h = grind (arith, nat_tests)

number-behind : (n : ℕ) → is_number n ≡ true → is_tombstone_number (number_behind n) ≡ true
unfolding is_number is_tombstone_number
number-behind n h =
    cond_both (nat_lt n (2 ^ 32 - 1)) (n + 1) n (λ m. (nat_le 1 m && nat_le m (10 ^ 9)) ≡ true)
    (λ k. grind (arith, nat_tests)) (λ k. grind (arith, nat_tests))

module _ (s : State) (who : Identity) (at : ℤ) (all : AllValid s) (good : is_good_signer who ≡ true)
    (when : is_moment at ≡ true) where
  changed-moment : (made : Option ℤ) → if_any is_moment (changed made at) ≡ true
  changed-moment None = refl
  changed-moment (Some m) = when

  -- ---- a reader

  pub put_reader-valid : (r : Reader) → is_name r.name ≡ true → is_number r.version ≡ true
      → is_valid_reader r ≡ true → IsValidEffect (effect_of s who at (put.Reader r))
  unfolding is_valid_reader_row
  put_reader-valid r named numbered valid = record {
    rows =
        and_from _ _ (and_from _ _
        (and_from _ _ (and_from _ _ named numbered)
        (and_from _ _ ((bytes_eq-Decides r.name r.name).1 refl) (eq-eqb r.version r.version refl)))
        valid) refl;
    activities = refl;
  }

  pub drop_reader-valid : (name : List ℕ) (version : ℕ) → is_name name ≡ true
      → is_number version ≡ true
      → IsValidEffect (effect_of s who at (Deletion (object.Reader name) version))
  unfolding is_valid_reader_row
  drop_reader-valid name version named numbered = record {
    rows = and_from _ _ (and_from _ _ (and_from _ _ (and_from _ _ named numbered) refl) refl) refl;
    activities = refl;
  }

  -- ---- a manifest

  manifest-found : (name : List ℕ) → if_any is_valid_manifest_row (manifest_row s name) ≡ true
  manifest-found name =
      found-any manifest_key is_valid_manifest_row
      (record { owner = None; name = name }) s.manifests all.manifests

  manifest-moment : (before : Option ManifestState) → if_any is_valid_manifest_row before ≡ true
      → is_moment (unwrap_or (manifest_made before) at) ≡ true
  manifest-moment None valid = when
  manifest-moment (Some row) valid = by_live row.live (manifest-parts row valid).live
    where
      by_live : (live : Option LiveManifest) → if_any is_valid_live_manifest live ≡ true
          → is_moment (unwrap_or (option_map (λ l. l.created) live) at) ≡ true
      by_live None h = when
      by_live (Some l) h =
          (and_parts (is_moment l.created) _
          (and_parts (is_moment l.created && if_any is_moment l.modified) _ h).0).0

  manifest-could : (before : Option ManifestState) → if_any is_valid_manifest_row before ≡ true
      → if_any (is_valid_audience None) (option_and_then audience_of_manifest before) ≡ true
  manifest-could None valid = refl
  manifest-could (Some row) valid = manifest-audience row (manifest-parts row valid).group

  pub put_manifest-valid : (m : ManifestPut) → is_name m.name ≡ true → is_number m.version ≡ true
      → is_manifest_group m.group ≡ true → is_sheet m.sheet ≡ true
      → IsValidEffect (effect_of s who at (put.Manifest m))
  unfolding is_valid_manifest_row
  put_manifest-valid m named numbered grouped sheet =
      let before = manifest_row s m.name in
      let found = manifest-found m.name in
      let row = put_manifest at before m in
      record {
        rows = and_from _ _ (and_from _ _ (and_from _ _ (and_from _ _ named numbered) grouped)
            (and_from _ _
            (and_from _ _ (manifest-moment before found) (changed-moment (manifest_made before)))
            sheet)) refl;
        activities =
            and_from _ _ (manifest_activity-valid who at good when m.name
            (option_and_then audience_of_manifest before) (audience_of_manifest row) named
            (manifest-could before found)
            (manifest-audience row grouped) (or_right _ _ refl)) refl;
      }

  -- ---- an annotation

  note-found : (owner name : List ℕ) → if_any is_valid_note_row (note_row s owner name) ≡ true
  note-found owner name =
      found-any note_key is_valid_note_row
      (record { owner = Some owner; name = name }) s.notes all.notes

  note-live : (before : Option NoteState) → if_any is_valid_note_row before ≡ true
      → if_any is_valid_live_note (live_in before) ≡ true
  note-live None valid = refl
  note-live (Some row) valid = (note-parts row valid).live

  note-could : (owner name : List ℕ) (before : Option NoteState)
      → if_any is_valid_note_row before ≡ true
      → if_any (λ row. same_key (note_key row) (record { owner = Some owner; name = name })) before
      ≡ true
      → if_any (is_valid_audience (Some owner)) (option_and_then (audience_of_note s) before) ≡ true
  note-could owner name None valid keyed = refl
  note-could owner name (Some row) valid keyed =
      let same : row.owner ≡ owner =
      (bytes_eq-Decides row.owner owner).0 (and_parts (bytes_eq row.owner owner) _ keyed).0 in
      subst (λ o. if_any (is_valid_audience (Some o)) (audience_of_note s row) ≡ true) same
      (note-audience s row all (note-parts row valid).live)

  creator-iri : is_iri (user_of who) ≡ true → (before : Option LiveNote)
      → if_any is_valid_live_note before ≡ true → is_iri (creator_of who before) ≡ true
  creator-iri user None valid = user
  creator-iri user (Some l) valid =
      (and_parts (is_name l.manifest && is_valid_inner l.group) _
      (and_parts (is_name l.manifest && is_valid_inner l.group && is_iri l.creator) _
      (and_parts
      (is_name l.manifest && is_valid_inner l.group && is_iri l.creator && is_moment l.created) _
      (and_parts (is_name l.manifest && is_valid_inner l.group && is_iri l.creator
      && is_moment l.created && if_any is_moment l.modified) _ valid).0).0).0).1

  created-moment : (before : Option LiveNote) → if_any is_valid_live_note before ≡ true
      → is_moment (unwrap_or (option_map (λ live. live.created) before) at) ≡ true
  created-moment None valid = when
  created-moment (Some l) valid =
      (and_parts (is_name l.manifest && is_valid_inner l.group && is_iri l.creator) _
      (and_parts
      (is_name l.manifest && is_valid_inner l.group && is_iri l.creator && is_moment l.created) _
      (and_parts (is_name l.manifest && is_valid_inner l.group && is_iri l.creator
      && is_moment l.created && if_any is_moment l.modified) _ valid).0).0).1

  pub put_note-valid : (n : NotePut) → is_name n.owner ≡ true → is_name n.name ≡ true
      → is_number n.version ≡ true → is_name n.manifest ≡ true → is_valid_inner n.group ≡ true
      → is_note n.note ≡ true
      → is_iri (user_of who) ≡ true → is_live_manifest s n.manifest ≡ true
      → IsValidEffect (effect_of s who at (put.Note n))
  unfolding is_valid_note_row
  put_note-valid n owned named numbered on grouped note user live =
      let before = note_row s n.owner n.name in
      let found = note-found n.owner n.name in
      let lives = note-live before found in
      let row = put_note who at before n in
      let valid =
      and_from _ _ (and_from _ _
      (and_from _ _
      (and_from _ _ (and_from _ _ on grouped) (creator-iri user (live_in before) lives))
      (created-moment (live_in before) lives))
      (changed-moment (note_made before))) note in
      let key : Key = record { owner = Some n.owner; name = n.name } in
      record {
        rows =
            and_from _ _
            (and_from _ _ (and_from _ _ (and_from _ _ owned named) numbered) valid) refl;
        activities =
            and_from _ _ (note_activity-valid who at good when n.owner n.name
            (option_and_then (audience_of_note s) before) (audience_of_note s row) owned named
            (note-could n.owner n.name before found (found-key note_key key s.notes))
            (note-audience s row all valid)
            (or_right _ _ (some-mapped {B = Audience}
            (λ m. record { outer = m.group; inner = n.group; owner = Some n.owner })
            (λ r. is_some r.live) (manifest_row s n.manifest) live))) refl;
      }

  -- ---- deletions

  -- an annotation that is live has an audience, since its manifest is live
  live-seen : (row : NoteState) → is_some row.live ≡ true → stands_on_live s row ≡ true
      → is_some (audience_of_note s row) ≡ true
  live-seen row lives stands = by_live row.live lives stands
    where
      by_live : (live : Option LiveNote) → is_some live ≡ true
          → (elim live [ None ↦ true | Some l ↦ is_live_manifest s l.manifest ]) ≡ true
          → is_some (option_and_then
          (λ l. option_map {U = Audience}
          (λ m. record { outer = m.group; inner = l.group; owner = Some row.owner })
          (manifest_row s l.manifest)) live) ≡ true
      by_live None h k = absurd (cc)
      by_live (Some l) h k =
          some-mapped {B = Audience}
          (λ m. record { outer = m.group; inner = l.group; owner = Some row.owner })
          (λ r. is_some r.live) (manifest_row s l.manifest) k

  module _ (stand : list_all (stands_on_live s) s.notes ≡ true) where
    seen-before : (before : Option NoteState) → passes (λ r. is_some r.live) before ≡ true
        → if_any (stands_on_live s) before ≡ true
        → is_some (option_and_then (audience_of_note s) before) ≡ true
    seen-before None live stands = absurd (cc)
    seen-before (Some row) live stands = live-seen row live stands

    pub drop_note-valid : (owner name : List ℕ) (version : ℕ) → is_name owner ≡ true
        → is_name name ≡ true → is_number version ≡ true
        → passes (λ r. is_some r.live) (note_row s owner name) ≡ true
        → IsValidEffect (effect_of s who at (Deletion (object.Note owner name) version))
    unfolding is_valid_note_row
    drop_note-valid owner name version owned named numbered live =
        let key : Key = record { owner = Some owner; name = name } in
        let before = note_row s owner name in
        record {
          rows =
              and_from _ _ (and_from _ _
              (and_from _ _ (and_from _ _ owned named) (number-tombstone version numbered)) refl)
              refl;
          activities =
              and_from _ _ (note_activity-valid who at good when owner name
              (option_and_then (audience_of_note s) before) None owned named
              (note-could owner name before (note-found owner name)
              (found-key note_key key s.notes)) refl
              (or_left _ _
              (seen-before before live (found-any note_key (stands_on_live s) key s.notes stand))))
              refl;
        }

    -- the annotations of a manifest are buried
    live-on : (manifest : List ℕ) (row : NoteState) → is_on manifest row ≡ true
        → is_some row.live ≡ true
    live-on manifest row on = by_live row.live on
      where
        by_live : (live : Option LiveNote) → passes (λ l. bytes_eq l.manifest manifest) live ≡ true
            → is_some live ≡ true
        by_live None h = absurd (cc)
        by_live (Some l) h = refl

    buried-valid : (row : NoteState) → is_some row.live ≡ true → is_valid_note_row row ≡ true
        → is_valid_note_row (buried row) ≡ true
    unfolding is_valid_note_row
    buried-valid row lives valid =
        let parts = note-parts row valid in
        and_from _ _ (and_from _ _ (and_from _ _ parts.owner parts.name)
        (number-behind row.version (by_live row.live lives parts.number))) refl
      where
        by_live : (live : Option LiveNote) → is_some live ≡ true
            → is_number_of_note live row.version ≡ true → is_number row.version ≡ true
        by_live None h k = absurd (cc)
        by_live (Some l) h k = k

    burial-valid : (row : NoteState) → is_some row.live ≡ true → is_valid_note_row row ≡ true
        → stands_on_live s row ≡ true → is_valid_activity (burial s who at row) ≡ true
    burial-valid row lives valid stands =
        let parts = note-parts row valid in
        note_activity-valid who at good when row.owner row.name (audience_of_note s row) None
        parts.owner parts.name (note-audience s row all parts.live) refl
        (or_left _ _ (live-seen row lives stands))

    -- what holds of each live annotation on the manifest holds of all that are left of them
    all-on : {A : Type 0} (manifest : List ℕ) (f : NoteState → A) (p : A → Bool)
        → ((row : NoteState) → is_some row.live ≡ true → is_valid_note_row row ≡ true
        → stands_on_live s row ≡ true → p (f row) ≡ true)
        → (rows : List NoteState) → list_all is_valid_note_row rows ≡ true
        → list_all (stands_on_live s) rows ≡ true
        → list_all p (map f (filter (is_on manifest) rows)) ≡ true
    all-on manifest f p each [] valid stands = refl
    all-on manifest f p each (row ∷ rows) valid stands =
        let valids = and_parts (is_valid_note_row row) _ valid in
        let stood = and_parts (stands_on_live s row) _ stands in
        let rest = all-on manifest f p each rows valids.1 stood.1 in
        cond_both (is_on manifest row) (row ∷ filter (is_on manifest) rows)
        (filter (is_on manifest) rows) (λ l. list_all p (map f l) ≡ true)
        (λ on. and_from _ _ (each row (live-on manifest row on) valids.0 stood.0) rest)
        (λ off. rest)

    tombstone-valid : (name : List ℕ) (version : ℕ) → is_name name ≡ true → is_number version ≡ true
        → (before : Option ManifestState) → if_any is_valid_manifest_row before ≡ true
        → list_all is_valid_row (option_to_list
        (option_map kept.Manifest (option_map (manifest_tombstone name version) before))) ≡ true
    unfolding is_valid_manifest_row
    tombstone-valid name version named numbered None valid = refl
    tombstone-valid name version named numbered (Some row) valid =
        and_from _ _ (and_from _ _
        (and_from _ _ (and_from _ _ named numbered) (manifest-parts row valid).group) refl) refl

    seen-manifest : (before : Option ManifestState) → passes (λ r. is_some r.live) before ≡ true
        → is_some (option_and_then audience_of_manifest before) ≡ true
    seen-manifest None live = absurd (cc)
    seen-manifest (Some row) live = by_live row.live live
      where
        by_live : (its : Option LiveManifest) → is_some its ≡ true
            → is_some (option_map {U = Audience} (λ l. manifest_audience row) its) ≡ true
        by_live None h = absurd (cc)
        by_live (Some l) h = refl

    pub drop_manifest-valid : (name : List ℕ) (version : ℕ) → is_name name ≡ true
        → is_number version ≡ true → passes (λ r. is_some r.live) (manifest_row s name) ≡ true
        → IsValidEffect (effect_of s who at (Deletion (object.Manifest name) version))
    drop_manifest-valid name version named numbered live =
        let before = manifest_row s name in
        let last =
        manifest_activity who at name (option_and_then audience_of_manifest before) None in
        record {
          rows =
              list_all-append is_valid_row (map (λ row. kept.Note (buried row)) (notes_on s name))
              (option_to_list
              (option_map kept.Manifest (option_map (manifest_tombstone name version) before)))
              ∙ and_from _ _ (all-on name (λ row. kept.Note (buried row)) is_valid_row
              (λ row lives valid stands. buried-valid row lives valid) s.notes all.notes stand)
              (tombstone-valid name version named numbered before (manifest-found name));
          activities =
              list_all-append is_valid_activity
              (map (burial s who at) (notes_on s name)) (last ∷ [])
              ∙ and_from _ _
              (all-on name (burial s who at) is_valid_activity burial-valid s.notes all.notes stand)
              (and_from _ _ (manifest_activity-valid who at good when name
              (option_and_then audience_of_manifest before) None named
              (manifest-could before (manifest-found name)) refl
              (or_left _ _ (seen-manifest before live))) refl);
        }

-- ---- a write

mapped : {A B E D : Type 0} (f : A → B) (g : E → D) (read : Result A E) (y : B)
    → result_map_both f g read ≡ Ok y → (x : A) × (read ≡ Ok x) × (f x ≡ y)
mapped f g (Ok x) y is = (x, refl, same_Ok (f x) y is)
mapped f g (Err e) y is = absurd (cc)

unprivate : (private : Bool) (otherwise : Result Asked Refused) (asked : Asked)
    → (if private then Err PrivateManifest else otherwise) ≡ Ok asked
    → (private ≡ false) × (otherwise ≡ Ok asked)
unprivate true otherwise asked is = absurd (cc)
unprivate false otherwise asked is = (refl, is)

whole-tree : (tree : Data) → is_tree tree ≡ true → is_whole tree ≡ true
unfolding is_tree
whole-tree tree h = (and_parts (is_whole tree) _ h).0

-- who writes an annotation of its own has an IRI
own-iri : (who : Identity) (owner : List ℕ) → is_good_signer who ≡ true
    → not (is_named who owner) ≡ false → is_iri (user_of who) ≡ true
own-iri anonymous owner good own = absurd (cc)
own-iri operator owner good own = absurd (cc)
own-iri (signed reader) owner good own = (and_parts (is_name reader.name) _ good).1

module _ (s : State) (who : Identity) (at : ℤ) (all : AllValid s)
    (stand : list_all (stands_on_live s) s.notes ≡ true) (good : is_good_signer who ≡ true)
    (when : is_moment at ≡ true) where
  abbrev Comes : Asked → Type 0
  Comes asked = IsValidEffect (effect_of s who at asked)

  -- what a command comes to is valid, where nothing refuses it
  effect-valid : (asked : Asked) (command : Command) → is_command command ≡ true
      → asked_of command ≡ Ok asked → first_of (refusals_before s who command) ≡ None
      → is_next s asked ≡ true → Comes asked
  effect-valid asked (PutReader name version tree) is_it reads none next =
      let tree_is = and_parts (is_name name && is_number version) _ is_it in
      let both = and_parts (is_name name) _ tree_is.0 in
      let read = mapped put.Reader no_reader (reader_of tree name version) asked reads in
      let reader = described-valid tree name version read.0 (whole-tree tree tree_is.1) read.1 in
      subst Comes read.2 (put_reader-valid s who at all good when read.0
      (ap is_name reader.0 ∙ both.0) (ap is_number reader.1 ∙ both.1) reader.2)
  effect-valid asked (DropReader name version) is_it reads none next =
      let both = and_parts (is_name name) _ is_it in
      subst Comes (same_Ok {E = Refused} (Deletion (object.Reader name) version) asked reads)
      (drop_reader-valid s who at all good when name version both.0 both.1)
  effect-valid asked (PutManifest name version group tree) is_it reads none next =
      let tree_is = and_parts (is_name name && is_number version && is_valid_group group) _ is_it in
      let group_is = and_parts (is_name name && is_number version) _ tree_is.0 in
      let both = and_parts (is_name name) _ group_is.0 in
      let open_to =
      unprivate (is_private group)
      (result_map_both (asked_manifest name version group) no_manifest (manifest_of tree))
      asked reads in
      let read =
      mapped (asked_manifest name version group) no_manifest (manifest_of tree) asked open_to.1 in
      subst Comes read.2 (put_manifest-valid s who at all good when
      (record { name = name; version = version; group = group; sheet = read.0 }) both.0 both.1
      (and_from _ _ group_is.1 (ap not open_to.0)) (sheet-of tree read.0 tree_is.1 read.1))
  effect-valid asked (DropManifest name version) is_it reads none next =
      let both = and_parts (is_name name) _ is_it in
      let same = same_Ok {E = Refused} (Deletion (object.Manifest name) version) asked reads in
      let live = drop-next s (object.Manifest name) version (ap (is_next s) same ∙ next) in
      subst Comes same
      (drop_manifest-valid s who at all good when stand name version both.0 both.1 live)
  effect-valid asked (PutNote owner name version manifest group tree) is_it reads none next =
      let tree_is =
      and_parts (is_name owner && is_name name && is_number version && is_name manifest
      && is_valid_inner group) _ is_it in
      let group_is =
      and_parts (is_name owner && is_name name && is_number version && is_name manifest) _
      tree_is.0 in
      let on = and_parts (is_name owner && is_name name && is_number version) _ group_is.0 in
      let number = and_parts (is_name owner && is_name name) _ on.0 in
      let both = and_parts (is_name owner) _ number.0 in
      let read =
      mapped (asked_note owner name version manifest group) no_note (note_of tree) asked reads in
      let own =
      none-when (is_anothers who (object.Note owner name)) NotOwn
      (none-of (refusals_before s who (PutNote owner name version manifest group tree)) none).1.0 in
      subst Comes read.2 (put_note-valid s who at all good when (record {
        owner = owner;
        name = name;
        version = version;
        manifest = manifest;
        group = group;
        note = read.0;
      })
      both.0 both.1 number.1 on.1 group_is.1 (note-of tree read.0 tree_is.1 read.1)
      (own-iri who owner good own)
      (note-based s who (PutNote owner name version manifest group tree) manifest none refl))
  effect-valid asked (DropNote owner name version) is_it reads none next =
      let number = and_parts (is_name owner && is_name name) _ is_it in
      let both = and_parts (is_name owner) _ number.0 in
      let same = same_Ok {E = Refused} (Deletion (object.Note owner name) version) asked reads in
      let live = drop-next s (object.Note owner name) version (ap (is_next s) same ∙ next) in
      subst Comes same
      (drop_note-valid s who at all good when stand owner name version both.0 both.1 number.1 live)

-- an accepted write leads from a valid and sound state to a valid one
pub valid-after : (s : State) (write : Write) → Accepts s write
    → IsTrue (is_write write.moment write.command) → IsTrue (is_sound s) → IsTrue (is_valid s)
    → IsTrue (is_valid (after s write.entry))
valid-after s write accepts is_it sound valid =
    let is = accepted-is s write accepts in
    let all = valid-parts s valid in
    let right = and_parts (is_moment write.moment) _ is_it in
    let at = moment_of_write s write.moment in
    let effect = effect_of s is.who at is.asked in
    let comes =
    effect-valid s is.who at all (sound-parts s sound).stand
    (signer-good s write.caller is.who all is.signs) (write-moment s write.moment all right.0)
    is.asked write.command right.1 is.reads is.permitted is.next in
    ap (λ entry. is_valid (after s entry)) is.same
    ∙ valid-from _ (valid-activities (with_rows effect.rows s) effect.activities
    (valid-rows effect.rows s all comes.rows) comes.activities)

-- and so does each history of such writes
pub histories-valid : (s : State) (writes : List Write) → Legal s writes → AreWrites writes
    → IsTrue (is_sound s) → IsTrue (is_valid s) → IsTrue (is_valid (state_of s writes))
histories-valid s [] legal right sound valid = valid
histories-valid s (write ∷ writes) legal right sound valid =
    histories-valid (after s write.entry) writes legal.1 right.1 (sound-after s write legal.0 sound)
    (valid-after s write legal.0 right.0 sound valid)

-- the cells of each state that such a history leads to stand for it
pub histories-kept : (s : State) (writes : List Write) → Legal s writes → AreWrites writes
    → IsTrue (is_sound s) → IsTrue (is_valid s)
    → cells.state_of (cells.cells (state_of s writes)) ≡ Ok (state_of s writes)
histories-kept s writes legal right sound valid =
    cells-read-back Second (state_of s writes) (histories-valid s writes legal right sound valid)
    (histories-sound s writes legal sound) (second-said (state_of s writes))

pub ruleset validity = (valid-after, histories-valid, histories-kept)
