-- What a write comes to is valid, and so is each state that it leads to.
use Rattle.std.proofs.Common.{◌≡◌, ℕ, zero, suc, ◌-◌, ℤ, int_lt, Bool, true, ◌&&◌, ◌||◌, bytes_eq, List, [], ◌∷◌, ◌++◌, length, slice_get, find, Option, Some, None, is_some, option_map, option_and_then, filter_map, refl, sym, ap, ◌∙◌}
use Rattle.std.specs.Prelude.{unwrap_or}
use Rattle.std.specs.List.{list_all, cons_option}
use Rattle.std.proofs.lemmas.Bool.{and_from, and_parts, cond_both}
use Rattle.std.proofs.lemmas.List.Folds.{list_all-append}
use Rattle.std.proofs.lemmas.Slice.Eq.{bytes_eq-Decides}
use Rattle.an_base.specs.Moment.{is_moment}
use Rattle.an_base.specs.Name.{is_name}
use Rattle.an_base.specs.Token.{is_token}
use Rattle.an_keyed.specs.Key.{Key}
use Rattle.an_keyed.specs.Rows.{row_of}
use Rattle.an_keyed.proofs.PutLemmas.{all-put_row}
use Rattle.an_policy.specs.Audience.{Identity, anonymous, operator, signed}
use Rattle.an_policy.specs.Inner.{is_valid_inner}
use Rattle.an_policy.specs.declared.group.Audience.{Audience}
use Rattle.an_policy.specs.declared.inner.Inner.TheVariants.{Public}
use Rattle.an_policy.specs.declared.reader.Reader.{Reader}
use Rattle.an_policy.specs.declared.who.Caller.{Caller}
use Rattle.an_policy.specs.declared.who.Caller.TheVariants.{Anonymous, Operator, Token, Named}
use Rattle.an_machine.specs.Accepted.{later, moment_of_write, by_whom, manifest_activity, note_activity}
use Rattle.an_state.specs.View.{last_moment, audience_of_manifest, audience_of_note}
use Rattle.an_state.specs.Commands.{is_number}
use Rattle.an_state.specs.Entries.{with_row, with_rows}
use Rattle.an_machine.specs.Refusals.{signed_by, signer_of}
use Rattle.an_state.specs.Rows.{reader_agrees}
use Rattle.an_state.specs.Sound.{agrees}
use Rattle.an_state.specs.State.{State, ReaderState, ManifestState, LiveManifest, NoteState, LiveNote, reader_key, manifest_key, note_key, reader_row, manifest_row, live_readers, reader_with_token}
use Rattle.an_state.specs.declared.activity.Activity.{Activity}
use Rattle.an_state.specs.declared.entry.Row.{Row}
use Rattle.an_state.specs.declared.entry.Row.TheVariants as kept
use Rattle.an_keyed.proofs.FoundLemmas.{found-passes}
use Rattle.an_rows.specs.Valid.{if_any, is_iri, is_valid_reader, is_valid_reader_row, is_manifest_group, is_valid_manifest_row, is_valid_live_note, is_valid_note_row, is_valid_audience, is_valid_activity, is_valid_row}
use Rattle.an_rows.proofs.OpenedLemmas.{AllValid}

-- ---- rows that are put

valid-row : (s : State) (row : Row) → AllValid s → is_valid_row row ≡ true
    → AllValid (with_row s row)
valid-row s (kept.Reader row) all valid =
    record {
      readers = all-put_row reader_key is_valid_reader_row row s.readers valid all.readers;
      manifests = all.manifests;
      notes = all.notes;
      activities = all.activities;
    }
valid-row s (kept.Manifest row) all valid =
    record {
      readers = all.readers;
      manifests =
          all-put_row manifest_key is_valid_manifest_row row s.manifests valid all.manifests;
      notes = all.notes;
      activities = all.activities;
    }
valid-row s (kept.Note row) all valid =
    record {
      readers = all.readers;
      manifests = all.manifests;
      notes = all-put_row note_key is_valid_note_row row s.notes valid all.notes;
      activities = all.activities;
    }
valid-row s (kept.Activity row) all valid =
    record {
      readers = all.readers;
      manifests = all.manifests;
      notes = all.notes;
      activities =
          list_all-append is_valid_activity s.activities (row ∷ [])
          ∙ and_from _ _ all.activities (and_from _ _ valid refl);
    }

pub valid-rows : (rows : List Row) (s : State) → AllValid s → list_all is_valid_row rows ≡ true
    → AllValid (with_rows rows s)
valid-rows [] s all valid = all
valid-rows (row ∷ rows) s all valid =
    let parts = and_parts (is_valid_row row) _ valid in
    valid-rows rows (with_row s row) (valid-row s row all parts.0) parts.1

pub valid-activities : (t : State) (activities : List Activity) → AllValid t
    → list_all is_valid_activity activities ≡ true
    → AllValid (record t { activities = t.activities ++ activities })
valid-activities t activities all valid =
    record {
      readers = all.readers;
      manifests = all.manifests;
      notes = all.notes;
      activities =
          list_all-append is_valid_activity t.activities activities
          ∙ and_from _ _ all.activities valid;
    }

-- ---- what is found among valid rows

module _ {R : Type 0} (key : R → Key) (p : R → Bool) where
  pub found-any : (wanted : Key) (rows : List R) → list_all p rows ≡ true
      → if_any p (row_of key wanted rows) ≡ true
  found-any wanted rows all = by_found (row_of key wanted rows) refl
    where
      by_found : (found : Option R) → row_of key wanted rows ≡ found → if_any p found ≡ true
      by_found None is = refl
      by_found (Some row) is = found-passes key p wanted row rows all is

-- ---- moments

pub later-moment : (a b : ℤ) → is_moment a ≡ true → is_moment b ≡ true
    → is_moment (later a b) ≡ true
later-moment a b h k = cond_both (int_lt a b) b a (λ m. is_moment m ≡ true) (λ x. k) (λ x. h)

-- ---- audiences

pub manifest-audience : (row : ManifestState) → is_manifest_group row.group ≡ true
    → if_any (is_valid_audience None) (audience_of_manifest row) ≡ true
unfolding is_valid_audience
manifest-audience row grouped = by_live row.live
  where
    by_live : (live : Option LiveManifest)
        → if_any (is_valid_audience None)
        (option_map (λ l. record { outer = row.group; inner = Public; owner = None }) live) ≡ true
    by_live None = refl
    by_live (Some l) = and_from _ _ grouped refl

pub note-audience : (s : State) (row : NoteState) → AllValid s
    → if_any is_valid_live_note row.live ≡ true
    → if_any (is_valid_audience (Some row.owner)) (audience_of_note s row) ≡ true
unfolding is_valid_audience is_valid_manifest_row
note-audience s row all valid = by_live row.live valid
  where
    by_manifest : (live : LiveNote) (found : Option ManifestState)
        → is_valid_inner live.group ≡ true → if_any is_valid_manifest_row found ≡ true
        → if_any (is_valid_audience (Some row.owner))
        (option_map
        (λ m. record { outer = m.group; inner = live.group; owner = Some row.owner }) found) ≡ true
    by_manifest live None grouped valid = refl
    by_manifest live (Some m) grouped valid =
        and_from _ _ (and_parts (is_name m.name && is_number m.version) _
        (and_parts (is_name m.name && is_number m.version && is_manifest_group m.group)
        _ valid).0).1
        (and_from _ _ grouped ((bytes_eq-Decides row.owner row.owner).1 refl))

    by_live : (live : Option LiveNote) → if_any is_valid_live_note live ≡ true
        → if_any (is_valid_audience (Some row.owner))
        (option_and_then (λ l. option_map
        (λ m. record { outer = m.group; inner = l.group; owner = Some row.owner })
        (manifest_row s l.manifest)) live) ≡ true
    by_live None h = refl
    by_live (Some l) h =
        let tree =
        and_parts (is_name l.manifest && is_valid_inner l.group && is_iri l.creator
        && is_moment l.created && if_any is_moment l.modified) _ h in
        let modified =
        and_parts
        (is_name l.manifest && is_valid_inner l.group && is_iri l.creator && is_moment l.created) _
        tree.0 in
        let created =
        and_parts (is_name l.manifest && is_valid_inner l.group && is_iri l.creator) _ modified.0 in
        let creator = and_parts (is_name l.manifest && is_valid_inner l.group) _ created.0 in
        by_manifest l (manifest_row s l.manifest) (and_parts (is_name l.manifest) _ creator.0).1
        (found-any manifest_key is_valid_manifest_row
        (record { owner = None; name = l.manifest }) s.manifests all.manifests)

-- ---- who signs

-- the name and the IRI of a reader that signs are good
abbrev is_good : Reader → Bool
is_good reader = is_name reader.name && is_iri reader.user

abbrev pub is_good_signer : Identity → Bool
is_good_signer anonymous = true
is_good_signer operator = true
is_good_signer (signed reader) = is_good reader

good-row : (row : ReaderState) → is_valid_reader_row row ≡ true → if_any is_good row.live ≡ true
unfolding is_valid_reader_row
good-row row valid =
    let parts = and_parts (is_name row.name && is_number row.version && agrees row) _ valid in
    let first = and_parts (is_name row.name && is_number row.version) _ parts.0 in
    by_live row.live (and_parts (is_name row.name) _ first.0).0 first.1 parts.1
  where
    by_live : (live : Option Reader) → is_name row.name ≡ true
        → reader_agrees row.name row.version live ≡ true → if_any is_valid_reader live ≡ true
        → if_any is_good live ≡ true
    by_live None named agree valid = refl
    by_live (Some reader) named agree valid =
        let same =
        (bytes_eq-Decides reader.name row.name).0
        (and_parts (bytes_eq reader.name row.name) _ agree).0 in
        let iri =
        (and_parts (is_token reader.token) _
        (and_parts (is_token reader.token && is_iri reader.user) _ valid).0).1 in
        and_from _ _ (ap is_name same ∙ named) iri

good-live : (rows : List ReaderState) → list_all is_valid_reader_row rows ≡ true
    → list_all is_good (filter_map (λ row. row.live) rows) ≡ true
good-live [] valid = refl
good-live (row ∷ rows) valid =
    let parts = and_parts (is_valid_reader_row row) _ valid in
    by_live (good-live rows parts.1) row.live (good-row row parts.0)
  where
    by_live : list_all is_good (filter_map (λ row. row.live) rows) ≡ true → (live : Option Reader)
        → if_any is_good live ≡ true
        → list_all is_good (cons_option live (filter_map (λ row. row.live) rows)) ≡ true
    by_live rest None h = rest
    by_live rest (Some reader) h = and_from _ _ h rest

find-any : {A : Type 0} (p test : A → Bool) (xs : List A) → list_all p xs ≡ true
    → if_any p (find test xs) ≡ true
find-any p test [] all = refl
find-any p test (x ∷ xs) all =
    let parts = and_parts (p x) _ all in
    cond_both (test x) (Some x) (find test xs) (λ found. if_any p found ≡ true) (λ h. parts.0)
    (λ h. find-any p test xs parts.1)

good-signed : (found : Option Reader) → if_any is_good found ≡ true
    → if_any is_good_signer (option_and_then signed_by (option_map signed found)) ≡ true
good-signed None h = refl
good-signed (Some reader) h = h

good-named : (found : Option ReaderState) → if_any is_valid_reader_row found ≡ true
    → if_any is_good (option_and_then (λ row. row.live) found) ≡ true
good-named None h = refl
good-named (Some row) h = good-row row h

signer-any : (s : State) (caller : Caller) → AllValid s
    → if_any is_good_signer (signer_of s caller) ≡ true
signer-any s Anonymous all = refl
signer-any s Operator all = refl
signer-any s (Token token) all =
    good-signed (reader_with_token s token)
    (find-any is_good (λ reader. bytes_eq reader.token token) (live_readers s)
    (good-live s.readers all.readers))
signer-any s (Named name) all =
    good-signed (option_and_then (λ row. row.live) (reader_row s name))
    (good-named (reader_row s name)
    (found-any reader_key is_valid_reader_row
    (record { owner = None; name = name }) s.readers all.readers))

pub signer-good : (s : State) (caller : Caller) (who : Identity) → AllValid s
    → signer_of s caller ≡ Some who → is_good_signer who ≡ true
signer-good s caller who all is = sym (ap (if_any is_good_signer) is) ∙ signer-any s caller all

by-named : (who : Identity) → is_good_signer who ≡ true → if_any is_name (by_whom who) ≡ true
by-named anonymous h = refl
by-named operator h = refl
by-named (signed reader) h = (and_parts (is_name reader.name) _ h).0

-- ---- the moment of a write

last-moment : (moment : ℤ) (activities : List Activity) → is_moment moment ≡ true
    → list_all is_valid_activity activities ≡ true
    → is_moment (last_moment moment activities) ≡ true
unfolding is_valid_activity
last-moment moment activities h all =
    by_last (slice_get activities (length activities - 1))
    (at-valid activities (length activities - 1) all)
  where
    activity-moment : (a : Activity) → is_valid_activity a ≡ true → is_moment a.at ≡ true
    activity-moment a valid =
        (and_parts (is_moment a.at) _
        (and_parts (is_moment a.at && if_any is_name a.by) _
        (and_parts (is_moment a.at && if_any is_name a.by && if_any is_name a.owner) _
        (and_parts
        (is_moment a.at && if_any is_name a.by && if_any is_name a.owner && is_name a.name) _
        (and_parts (is_moment a.at && if_any is_name a.by && if_any is_name a.owner
        && is_name a.name && if_any (is_valid_audience a.owner) a.before) _
        (and_parts (is_moment a.at && if_any is_name a.by && if_any is_name a.owner
        && is_name a.name && if_any (is_valid_audience a.owner) a.before
        && if_any (is_valid_audience a.owner) a.after) _ valid).0).0).0).0).0).0

    at-valid : (list : List Activity) (place : ℕ) → list_all is_valid_activity list ≡ true
        → if_any is_valid_activity (slice_get list place) ≡ true
    at-valid [] place valid = refl
    at-valid (first ∷ list) zero valid = (and_parts (is_valid_activity first) _ valid).0
    at-valid (first ∷ list) (suc place) valid =
        at-valid list place (and_parts (is_valid_activity first) _ valid).1

    by_last : (found : Option Activity) → if_any is_valid_activity found ≡ true
        → is_moment (unwrap_or (option_map (λ last. last.at) found) moment) ≡ true
    by_last None valid = h
    by_last (Some a) valid = activity-moment a valid

pub write-moment : (s : State) (moment : ℤ) → AllValid s → is_moment moment ≡ true
    → is_moment (moment_of_write s moment) ≡ true
write-moment s moment all h =
    later-moment moment (last_moment moment s.activities) h
    (last-moment moment s.activities h all.activities)

-- ---- activities

module _ (who : Identity) (at : ℤ) (good : is_good_signer who ≡ true)
    (when : is_moment at ≡ true) where
  pub manifest_activity-valid : (name : List ℕ) (before after : Option Audience)
      → is_name name ≡ true → if_any (is_valid_audience None) before ≡ true
      → if_any (is_valid_audience None) after ≡ true
      → (is_some before || is_some after) ≡ true
      → is_valid_activity (manifest_activity who at name before after) ≡ true
  unfolding is_valid_activity
  manifest_activity-valid name before after named b a seen =
      and_from _ _ (and_from _ _
      (and_from _ _
      (and_from _ _ (and_from _ _ (and_from _ _ when (by-named who good)) refl) named) b) a) seen

  pub note_activity-valid : (owner name : List ℕ) (before after : Option Audience)
      → is_name owner ≡ true → is_name name ≡ true
      → if_any (is_valid_audience (Some owner)) before ≡ true
      → if_any (is_valid_audience (Some owner)) after ≡ true
      → (is_some before || is_some after) ≡ true
      → is_valid_activity (note_activity who at owner name before after) ≡ true
  unfolding is_valid_activity
  note_activity-valid owner name before after owned named b a seen =
      and_from _ _ (and_from _ _
      (and_from _ _
      (and_from _ _ (and_from _ _ (and_from _ _ when (by-named who good)) owned) named) b) a) seen
