-- Each row of a manifest or an annotation that is read, and each activity, is valid; and so is each
-- row.
use Rattle.std.proofs.Common.{◌≡◌, ℕ, ℤ, List, Bool, true, false, ◌||◌, ◌==◌, codes, Option, Some, None, Result, Ok, Err, is_none, is_some, option_and_then, inl, inr, refl, sym, ap, subst, ◌∙◌}
use Rattle.std.proofs.lemmas.Bool.{cases_Bool, and_from, cond-true, cond-false, eqb-true}
use Rattle.std.specs.Prelude.{if◌then◌else◌}
use Rattle.std.specs.Result.{result_ok}
use Rattle.serde_json.specs.Data.{Data}
use Rattle.serde_json.specs.Find.{get, as_number, as_i64}
use Rattle.an_base.specs.Member.{text_in}
use Rattle.an_base.specs.Moment.{is_moment}
use Rattle.an_base.specs.Name.{is_name}
use Rattle.an_base.specs.Object.{without_member}
use Rattle.an_base.specs.Outcome.{unless, first_of}
use Rattle.an_base.specs.Tree.{is_whole, is_tree}
use Rattle.an_base.specs.Value.{value_of}
use Rattle.an_base.proofs.ObjectLemmas.{is_tree-without_member}
use Rattle.an_manifest.specs.Manifest.{manifest_refusals, is_manifest, kept_tree, manifest_of}
use Rattle.an_manifest.proofs.ManifestLemmas.{is_kept-kept_tree}
use Rattle.an_model.specs.Note.{note_refusal, kept as kept_of, note_of}
use Rattle.an_model.proofs.BareLemmas.{is_bare-kept}
use Rattle.an_model.proofs.NoteLemmas.{note_refusal-kept}
use Rattle.an_policy.specs.Inner.{inner_of, is_valid_inner}
use Rattle.an_policy.specs.Reader.{is_user}
use Rattle.an_policy.specs.declared.group.Audience.{Audience}
use Rattle.an_policy.specs.declared.inner.Inner.{Inner}
use Rattle.an_state.specs.Commands.{is_number}
use Rattle.an_state.specs.State.{ManifestState, LiveManifest, NoteState, LiveNote}
use Rattle.an_state.specs.declared.activity.Activity.{Activity}
use Rattle.an_state.specs.declared.entry.Row.{Row}
use Rattle.an_state.specs.declared.entry.Row.TheVariants as kept
use Rattle.an_rows.specs.Format.{can_say, group_texts, inner_in, inner_name}
use Rattle.an_rows.specs.RowTree.{row_text, table_of}
use Rattle.an_rows.specs.RowRead.{then_read, name_in, flag_in, number_in, version_in, tombstone_version_in, moment_in, group_in, manifest_group_in, creator_in, tree_in, reader_row_in, live_manifest_in, manifest_if_live, manifest_named, manifest_row_in, live_note_on, live_note_in, live_note_named, note_tombstone_named, note_named, note_row_in, audience_of, audience_with, audience_if, activity_on, activity_in, row_in, if_its_text, row_of_text}
use Rattle.an_rows.specs.Valid.{if_any, is_iri, is_tombstone_number, is_manifest_group, is_sheet, is_note, is_valid_live_manifest, is_valid_manifest_row, is_valid_live_note, is_valid_note_row, is_valid_audience, is_valid_activity, is_valid_row, row_can}
use Rattle.an_rows.specs.declared.format.Format.{Format}
use Rattle.an_rows.specs.declared.refusal.RowError.{RowError}
use Rattle.an_rows.specs.declared.refusal.RowError.TheVariants.{Bytes, Table}
use Rattle.an_rows.proofs.ValidLemmas.{refused, was_read, same_Ok, found-passed, any-passed, text-utf8, value-whole, its-text}
use Rattle.an_rows.proofs.ValidRowLemmas.{and_then-found, ok-found, valid-reader_row}
use Rattle.an_rows.proofs.InnerLemmas.{said-read, valid-read}

-- ---- kept trees

unless-ok : {A E : Type 0} (refusal : Option E) (x y : A) → unless refusal x ≡ Ok y
    → (refusal ≡ None) × (x ≡ y)
unless-ok None x y is = (refl, same_Ok x y is)
unless-ok (Some e) x y is = absurd (cc)

pub sheet-of : (value sheet : Data) → is_tree value ≡ true → manifest_of value ≡ Ok sheet
    → is_sheet sheet ≡ true
unfolding is_sheet manifest_of is_manifest
sheet-of value sheet tree is =
    let both = unless-ok (first_of (manifest_refusals value)) (kept_tree value) sheet is in
    let kept_is : is_tree (kept_tree value) ≡ true =
    unfold kept_tree in
    is_tree-without_member (codes "id") (without_member (codes "@context") value)
    (is_tree-without_member (codes "@context") value tree) in
    ap is_sheet (sym both.1)
    ∙ and_from _ _ kept_is (is_kept-kept_tree value tree (ap is_none both.0))

kept-tree : (value : Data) → is_tree value ≡ true → is_tree (kept_of value) ≡ true
unfolding kept_of
kept-tree value tree =
    let context = without_member (codes "@context") value in
    let id = without_member (codes "id") context in
    let creator = without_member (codes "creator") id in
    is_tree-without_member (codes "modified") (without_member (codes "created") creator)
    (is_tree-without_member (codes "created") creator (is_tree-without_member (codes "creator") id
    (is_tree-without_member (codes "id") context
    (is_tree-without_member (codes "@context") value tree))))

pub note-of : (value note : Data) → is_tree value ≡ true → note_of value ≡ Ok note
    → is_note note ≡ true
unfolding is_note note_of
note-of value note tree is =
    let both = unless-ok (note_refusal value) (kept_of value) note is in
    ap is_note (sym both.1)
    ∙ and_from _ _
    (and_from _ _ (kept-tree value tree) (ap is_none (note_refusal-kept value ∙ both.0)))
    (is_bare-kept value tree)

-- ---- members

named : (member : List ℕ) (tree : Data) (name : List ℕ) → name_in member tree ≡ Some name
    → is_name name ≡ true
named member tree name is = (found-passed is_name (text_in member tree) name is).1

made : (member : List ℕ) (tree : Data) (m : ℤ) → moment_in member tree ≡ Some m → is_moment m ≡ true
made member tree m is =
    (found-passed is_moment
    (option_and_then as_i64 (option_and_then as_number (get member tree))) m is).1

grouped : (format : Format) (member : List ℕ) (tree : Data) (its : Inner)
    → inner_in format member tree ≡ Some its → is_valid_inner its ≡ true
grouped format member tree its is =
    let found =
    and_then-found (λ value. option_and_then inner_of (group_texts format value))
    (get member tree) its is in
    valid-read format found.0 its found.2

said : (format : Format) (member : List ℕ) (tree : Data) (its : Inner)
    → inner_in format member tree ≡ Some its → can_say format its ≡ true
said format member tree its is =
    let found =
    and_then-found (λ value. option_and_then inner_of (group_texts format value))
    (get member tree) its is in
    said-read format found.0 its found.2

-- ---- a manifest

valid-live_manifest : (tree : Data) (live : LiveManifest) → live_manifest_in tree ≡ Ok live
    → is_valid_live_manifest live ≡ true
unfolding live_manifest_in
valid-live_manifest tree live is =
    let created = refused Bytes (moment_in (codes "created") tree) _ live is in
    let value = refused Bytes (tree_in tree) _ live created.2 in
    let sheet = refused Bytes (result_ok (manifest_of value.0)) _ live value.2 in
    let its_tree = found-passed is_tree (get (codes "tree") tree) value.0 value.1 in
    ap is_valid_live_manifest (sym (same_Ok {E = RowError} _ live sheet.2))
    ∙ and_from _ _ (and_from _ _ (made (codes "created") tree created.0 created.1)
    (any-passed is_moment
    (option_and_then as_i64 (option_and_then as_number (get (codes "modified") tree)))))
    (sheet-of value.0 sheet.0 its_tree.1 (ok-found (manifest_of value.0) sheet.0 sheet.1))

valid-if_live : (tree : Data) (flag : Bool) (live : Option LiveManifest)
    → manifest_if_live flag tree ≡ Ok live → if_any is_valid_live_manifest live ≡ true
valid-if_live tree false live is =
    ap (if_any is_valid_live_manifest) (sym (same_Ok {E = RowError} None live is))
valid-if_live tree true live is =
    let read = was_read (live_manifest_in tree) (λ live. Ok (Some live)) live is in
    ap (if_any is_valid_live_manifest) (sym (same_Ok {E = RowError} (Some read.0) live read.2))
    ∙ valid-live_manifest tree read.0 read.1

module _ (tree : Data) (row : ManifestState) where
  valid-manifest_named : (name : List ℕ) (version : ℕ) → is_name name ≡ true
      → is_number version ≡ true → manifest_named name version tree ≡ Ok row
      → is_valid_manifest_row row ≡ true
  unfolding manifest_named is_valid_manifest_row
  valid-manifest_named name version its numbered is =
      let group = refused Bytes (manifest_group_in tree) _ row is in
      let flag =
      refused Bytes (flag_in tree)
      (λ flag. then_read (manifest_if_live flag tree)
      (λ live. Ok (record { name = name; version = version; group = group.0; live = live }))) row
      group.2 in
      let live =
      was_read (manifest_if_live flag.0 tree)
      (λ live. Ok (record { name = name; version = version; group = group.0; live = live }))
      row flag.2 in
      ap is_valid_manifest_row (sym
      (same_Ok {E = RowError}
      (record { name = name; version = version; group = group.0; live = live.0 }) row live.2))
      ∙ and_from _ _ (and_from _ _ (and_from _ _ its numbered)
      (found-passed is_manifest_group (group_in (codes "group") tree) group.0 group.1).1)
      (valid-if_live tree flag.0 live.0 live.1)

  valid-manifest_row : manifest_row_in tree ≡ Ok row → is_valid_manifest_row row ≡ true
  unfolding manifest_row_in
  valid-manifest_row is =
      let name = refused Bytes (name_in (codes "name") tree) _ row is in
      let version = refused Bytes (version_in tree) _ row name.2 in
      valid-manifest_named name.0 version.0 (named (codes "name") tree name.0 name.1)
      (found-passed is_number (number_in tree) version.0 version.1).1 version.2

-- ---- an annotation

module _ (format : Format) (tree : Data) (whole : is_whole tree ≡ true) where
  valid-live_on : (manifest : List ℕ) (group : Inner) (creator : List ℕ) (live : LiveNote)
      → is_name manifest ≡ true → is_valid_inner group ≡ true → is_iri creator ≡ true
      → live_note_on manifest group creator tree ≡ Ok live → is_valid_live_note live ≡ true
  unfolding live_note_on
  valid-live_on manifest group creator live on its written is =
      let created = refused Bytes (moment_in (codes "created") tree) _ live is in
      let value = refused Bytes (tree_in tree) _ live created.2 in
      let note = refused Bytes (result_ok (note_of value.0)) _ live value.2 in
      let its_tree = found-passed is_tree (get (codes "tree") tree) value.0 value.1 in
      ap is_valid_live_note (sym (same_Ok {E = RowError} _ live note.2))
      ∙ and_from _ _ (and_from _ _
      (and_from _ _ (and_from _ _ (and_from _ _ on its) written)
      (made (codes "created") tree created.0 created.1))
      (any-passed is_moment
      (option_and_then as_i64 (option_and_then as_number (get (codes "modified") tree)))))
      (note-of value.0 note.0 its_tree.1 (ok-found (note_of value.0) note.0 note.1))

  valid-live_note : (live : LiveNote) → live_note_in format tree ≡ Ok live
      → is_valid_live_note live ≡ true
  unfolding live_note_in
  valid-live_note live is =
      let manifest = refused Bytes (name_in (codes "manifest") tree) _ live is in
      let group = refused Bytes (inner_in format (inner_name format) tree) _ live manifest.2 in
      let creator = refused Bytes (creator_in tree) _ live group.2 in
      let user = found-passed is_user (text_in (codes "creator") tree) creator.0 creator.1 in
      valid-live_on manifest.0 group.0 creator.0 live
      (named (codes "manifest") tree manifest.0 manifest.1)
      (grouped format (inner_name format) tree group.0 group.1)
      (and_from _ _ user.1 (text-utf8 (codes "creator") tree creator.0 whole user.0)) creator.2

  valid-live_named : (owner name : List ℕ) (row : NoteState) → is_name owner ≡ true
      → is_name name ≡ true → live_note_named format owner name tree ≡ Ok row
      → is_valid_note_row row ≡ true
  unfolding live_note_named is_valid_note_row
  valid-live_named owner name row owned its is =
      let version = refused Bytes (version_in tree) _ row is in
      let live =
      was_read (live_note_in format tree)
      (λ live. Ok (record { owner = owner; name = name; version = version.0; live = Some live }))
      row version.2 in
      ap is_valid_note_row (sym
      (same_Ok {E = RowError}
      (record { owner = owner; name = name; version = version.0; live = Some live.0 }) row live.2))
      ∙ and_from _ _ (and_from _ _ (and_from _ _ owned its)
      (found-passed is_number (number_in tree) version.0 version.1).1)
      (valid-live_note live.0 live.1)

  valid-tombstone_named : (owner name : List ℕ) (row : NoteState) → is_name owner ≡ true
      → is_name name ≡ true → note_tombstone_named owner name tree ≡ Ok row
      → is_valid_note_row row ≡ true
  unfolding note_tombstone_named is_valid_note_row
  valid-tombstone_named owner name row owned its is =
      let version = refused Bytes (tombstone_version_in tree) _ row is in
      ap is_valid_note_row (sym
      (same_Ok {E = RowError}
      (record { owner = owner; name = name; version = version.0; live = None }) row version.2))
      ∙ and_from _ _ (and_from _ _ (and_from _ _ owned its)
      (found-passed is_tombstone_number (number_in tree) version.0 version.1).1) refl

  valid-note_named : (owner name : List ℕ) (live : Bool) (row : NoteState) → is_name owner ≡ true
      → is_name name ≡ true → note_named format owner name live tree ≡ Ok row
      → is_valid_note_row row ≡ true
  valid-note_named owner name true row owned its is = valid-live_named owner name row owned its is
  valid-note_named owner name false row owned its is =
      valid-tombstone_named owner name row owned its is

  valid-note_row : (row : NoteState) → note_row_in format tree ≡ Ok row
      → is_valid_note_row row ≡ true
  unfolding note_row_in
  valid-note_row row is =
      let owner = refused Bytes (name_in (codes "owner") tree) _ row is in
      let name = refused Bytes (name_in (codes "name") tree) _ row owner.2 in
      let live =
      refused Bytes (flag_in tree) (λ live. note_named format owner.0 name.0 live tree)
      row name.2 in
      valid-note_named owner.0 name.0 live.0 row (named (codes "owner") tree owner.0 owner.1)
      (named (codes "name") tree name.0 name.1) live.2

-- ---- an activity

pub if-ok : {A E : Type 0} (b : Bool) (x y : A) (e : E) → (if b then Ok x else Err e) ≡ Ok y
    → (x ≡ y) × (b ≡ true)
if-ok true x y e is = (same_Ok x y is, refl)
if-ok false x y e is = absurd (cc)

valid-audience : (format : Format) (owner : Option (List ℕ)) (tree : Data) (audience : Audience)
    → audience_of format owner tree ≡ Ok audience → is_valid_audience owner audience ≡ true
unfolding audience_of audience_with
valid-audience format owner tree audience is =
    let inner = refused Bytes (inner_in format (codes "inner") tree) _ audience is in
    let outer = refused Bytes (group_in (codes "outer") tree) _ audience inner.2 in
    let its : Audience =
    record { outer = outer.0; inner = inner.0; owner = name_in (codes "owner") tree } in
    let both = if-ok (is_valid_audience owner its) its audience Bytes outer.2 in
    subst (λ a. is_valid_audience owner a ≡ true) both.0 both.1

valid-audience_if : (format : Format) (owner : Option (List ℕ)) (found : Option Data)
    (audience : Option Audience) → audience_if format owner found ≡ Ok audience
    → if_any (is_valid_audience owner) audience ≡ true
valid-audience_if format owner None audience is =
    ap (if_any (is_valid_audience owner)) (sym (same_Ok {E = RowError} None audience is))
valid-audience_if format owner (Some tree) audience is =
    let read =
    was_read (audience_of format owner tree) (λ audience. Ok (Some audience)) audience is in
    ap (if_any (is_valid_audience owner))
    (sym (same_Ok {E = RowError} (Some read.0) audience read.2))
    ∙ valid-audience format owner tree read.0 read.1

module _ (format : Format) (tree : Data) (a : Activity) where
  valid-on : (at : ℤ) (owner : Option (List ℕ)) (name : List ℕ) → is_moment at ≡ true
      → if_any is_name owner ≡ true → is_name name ≡ true
      → activity_on format at owner name tree ≡ Ok a
      → is_valid_activity a ≡ true
  unfolding activity_on is_valid_activity
  valid-on at owner name when owned its is =
      let before = was_read (audience_if format owner (get (codes "before") tree)) _ a is in
      let after = was_read (audience_if format owner (get (codes "after") tree)) _ a before.2 in
      let act : Activity = record {
        at = at;
        by = name_in (codes "by") tree;
        owner = owner;
        name = name;
        before = before.0;
        after = after.0;
      } in
      let both = if-ok (is_some before.0 || is_some after.0) act a Bytes after.2 in
      ap is_valid_activity (sym both.0)
      ∙ and_from _ _ (and_from _ _
      (and_from _ _ (and_from _ _
      (and_from _ _ (and_from _ _ when (any-passed is_name (text_in (codes "by") tree))) owned) its)
      (valid-audience_if format owner (get (codes "before") tree) before.0 before.1))
      (valid-audience_if format owner (get (codes "after") tree) after.0 after.1)) both.1

  valid-activity : activity_in format tree ≡ Ok a → is_valid_activity a ≡ true
  unfolding activity_in
  valid-activity is =
      let at = refused Bytes (moment_in (codes "at") tree) _ a is in
      let name = refused Bytes (name_in (codes "name") tree) _ a at.2 in
      valid-on at.0 (name_in (codes "owner") tree) name.0
      (made (codes "at") tree at.0 at.1) (any-passed is_name (text_in (codes "owner") tree))
      (named (codes "name") tree name.0 name.1) name.2

-- ---- what the format can say

module _ (format : Format) (tree : Data) where
  said-on : (manifest : List ℕ) (group : Inner) (creator : List ℕ) (live : LiveNote)
      → live_note_on manifest group creator tree ≡ Ok live → group ≡ live.group
  unfolding live_note_on
  said-on manifest group creator live is =
      let created = refused Bytes (moment_in (codes "created") tree) _ live is in
      let value = refused Bytes (tree_in tree) _ live created.2 in
      let note = refused Bytes (result_ok (note_of value.0)) _ live value.2 in
      ap (λ (l : LiveNote). l.group) (same_Ok {E = RowError} _ live note.2)

  said-live : (live : LiveNote) → live_note_in format tree ≡ Ok live
      → can_say format live.group ≡ true
  unfolding live_note_in
  said-live live is =
      let manifest = refused Bytes (name_in (codes "manifest") tree) _ live is in
      let group = refused Bytes (inner_in format (inner_name format) tree) _ live manifest.2 in
      let creator = refused Bytes (creator_in tree) _ live group.2 in
      ap (can_say format) (sym (said-on manifest.0 group.0 creator.0 live creator.2))
      ∙ said format (inner_name format) tree group.0 group.1

  abbrev CanNote : NoteState → Type 0
  CanNote row = row_can format (kept.Note row) ≡ true

  said-named : (owner name : List ℕ) (live : Bool) (row : NoteState)
      → note_named format owner name live tree ≡ Ok row → CanNote row
  unfolding live_note_named note_tombstone_named
  said-named owner name true row is =
      let version = refused Bytes (version_in tree) _ row is in
      let live =
      was_read (live_note_in format tree)
      (λ live. Ok (record { owner = owner; name = name; version = version.0; live = Some live }))
      row version.2 in
      subst CanNote (same_Ok {E = RowError}
      (record { owner = owner; name = name; version = version.0; live = Some live.0 }) row live.2)
      (said-live live.0 live.1)
  said-named owner name false row is =
      let version = refused Bytes (tombstone_version_in tree) _ row is in
      subst CanNote (same_Ok {E = RowError}
      (record { owner = owner; name = name; version = version.0; live = None }) row version.2) refl

  said-note_row : (row : NoteState) → note_row_in format tree ≡ Ok row → CanNote row
  unfolding note_row_in
  said-note_row row is =
      let owner = refused Bytes (name_in (codes "owner") tree) _ row is in
      let name = refused Bytes (name_in (codes "name") tree) _ row owner.2 in
      let live =
      refused Bytes (flag_in tree) (λ live. note_named format owner.0 name.0 live tree)
      row name.2 in
      said-named owner.0 name.0 live.0 row live.2

said-audience : (format : Format) (owner : Option (List ℕ)) (tree : Data) (audience : Audience)
    → audience_of format owner tree ≡ Ok audience → can_say format audience.inner ≡ true
unfolding audience_of audience_with
said-audience format owner tree audience is =
    let inner = refused Bytes (inner_in format (codes "inner") tree) _ audience is in
    let outer = refused Bytes (group_in (codes "outer") tree) _ audience inner.2 in
    let its : Audience =
    record { outer = outer.0; inner = inner.0; owner = name_in (codes "owner") tree } in
    let both = if-ok (is_valid_audience owner its) its audience Bytes outer.2 in
    subst (λ a. can_say format a.inner ≡ true) both.0
    (said format (codes "inner") tree inner.0 inner.1)

said-audience_if : (format : Format) (owner : Option (List ℕ)) (found : Option Data)
    (audience : Option Audience) → audience_if format owner found ≡ Ok audience
    → if_any (λ its. can_say format its.inner) audience ≡ true
said-audience_if format owner None audience is =
    ap (if_any (λ its. can_say format its.inner)) (sym (same_Ok {E = RowError} None audience is))
said-audience_if format owner (Some tree) audience is =
    let read =
    was_read (audience_of format owner tree) (λ audience. Ok (Some audience)) audience is in
    ap (if_any (λ its. can_say format its.inner))
    (sym (same_Ok {E = RowError} (Some read.0) audience read.2))
    ∙ said-audience format owner tree read.0 read.1

module _ (format : Format) (tree : Data) (a : Activity) where
  said-by : (at : ℤ) (owner : Option (List ℕ)) (name : List ℕ)
      → activity_on format at owner name tree ≡ Ok a → row_can format (kept.Activity a) ≡ true
  unfolding activity_on
  said-by at owner name is =
      let before = was_read (audience_if format owner (get (codes "before") tree)) _ a is in
      let after = was_read (audience_if format owner (get (codes "after") tree)) _ a before.2 in
      let act : Activity = record {
        at = at;
        by = name_in (codes "by") tree;
        owner = owner;
        name = name;
        before = before.0;
        after = after.0;
      } in
      let both = if-ok (is_some before.0 || is_some after.0) act a Bytes after.2 in
      subst (λ x. row_can format (kept.Activity x) ≡ true) both.0
      (and_from _ _ (said-audience_if format owner (get (codes "before") tree) before.0 before.1)
      (said-audience_if format owner (get (codes "after") tree) after.0 after.1))

  said-activity : activity_in format tree ≡ Ok a → row_can format (kept.Activity a) ≡ true
  unfolding activity_in
  said-activity is =
      let at = refused Bytes (moment_in (codes "at") tree) _ a is in
      let name = refused Bytes (name_in (codes "name") tree) _ a at.2 in
      said-by at.0 (name_in (codes "owner") tree) name.0 name.2

-- ---- a row

-- the row stands in the table, is valid, and the format can say it
pub record IsRow (format : Format) (tab : ℕ) (row : Row) : Type 0 where
  pub table : table_of row ≡ tab
  pub valid : is_valid_row row ≡ true
  pub can : row_can format row ≡ true

module _ (format : Format) (tab : ℕ) (tree : Data) (whole : is_whole tree ≡ true) (row : Row) where
  is_kind : {R : Type 0} (kind : R → Row) (read : Result R RowError)
      → then_read read (λ r. Ok (kind r)) ≡ Ok row
      → ((r : R) → read ≡ Ok r → IsRow format tab (kind r)) → IsRow format tab row
  is_kind kind read is each =
      let found = was_read read (λ r. Ok (kind r)) row is in
      subst (IsRow format tab) (same_Ok {E = RowError} (kind found.0) row found.2)
      (each found.0 found.1)

  is_row : row_in format tab tree ≡ Ok row → IsRow format tab row
  is_row is = elim (cases_Bool (tab == 1)) [
    | inl one ↦
        is_kind kept.Reader (reader_row_in tree) (sym (cond-true _ _ _ one) ∙ is)
        (λ r read. record {
          table = sym (eqb-true tab 1 one);
          valid = valid-reader_row tree whole r read;
          can = refl;
        })
    | inr not_one ↦
        let second = sym (cond-false _ _ _ not_one) ∙ is in
        elim (cases_Bool (tab == 2)) [
          | inl two ↦
              is_kind kept.Manifest (manifest_row_in tree) (sym (cond-true _ _ _ two) ∙ second)
              (λ r read. record {
                table = sym (eqb-true tab 2 two);
                valid = valid-manifest_row tree r read;
                can = refl;
              })
          | inr not_two ↦
              let third = sym (cond-false _ _ _ not_two) ∙ second in
              elim (cases_Bool (tab == 3)) [
                | inl three ↦
                    is_kind kept.Note (note_row_in format tree)
                    (sym (cond-true _ _ _ three) ∙ third)
                    (λ r read. record {
                      table = sym (eqb-true tab 3 three);
                      valid = valid-note_row format tree whole r read;
                      can = said-note_row format tree r read;
                    })
                | inr not_three ↦
                    let fourth = sym (cond-false _ _ _ not_three) ∙ third in
                    elim (cases_Bool (tab == 4)) [
                      | inl four ↦
                          is_kind kept.Activity (activity_in format tree)
                          (sym (cond-true _ _ _ four) ∙ fourth)
                          (λ r read. record {
                            table = sym (eqb-true tab 4 four);
                            valid = valid-activity format tree r read;
                            can = said-activity format tree r read;
                          })
                      | inr not_four ↦
                          let none : ◌≡◌ {A = Result Row RowError} (Err Table) (Ok row) =
                          sym (cond-false _ _ _ not_four) ∙ fourth in
                          absurd (cc)
                    ]
              ]
        ]
  ]

-- a row that is read is a valid one of the table, and the bytes are its text
pub row-parts : (format : Format) (tab : ℕ) (bytes : List ℕ) (row : Row)
    → row_of_text format tab bytes ≡ Ok row → IsRow format tab row × (row_text format row ≡ bytes)
unfolding row_of_text
row-parts format tab bytes row is =
    let tree = refused Bytes (result_ok (value_of bytes)) _ row is in
    let read = was_read (row_in format tab tree.0) (if_its_text format bytes) row tree.2 in
    let both = its-text format bytes read.0 row read.2 in (
      subst (IsRow format tab) both.0
          (is_row format tab tree.0 (value-whole bytes tree.0 tree.1) read.0 read.1),
      both.1,
    )

pub read-table : (format : Format) (tab : ℕ) (bytes : List ℕ) (row : Row)
    → row_of_text format tab bytes ≡ Ok row → table_of row ≡ tab
read-table format tab bytes row is = (row-parts format tab bytes row is).0.table

pub read-valid : (format : Format) (tab : ℕ) (bytes : List ℕ) (row : Row)
    → row_of_text format tab bytes ≡ Ok row → is_valid_row row ≡ true
read-valid format tab bytes row is = (row-parts format tab bytes row is).0.valid

pub read-text : (format : Format) (tab : ℕ) (bytes : List ℕ) (row : Row)
    → row_of_text format tab bytes ≡ Ok row → row_text format row ≡ bytes
read-text format tab bytes row is = (row-parts format tab bytes row is).1

pub read-said : (format : Format) (tab : ℕ) (bytes : List ℕ) (row : Row)
    → row_of_text format tab bytes ≡ Ok row → row_can format row ≡ true
read-said format tab bytes row is = (row-parts format tab bytes row is).0.can

pub ruleset read_rows = (read-table, read-valid, read-text, read-said)
