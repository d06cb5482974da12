-- The row that bytes are: its members are read, and then the text of what was read has to be the
-- bytes. So white space, another order, and members that are missing, doubled or further need no
-- rule of their own.
use Rattle.std.specs.Prelude.{ℕ, ◌^◌, ℤ, List, Bool, true, false, ◌&&◌, ◌||◌, ◌==◌, not, nat_le}
use Rattle.std.specs.Prelude.{nat_lt, if◌then◌else◌, bytes_eq, codes, is_some, Option, Some, None}
use Rattle.std.specs.Prelude.{option_and_then, Result, Ok, Err}
use Rattle.std.specs.Result.{result_ok}
use Rattle.serde_json.specs.Data.{Data}
use Rattle.serde_json.specs.Find.{get, as_bool, as_number, as_u64, as_i64}
use Rattle.an_base.specs.Member.{text_in}
use Rattle.an_base.specs.Moment.{is_moment}
use Rattle.an_base.specs.Name.{is_name}
use Rattle.an_base.specs.Outcome.{only_if, or_refuse}
use Rattle.an_base.specs.Tree.{is_tree}
use Rattle.an_base.specs.Value.{value_of}
use Rattle.an_manifest.specs.Manifest.{manifest_of}
use Rattle.an_model.specs.Note.{note_of}
use Rattle.an_policy.specs.Group.{group_named}
use Rattle.an_policy.specs.Reader.{is_user, reader_of}
use Rattle.an_policy.specs.declared.group.Audience.{Audience}
use Rattle.an_policy.specs.declared.group.Group.{Group}
use Rattle.an_state.specs.Commands.{is_number}
use Rattle.an_state.specs.State.{ReaderState, ManifestState, LiveManifest, NoteState, LiveNote}
use Rattle.an_state.specs.declared.activity.Activity.{Activity}
use Rattle.an_state.specs.declared.entry.Row.{Row}
use Rattle.an_state.specs.declared.entry.Row.TheVariants as kept
use Rattle.an_rows.specs.Format.{inner_in, inner_name}
use Rattle.an_rows.specs.RowTree.{row_text}
use Rattle.an_rows.specs.declared.format.Format.{Format}
use Rattle.an_policy.specs.declared.inner.Inner.{Inner}
use Rattle.an_rows.specs.Valid.{is_tombstone_number, is_manifest_group, is_valid_audience}
use Rattle.an_rows.specs.declared.refusal.RowError.{RowError}
use Rattle.an_rows.specs.declared.refusal.RowError.TheVariants.{Table, Key, Bytes}

-- what comes of what was read, or why it couldn't be
abbrev pub then_read : {A B : Type 0} → Result A RowError → (A → Result B RowError)
    → Result B RowError
then_read (Ok value) next = next value
then_read (Err refusal) next = Err refusal

-- ---- members

abbrev pub name_in : List ℕ → Data → Option (List ℕ)
name_in member tree = option_and_then (only_if is_name) (text_in member tree)

abbrev pub flag_in : Data → Option Bool
flag_in tree = option_and_then as_bool (get (codes "live") tree)

abbrev pub number_in : Data → Option ℕ
number_in tree = option_and_then as_u64 (option_and_then as_number (get (codes "version") tree))

abbrev pub version_in : Data → Option ℕ
version_in tree = option_and_then (only_if is_number) (number_in tree)

abbrev pub tombstone_version_in : Data → Option ℕ
tombstone_version_in tree = option_and_then (only_if is_tombstone_number) (number_in tree)

abbrev pub moment_in : List ℕ → Data → Option ℤ
moment_in member tree =
    option_and_then (only_if is_moment)
    (option_and_then as_i64 (option_and_then as_number (get member tree)))

abbrev pub group_in : List ℕ → Data → Option Group
group_in member tree = option_and_then group_named (text_in member tree)

abbrev pub manifest_group_in : Data → Option Group
manifest_group_in tree = option_and_then (only_if is_manifest_group) (group_in (codes "group") tree)

abbrev pub creator_in : Data → Option (List ℕ)
creator_in tree = option_and_then (only_if is_user) (text_in (codes "creator") tree)

-- the tree in the row
abbrev pub tree_in : Data → Option Data
tree_in tree = option_and_then (only_if is_tree) (get (codes "tree") tree)

-- ---- a reader

abbrev pub live_reader_in : List ℕ → ℕ → Data → Result ReaderState RowError
live_reader_in name version tree =
    or_refuse Bytes (result_ok (reader_of tree name version)) (λ reader.
    Ok (record { name = name; version = version; live = Some reader }))

abbrev pub reader_named : List ℕ → ℕ → Bool → Data → Result ReaderState RowError
reader_named name version true tree = live_reader_in name version tree
reader_named name version false tree =
    Ok (record { name = name; version = version; live = None })

unfoldable pub reader_row_in : Data → Result ReaderState RowError
reader_row_in tree =
    or_refuse Bytes (name_in (codes "name") tree) (λ name.
    or_refuse Bytes (version_in tree) (λ version.
    or_refuse Bytes (flag_in tree) (λ live.
    reader_named name version live tree)))

-- ---- a manifest

unfoldable pub live_manifest_in : Data → Result LiveManifest RowError
live_manifest_in tree =
    or_refuse Bytes (moment_in (codes "created") tree) (λ created.
    or_refuse Bytes (tree_in tree) (λ value.
    or_refuse Bytes (result_ok (manifest_of value)) (λ sheet.
    Ok (record {
      created = created;
      modified = moment_in (codes "modified") tree;
      tree = sheet;
    }))))

abbrev pub manifest_if_live : Bool → Data → Result (Option LiveManifest) RowError
manifest_if_live false tree = Ok None
manifest_if_live true tree = then_read (live_manifest_in tree) (λ live. Ok (Some live))

unfoldable pub manifest_named : List ℕ → ℕ → Data → Result ManifestState RowError
manifest_named name version tree =
    or_refuse Bytes (manifest_group_in tree) (λ group.
    or_refuse Bytes (flag_in tree) (λ flag.
    then_read (manifest_if_live flag tree) (λ live.
    Ok (record { name = name; version = version; group = group; live = live }))))

unfoldable pub manifest_row_in : Data → Result ManifestState RowError
manifest_row_in tree =
    or_refuse Bytes (name_in (codes "name") tree) (λ name.
    or_refuse Bytes (version_in tree) (λ version.
    manifest_named name version tree))

-- ---- an annotation

-- a live one, whose manifest, group and creator are read
unfoldable pub live_note_on : List ℕ → Inner → List ℕ → Data → Result LiveNote RowError
live_note_on manifest group creator tree =
    or_refuse Bytes (moment_in (codes "created") tree) (λ created.
    or_refuse Bytes (tree_in tree) (λ value.
    or_refuse Bytes (result_ok (note_of value)) (λ note.
    Ok (record {
      manifest = manifest;
      group = group;
      creator = creator;
      created = created;
      modified = moment_in (codes "modified") tree;
      tree = note;
    }))))

unfoldable pub live_note_in : Format → Data → Result LiveNote RowError
live_note_in format tree =
    or_refuse Bytes (name_in (codes "manifest") tree) (λ manifest.
    or_refuse Bytes (inner_in format (inner_name format) tree) (λ group.
    or_refuse Bytes (creator_in tree) (λ creator.
    live_note_on manifest group creator tree)))

unfoldable pub live_note_named : Format → List ℕ → List ℕ → Data → Result NoteState RowError
live_note_named format owner name tree =
    or_refuse Bytes (version_in tree) (λ version.
    then_read (live_note_in format tree) (λ live.
    Ok (record { owner = owner; name = name; version = version; live = Some live })))

unfoldable pub note_tombstone_named : List ℕ → List ℕ → Data → Result NoteState RowError
note_tombstone_named owner name tree =
    or_refuse Bytes (tombstone_version_in tree) (λ version.
    Ok (record { owner = owner; name = name; version = version; live = None }))

abbrev pub note_named : Format → List ℕ → List ℕ → Bool → Data → Result NoteState RowError
note_named format owner name true tree = live_note_named format owner name tree
note_named format owner name false tree = note_tombstone_named owner name tree

unfoldable pub note_row_in : Format → Data → Result NoteState RowError
note_row_in format tree =
    or_refuse Bytes (name_in (codes "owner") tree) (λ owner.
    or_refuse Bytes (name_in (codes "name") tree) (λ name.
    or_refuse Bytes (flag_in tree) (λ live.
    note_named format owner name live tree)))

-- ---- an activity

abbrev pub if_audience : Option (List ℕ) → Audience → Result Audience RowError
if_audience owner audience = if is_valid_audience owner audience then Ok audience else Err Bytes

-- the audience that a value is whose inner groups are read
unfoldable pub audience_with : Option (List ℕ) → Inner → Data → Result Audience RowError
audience_with owner inner tree =
    or_refuse Bytes (group_in (codes "outer") tree) (λ outer.
    if_audience owner (record {
      outer = outer;
      inner = inner;
      owner = name_in (codes "owner") tree;
    }))

unfoldable pub audience_of : Format → Option (List ℕ) → Data → Result Audience RowError
audience_of format owner tree =
    or_refuse Bytes (inner_in format (codes "inner") tree) (λ inner.
    audience_with owner inner tree)

-- the audience that a member is, where it stands there
abbrev pub audience_if : Format → Option (List ℕ) → Option Data
    → Result (Option Audience) RowError
audience_if format owner None = Ok None
audience_if format owner (Some tree) =
    then_read (audience_of format owner tree) (λ audience. Ok (Some audience))

-- somebody could read the object before, or can after
abbrev pub if_seen : Activity → Result Activity RowError
if_seen activity =
    if is_some activity.before || is_some activity.after then Ok activity else Err Bytes

-- of what has this owner, if any, and this name
unfoldable pub activity_on : Format → ℤ → Option (List ℕ) → List ℕ → Data
    → Result Activity RowError
activity_on format at owner name tree =
    then_read (audience_if format owner (get (codes "before") tree)) (λ before.
    then_read (audience_if format owner (get (codes "after") tree)) (λ after.
    if_seen (record {
      at = at;
      by = name_in (codes "by") tree;
      owner = owner;
      name = name;
      before = before;
      after = after;
    })))

unfoldable pub activity_in : Format → Data → Result Activity RowError
activity_in format tree =
    or_refuse Bytes (moment_in (codes "at") tree) (λ at.
    or_refuse Bytes (name_in (codes "name") tree) (λ name.
    activity_on format at (name_in (codes "owner") tree) name tree))

-- ---- a row

-- the row of a table that a value says
abbrev pub row_in : Format → ℕ → Data → Result Row RowError
row_in format tab tree =
    if tab == 1 then then_read (reader_row_in tree) (λ row. Ok (kept.Reader row))
    else (if tab == 2 then then_read (manifest_row_in tree) (λ row. Ok (kept.Manifest row))
    else (if tab == 3 then then_read (note_row_in format tree) (λ row. Ok (kept.Note row))
    else (if tab == 4 then then_read (activity_in format tree) (λ row. Ok (kept.Activity row))
    else Err Table)))

abbrev pub if_its_text : Format → List ℕ → Row → Result Row RowError
if_its_text format bytes row = if bytes_eq (row_text format row) bytes then Ok row else Err Bytes

-- the row of a table whose text bytes are
unfoldable pub row_of_text : Format → ℕ → List ℕ → Result Row RowError
row_of_text format tab bytes =
    or_refuse Bytes (result_ok (value_of bytes)) (λ tree.
    then_read (row_in format tab tree) (λ row.
    if_its_text format bytes row))

abbrev pub is_table : ℕ → Bool
is_table tab = nat_le 1 tab && nat_le tab 4

abbrev pub is_place : ℕ → Bool
is_place key = nat_lt key (2 ^ 62)

-- the row of a cell, or the first refusal
unfoldable pub row_of_cell : Format → ℕ → ℕ → List ℕ → Result Row RowError
row_of_cell format tab key bytes =
    if not (is_table tab) then Err Table
    else (if not (is_place key) then Err Key
    else row_of_text format tab bytes)
