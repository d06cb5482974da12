-- The one text of a row: its JSON value, compact, with the members ascending.
use Rattle.std.specs.Prelude.{ℕ, ℤ, List, [], ◌∷◌, Bool, true, false, codes, Option, Some, None}
use Rattle.std.specs.Prelude.{option_map}
use Rattle.serde_json.specs.Data.{Data, boolean, number, string, array, object, unsigned, Items}
use Rattle.serde_json.specs.Data.{no_items, item, Members, no_members, member}
use Rattle.serde_json.specs.Find.{of_integer}
use Rattle.serde_json.specs.Written.{compact_text}
use Rattle.an_policy.specs.Group.{group_text}
pub use Rattle.an_rows.specs.Format.{text_items}
use Rattle.an_rows.specs.Format.{inner_name, inner_tree}
use Rattle.an_rows.specs.declared.format.Format.{Format}
use Rattle.an_policy.specs.declared.group.Audience.{Audience}
use Rattle.an_policy.specs.declared.reader.Reader.{Reader}
use Rattle.an_policy.specs.declared.reader.Role.{Role}
use Rattle.an_policy.specs.declared.reader.Role.TheVariants as role
use Rattle.an_state.specs.State.{ReaderState, ManifestState, LiveManifest, NoteState, LiveNote}
use Rattle.an_state.specs.declared.activity.Activity.{Activity}
use Rattle.an_state.specs.declared.entry.Row.{Row}
use Rattle.an_state.specs.declared.entry.Row.TheVariants as kept

-- ---- tables

-- the number of the table that a row stands in
abbrev pub table_of : Row → ℕ
table_of (kept.Reader row) = 1
table_of (kept.Manifest row) = 2
table_of (kept.Note row) = 3
table_of (kept.Activity row) = 4

-- ---- members

abbrev pub text_member : List ℕ → List ℕ → Members → Members
text_member name text others = member name (string text) others

abbrev pub flag_member : Bool → Members → Members
flag_member live others = member (codes "live") (boolean live) others

abbrev pub version_member : ℕ → Members
version_member version = member (codes "version") (number (unsigned version)) no_members

abbrev pub moment_tree : ℤ → Data
moment_tree moment = number (of_integer moment)

-- a member that stands there where it has a value
abbrev pub given : List ℕ → Option Data → Members → Members
given name None others = others
given name (Some value) others = member name value others

-- ---- a reader

abbrev pub role_text : Role → List ℕ
role_text role.Reader = codes "reader"
role_text role.Writer = codes "writer"
role_text role.Curator = codes "curator"

unfoldable pub live_reader_members : ReaderState → Reader → Members
live_reader_members row reader =
    member (codes "groups") (array (text_items reader.groups))
    (flag_member true
    (text_member (codes "name") row.name
    (text_member (codes "role") (role_text reader.role)
    (text_member (codes "token") reader.token
    (text_member (codes "user") reader.user
    (version_member row.version))))))

unfoldable pub reader_tombstone_members : ReaderState → Members
reader_tombstone_members row =
    flag_member false (text_member (codes "name") row.name (version_member row.version))

abbrev pub reader_members : ReaderState → Members
reader_members row = elim row.live [
  | None ↦ reader_tombstone_members row
  | Some reader ↦ live_reader_members row reader
]

-- ---- a manifest

unfoldable pub live_manifest_members : ManifestState → LiveManifest → Members
live_manifest_members row live =
    member (codes "created") (moment_tree live.created)
    (text_member (codes "group") (group_text row.group)
    (flag_member true
    (given (codes "modified") (option_map moment_tree live.modified)
    (text_member (codes "name") row.name
    (member (codes "tree") live.tree
    (version_member row.version))))))

unfoldable pub manifest_tombstone_members : ManifestState → Members
manifest_tombstone_members row =
    text_member (codes "group") (group_text row.group)
    (flag_member false
    (text_member (codes "name") row.name
    (version_member row.version)))

abbrev pub manifest_members : ManifestState → Members
manifest_members row = elim row.live [
  | None ↦ manifest_tombstone_members row
  | Some live ↦ live_manifest_members row live
]

-- ---- an annotation

-- the members of a live one from the owner's on
unfoldable pub live_note_ending : NoteState → LiveNote → Members
live_note_ending row live =
    text_member (codes "owner") row.owner
    (member (codes "tree") live.tree
    (version_member row.version))

unfoldable pub live_note_members : Format → NoteState → LiveNote → Members
live_note_members format row live =
    member (codes "created") (moment_tree live.created)
    (text_member (codes "creator") live.creator
    (member (inner_name format) (inner_tree format live.group)
    (flag_member true
    (text_member (codes "manifest") live.manifest
    (given (codes "modified") (option_map moment_tree live.modified)
    (text_member (codes "name") row.name
    (live_note_ending row live)))))))

unfoldable pub note_tombstone_members : NoteState → Members
note_tombstone_members row =
    flag_member false
    (text_member (codes "name") row.name
    (text_member (codes "owner") row.owner
    (version_member row.version)))

abbrev pub note_members : Format → NoteState → Members
note_members format row = elim row.live [
  | None ↦ note_tombstone_members row
  | Some live ↦ live_note_members format row live
]

-- ---- an activity

unfoldable pub audience_tree : Format → Audience → Data
audience_tree format audience = object
    (member (codes "inner") (inner_tree format audience.inner)
    (text_member (codes "outer") (group_text audience.outer)
    (given (codes "owner") (option_map string audience.owner) no_members)))

-- who did it; the operator has no name
abbrev pub by_text : Option (List ℕ) → List ℕ
by_text None = codes "-"
by_text (Some name) = name

unfoldable pub activity_members : Format → Activity → Members
activity_members format activity =
    given (codes "after") (option_map (audience_tree format) activity.after)
    (member (codes "at") (moment_tree activity.at)
    (given (codes "before") (option_map (audience_tree format) activity.before)
    (text_member (codes "by") (by_text activity.by)
    (text_member (codes "name") activity.name
    (given (codes "owner") (option_map string activity.owner) no_members)))))

-- ---- a row

abbrev pub row_members : Format → Row → Members
row_members format (kept.Reader row) = reader_members row
row_members format (kept.Manifest row) = manifest_members row
row_members format (kept.Note row) = note_members format row
row_members format (kept.Activity row) = activity_members format row

abbrev pub row_tree : Format → Row → Data
row_tree format row = object (row_members format row)

unfoldable pub row_text : Format → Row → List ℕ
row_text format row = compact_text (row_tree format row)
