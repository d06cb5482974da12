-- The rule on versions: the numbers that make a write safe to send again.
use Rattle.std.specs.Prelude.{ℕ, ◌+◌, Bool, true, false, ◌&&◌, ◌||◌, ◌==◌, not, bytes_eq, is_some}
use Rattle.std.specs.Prelude.{Option, option_map, unwrap_or}
use Rattle.std.specs.Cmp.Lexicographic.{pointwise}
use Rattle.an_base.specs.Outcome.{passes}
use Rattle.an_base.specs.Tree.{same_text}
use Rattle.an_policy.specs.Inner.{same_inner}
use Rattle.an_policy.specs.declared.reader.Reader.{Reader}
use Rattle.an_policy.specs.declared.reader.Role.{Role}
use Rattle.an_policy.specs.declared.reader.Role.TheVariants as role
use Rattle.an_machine.specs.Asked.{object_asked, version_asked, is_put}
use Rattle.an_state.specs.State.{State, ReaderState, ManifestState, NoteState}
use Rattle.an_state.specs.State.{reader_row, manifest_row, note_row}
use Rattle.an_machine.specs.declared.asked.Asked.{Asked}
use Rattle.an_machine.specs.declared.asked.Asked.TheVariants.{Deletion}
use Rattle.an_machine.specs.declared.asked.Asked.TheVariants as put
use Rattle.an_machine.specs.declared.asked.ManifestPut.{ManifestPut}
use Rattle.an_machine.specs.declared.asked.NotePut.{NotePut}
use Rattle.an_state.specs.declared.command.Object.{Object}
use Rattle.an_state.specs.declared.command.Object.TheVariants as object
use Rattle.an_machine.specs.declared.versions.Standing.{Standing}

-- ---- how an object stands

abbrev pub reader_standing : Option ReaderState → Standing
reader_standing row = record {
  version = option_map (λ r. r.version) row;
  live = passes (λ r. is_some r.live) row;
}

abbrev pub manifest_standing : Option ManifestState → Standing
manifest_standing row = record {
  version = option_map (λ r. r.version) row;
  live = passes (λ r. is_some r.live) row;
}

abbrev pub note_standing : Option NoteState → Standing
note_standing row = record {
  version = option_map (λ r. r.version) row;
  live = passes (λ r. is_some r.live) row;
}

abbrev pub standing : State → Object → Standing
standing s (object.Reader name) = reader_standing (reader_row s name)
standing s (object.Manifest name) = manifest_standing (manifest_row s name)
standing s (object.Note owner name) = note_standing (note_row s owner name)

-- the number that is current: 0 without a row
abbrev pub current : Standing → ℕ
current standing = unwrap_or standing.version 0

-- the object was deleted
abbrev pub is_tombstone : Standing → Bool
is_tombstone standing = is_some standing.version && not standing.live

-- the number of the last write on an object: 0 where nothing was written
abbrev pub number_of : State → Object → ℕ
number_of s object = current (standing s object)

-- ---- equal content

abbrev pub same_role : Role → Role → Bool
same_role role.Reader other =
    elim other [ role.Reader ↦ true | role.Writer ↦ false | role.Curator ↦ false ]
same_role role.Writer other =
    elim other [ role.Reader ↦ false | role.Writer ↦ true | role.Curator ↦ false ]
same_role role.Curator other =
    elim other [ role.Reader ↦ false | role.Writer ↦ false | role.Curator ↦ true ]

-- two readers have the same token, role, user and list of groups
abbrev pub same_reader : Reader → Reader → Bool
same_reader a b =
    bytes_eq a.token b.token
    && same_role a.role b.role
    && bytes_eq a.user b.user
    && pointwise bytes_eq a.groups b.groups

-- the row is live with what is put
abbrev pub holds_reader : Reader → ReaderState → Bool
holds_reader reader row = passes (λ live. same_reader live reader) row.live

abbrev pub holds_manifest : ManifestPut → ManifestState → Bool
holds_manifest m row = passes (λ live. same_text live.tree m.sheet) row.live

abbrev pub holds_note : NotePut → NoteState → Bool
holds_note n row = passes (λ live.
    bytes_eq live.manifest n.manifest
    && same_inner live.group n.group
    && same_text live.tree n.note) row.live

-- what is asked for is so already
abbrev pub is_done : State → Asked → Bool
is_done s (put.Reader r) = passes (holds_reader r) (reader_row s r.name)
is_done s (put.Manifest m) = passes (holds_manifest m) (manifest_row s m.name)
is_done s (put.Note n) = passes (holds_note n) (note_row s n.owner n.name)
is_done s (Deletion object version) = is_tombstone (standing s object)

-- ---- the rule

-- A write is the next of its object where its number is the one behind the current number. Only
-- what is live is deleted.
abbrev pub is_next : State → Asked → Bool
is_next s asked =
    (is_put asked || (standing s (object_asked asked)).live)
    && (version_asked asked == number_of s (object_asked asked) + 1)

-- it was done already where its number is the current one, and what it asks for is so
abbrev pub is_repeat : State → Asked → Bool
is_repeat s asked =
    (version_asked asked == number_of s (object_asked asked)) && is_done s asked
