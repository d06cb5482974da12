-- What an accepted write comes to: the rows that it puts, and the activities that it adds.
use Rattle.std.specs.Prelude.{ℕ, ◌+◌, ◌-◌, ◌^◌, ℤ, int_lt, length, slice_get, map, filter, List, []}
use Rattle.std.specs.Prelude.{◌∷◌, ◌++◌, Bool, true, false, not, nat_lt, if◌then◌else◌, Option}
use Rattle.std.specs.Prelude.{Some, None, option_map, option_and_then, option_to_list, unwrap_or}
use Rattle.an_policy.specs.declared.group.Audience.{Audience}
use Rattle.an_policy.specs.declared.reader.Reader.{Reader}
use Rattle.an_policy.specs.Audience.{Identity, anonymous, operator, signed}
use Rattle.an_state.specs.Commands.{object_of, version_of}
use Rattle.an_state.specs.State.{State, ReaderState, ManifestState, NoteState, LiveNote}
use Rattle.an_state.specs.State.{reader_row, manifest_row, note_row}
use Rattle.an_machine.specs.Versions.{reader_standing, manifest_standing, note_standing}
use Rattle.an_state.specs.View.{audience_of_manifest, audience_of_note, is_on, last_moment}
use Rattle.an_state.specs.declared.activity.Activity.{Activity}
use Rattle.an_machine.specs.declared.asked.Asked.{Asked}
use Rattle.an_machine.specs.declared.asked.Asked.TheVariants.{Deletion}
use Rattle.an_machine.specs.declared.asked.Asked.TheVariants as put
use Rattle.an_machine.specs.declared.asked.ManifestPut.{ManifestPut}
use Rattle.an_machine.specs.declared.asked.NotePut.{NotePut}
use Rattle.an_state.specs.declared.command.Command.{Command}
use Rattle.an_machine.specs.declared.command.Decided.{Decided}
use Rattle.an_state.specs.declared.command.Object.{Object}
use Rattle.an_state.specs.declared.command.Object.TheVariants as object
use Rattle.an_machine.specs.declared.command.WriteReply.{WriteReply}
use Rattle.an_machine.specs.declared.effect.Effect.{Effect}
use Rattle.an_state.specs.declared.entry.Entry.{Entry}
use Rattle.an_state.specs.declared.entry.Entry.TheVariants.{Done}
use Rattle.an_state.specs.declared.entry.Row.TheVariants as kept

-- ---- when, and by whom

abbrev pub later : ℤ → ℤ → ℤ
later a b = if int_lt a b then b else a

-- a write has the given moment, but is no earlier than the last activity
abbrev pub moment_of_write : State → ℤ → ℤ
moment_of_write s moment = later moment (last_moment moment s.activities)

-- the name of who writes; the operator has none
abbrev pub by_whom : Identity → Option (List ℕ)
by_whom anonymous = None
by_whom operator = None
by_whom (signed reader) = Some reader.name

-- the IRI of who writes
abbrev pub user_of : Identity → List ℕ
user_of anonymous = []
user_of operator = []
user_of (signed reader) = reader.user

-- ---- activities (IIIF Change Discovery API 1.0): who could read the object, and who can

abbrev pub manifest_activity : Identity → ℤ → List ℕ → Option Audience → Option Audience → Activity
manifest_activity who at name before after =
    record { at = at; by = by_whom who; owner = None; name = name; before = before; after = after }

abbrev pub note_activity : Identity → ℤ → List ℕ → List ℕ → Option Audience → Option Audience
    → Activity
note_activity who at owner name before after = record {
  at = at;
  by = by_whom who;
  owner = Some owner;
  name = name;
  before = before;
  after = after;
}

-- ---- a put

-- readers make no activity
abbrev pub reader_effect : Option ReaderState → Reader → Effect
reader_effect before r = record {
  made = not (reader_standing before).live;
  rows = kept.Reader (record { name = r.name; version = r.version; live = Some r }) ∷ [];
  activities = [];
}

-- when what was live was made
abbrev pub manifest_made : Option ManifestState → Option ℤ
manifest_made before = option_and_then (λ row. option_map (λ live. live.created) row.live) before

-- what was live keeps when it was made, and is changed now
abbrev pub changed : Option ℤ → ℤ → Option ℤ
changed made at = option_map (λ made. at) made

abbrev pub put_manifest : ℤ → Option ManifestState → ManifestPut → ManifestState
put_manifest at before m = record {
  name = m.name;
  version = m.version;
  group = m.group;
  live = Some (record {
    created = unwrap_or (manifest_made before) at;
    modified = changed (manifest_made before) at;
    tree = m.sheet;
  });
}

abbrev pub manifest_effect : Identity → ℤ → Option ManifestState → ManifestPut → Effect
manifest_effect who at before m =
    let row = put_manifest at before m in
    let could = option_and_then audience_of_manifest before in
    record {
      made = not (manifest_standing before).live;
      rows = kept.Manifest row ∷ [];
      activities = manifest_activity who at m.name could (audience_of_manifest row) ∷ [];
    }

abbrev pub live_in : Option NoteState → Option LiveNote
live_in before = option_and_then (λ row. row.live) before

-- what was live keeps its creator
abbrev pub creator_of : Identity → Option LiveNote → List ℕ
creator_of who None = user_of who
creator_of who (Some before) = before.creator

abbrev pub note_made : Option NoteState → Option ℤ
note_made before = option_map (λ live. live.created) (live_in before)

abbrev pub put_note : Identity → ℤ → Option NoteState → NotePut → NoteState
put_note who at before n = record {
  owner = n.owner;
  name = n.name;
  version = n.version;
  live = Some (record {
    manifest = n.manifest;
    group = n.group;
    creator = creator_of who (live_in before);
    created = unwrap_or (note_made before) at;
    modified = changed (note_made before) at;
    tree = n.note;
  });
}

abbrev pub note_effect : State → Identity → ℤ → Option NoteState → NotePut → Effect
note_effect s who at before n =
    let row = put_note who at before n in
    let could = option_and_then (audience_of_note s) before in
    record {
      made = not (note_standing before).live;
      rows = kept.Note row ∷ [];
      activities = note_activity who at n.owner n.name could (audience_of_note s row) ∷ [];
    }

-- ---- a deletion

abbrev pub reader_tombstone : List ℕ → ℕ → ReaderState
reader_tombstone name version = record { name = name; version = version; live = None }

-- the tombstone of a manifest keeps its group
abbrev pub manifest_tombstone : List ℕ → ℕ → ManifestState → ManifestState
manifest_tombstone name version row =
    record { name = name; version = version; group = row.group; live = None }

abbrev pub note_tombstone : List ℕ → List ℕ → ℕ → NoteState
note_tombstone owner name version =
    record { owner = owner; name = name; version = version; live = None }

-- the number behind this one; at the end of the type it stands still
abbrev pub number_behind : ℕ → ℕ
number_behind version = if nat_lt version (2 ^ 32 - 1) then version + 1 else version

-- the tombstone that an annotation leaves when its manifest is deleted
abbrev pub buried : NoteState → NoteState
buried row = note_tombstone row.owner row.name (number_behind row.version)

-- the live annotations on a manifest, in their order
abbrev pub notes_on : State → List ℕ → List NoteState
notes_on s manifest = filter (is_on manifest) s.notes

-- the deletion of an annotation with its manifest
abbrev pub burial : State → Identity → ℤ → NoteState → Activity
burial s who at row = note_activity who at row.owner row.name (audience_of_note s row) None

-- the annotations on a manifest are deleted before it
abbrev pub manifest_deletion : State → Identity → ℤ → Option ManifestState → List ℕ → ℕ → Effect
manifest_deletion s who at before name version =
    let could = option_and_then audience_of_manifest before in
    let tombstone = option_map (manifest_tombstone name version) before in
    record {
      made = false;
      rows = map (λ row. kept.Note (buried row)) (notes_on s name)
          ++ option_to_list (option_map kept.Manifest tombstone);
      activities = map (burial s who at) (notes_on s name)
          ++ manifest_activity who at name could None ∷ [];
    }

abbrev pub note_deletion : State → Identity → ℤ → Option NoteState → List ℕ → List ℕ → ℕ → Effect
note_deletion s who at before owner name version =
    let could = option_and_then (audience_of_note s) before in
    record {
      made = false;
      rows = kept.Note (note_tombstone owner name version) ∷ [];
      activities = note_activity who at owner name could None ∷ [];
    }

abbrev pub deletion : State → Identity → ℤ → ℕ → Object → Effect
deletion s who at version (object.Reader name) =
    record {
      made = false;
      rows = kept.Reader (reader_tombstone name version) ∷ [];
      activities = [];
    }
deletion s who at version (object.Manifest name) =
    manifest_deletion s who at (manifest_row s name) name version
deletion s who at version (object.Note owner name) =
    note_deletion s who at (note_row s owner name) owner name version

-- ---- what is decided

-- what the next write of an object changes
abbrev pub effect_of : State → Identity → ℤ → Asked → Effect
effect_of s who at (put.Reader r) = reader_effect (reader_row s r.name) r
effect_of s who at (put.Manifest m) = manifest_effect who at (manifest_row s m.name) m
effect_of s who at (put.Note n) = note_effect s who at (note_row s n.owner n.name) n
effect_of s who at (Deletion object version) = deletion s who at version object

abbrev pub reply_to : Command → Bool → Bool → WriteReply
reply_to command made repeat = record {
  object = object_of command;
  version = version_of command;
  made = made;
  repeat = repeat;
}

-- the entry is the command with what it changes
abbrev pub entry_of : Identity → ℤ → Command → Effect → Entry
entry_of who at command effect =
    Done command at (by_whom who) effect.rows effect.activities

abbrev pub decided : Identity → ℤ → Command → Option Effect → Decided
decided who at command None = record { entry = None; reply = reply_to command false true }
decided who at command (Some effect) = record {
  entry = Some (entry_of who at command effect);
  reply = reply_to command effect.made false;
}
