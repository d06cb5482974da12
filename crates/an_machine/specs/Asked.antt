-- What a command asks for, once its tree is read.
use Rattle.std.specs.Prelude.{ℕ, List, Bool, true, false, if◌then◌else◌, Option, Some, None, Result}
use Rattle.std.specs.Prelude.{Ok, Err}
use Rattle.std.specs.Result.{result_map_both}
use Rattle.serde_json.specs.Data.{Data}
use Rattle.an_manifest.specs.Manifest.{manifest_of}
use Rattle.an_manifest.specs.declared.sheet.SheetError.{SheetError}
use Rattle.an_manifest.specs.declared.sheet.SheetError.TheVariants as sheet
use Rattle.an_model.specs.Note.{note_of}
use Rattle.an_model.specs.declared.refusal.NoteError.{NoteError}
use Rattle.an_model.specs.declared.refusal.NoteError.TheVariants as note
use Rattle.an_policy.specs.Group.{is_private}
use Rattle.an_policy.specs.declared.group.Group.{Group}
use Rattle.an_policy.specs.declared.inner.Inner.{Inner}
use Rattle.an_policy.specs.declared.reader.ReaderError.{ReaderError}
use Rattle.an_policy.specs.declared.reader.ReaderError.TheVariants as error
use Rattle.an_policy.specs.Reader.{reader_of}
use Rattle.an_machine.specs.declared.asked.Asked.{Asked}
use Rattle.an_machine.specs.declared.asked.Asked.TheVariants.{Deletion}
use Rattle.an_machine.specs.declared.asked.Asked.TheVariants as put
use Rattle.an_state.specs.declared.command.Command.{Command}
use Rattle.an_state.specs.declared.command.Command.TheVariants.{PutReader, DropReader}
use Rattle.an_state.specs.declared.command.Command.TheVariants.{PutManifest, DropManifest}
use Rattle.an_state.specs.declared.command.Command.TheVariants.{PutNote, DropNote}
use Rattle.an_state.specs.declared.command.Object.{Object}
use Rattle.an_state.specs.declared.command.Object.TheVariants as object
use Rattle.an_machine.specs.declared.command.Refused.{Refused}
use Rattle.an_machine.specs.declared.command.Refused.TheVariants.{ReaderTree, PrivateManifest}
use Rattle.an_machine.specs.declared.command.Refused.TheVariants.{ManifestTree, NoteTree, Memory}

-- ---- a command

-- the manifest that an annotation is put on
abbrev pub manifest_under : Command → Option (List ℕ)
manifest_under (PutNote owner name version manifest group tree) = Some manifest
manifest_under _ = None

-- the groups that an annotation is put in
abbrev pub group_within : Command → Option Inner
group_within (PutNote owner name version manifest group tree) = Some group
group_within _ = None

-- ---- its tree, read

-- why a tree is refused that describes no reader; want of memory stays what it is
abbrev pub no_reader : ReaderError → Refused
no_reader error.Memory = Memory
no_reader why = ReaderTree why

-- why a tree is refused that is no manifest
abbrev pub no_manifest : SheetError → Refused
no_manifest sheet.Memory = Memory
no_manifest why = ManifestTree why

-- why a tree is refused that is no annotation
abbrev pub no_note : NoteError → Refused
no_note note.Memory = Memory
no_note why = NoteTree why

abbrev pub asked_manifest : List ℕ → ℕ → Group → Data → Asked
asked_manifest name version group sheet =
    put.Manifest (record { name = name; version = version; group = group; sheet = sheet })

abbrev pub asked_note : List ℕ → List ℕ → ℕ → List ℕ → Inner → Data → Asked
asked_note owner name version manifest group note = put.Note (record {
  owner = owner;
  name = name;
  version = version;
  manifest = manifest;
  group = group;
  note = note;
})

-- What a command asks for, or why its tree is refused. No manifest is private, whatever its tree.
abbrev pub asked_of : Command → Result Asked Refused
asked_of (PutReader name version tree) =
    result_map_both put.Reader no_reader (reader_of tree name version)
asked_of (PutManifest name version group tree) =
    if is_private group then Err PrivateManifest
    else result_map_both (asked_manifest name version group) no_manifest (manifest_of tree)
asked_of (PutNote owner name version manifest group tree) =
    result_map_both (asked_note owner name version manifest group) no_note (note_of tree)
asked_of (DropReader name version) = Ok (Deletion (object.Reader name) version)
asked_of (DropManifest name version) = Ok (Deletion (object.Manifest name) version)
asked_of (DropNote owner name version) = Ok (Deletion (object.Note owner name) version)

-- ---- what is asked for

abbrev pub object_asked : Asked → Object
object_asked (put.Reader r) = object.Reader r.name
object_asked (put.Manifest m) = object.Manifest m.name
object_asked (put.Note n) = object.Note n.owner n.name
object_asked (Deletion object version) = object

abbrev pub version_asked : Asked → ℕ
version_asked (put.Reader r) = r.version
version_asked (put.Manifest m) = m.version
version_asked (put.Note n) = n.version
version_asked (Deletion object version) = version

abbrev pub is_put : Asked → Bool
is_put (Deletion object version) = false
is_put _ = true

-- the manifest that an annotation is put on
abbrev pub manifest_asked : Asked → Option (List ℕ)
manifest_asked (put.Note n) = Some n.manifest
manifest_asked _ = None
