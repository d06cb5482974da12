-- The code by which it is told why a write is refused.
use Rattle.an_code.specs.declared.code.Code.{Code}
use Rattle.an_code.specs.declared.code.Code.TheVariants as code
use Rattle.an_manifest.specs.declared.sheet.SheetError.{SheetError}
use Rattle.an_manifest.specs.declared.sheet.SheetError.TheVariants as sheet
use Rattle.an_model.specs.declared.refusal.NoteError.{NoteError}
use Rattle.an_model.specs.declared.refusal.NoteError.TheVariants as note
use Rattle.an_policy.specs.declared.reader.ReaderError.{ReaderError}
use Rattle.an_policy.specs.declared.reader.ReaderError.TheVariants as reader
use Rattle.an_machine.specs.declared.command.Refused.{Refused}
use Rattle.an_machine.specs.declared.command.Refused.TheVariants as refused

-- why a tree describes no reader; here and below, want of memory is told otherwise
abbrev pub reader_code : ReaderError → Code
reader_code reader.Token = code.ReaderToken
reader_code reader.Role = code.ReaderRole
reader_code reader.User = code.ReaderUser
reader_code reader.Groups = code.ReaderGroups
reader_code reader.Memory = code.Absent

-- why a tree is no manifest
abbrev pub manifest_code : SheetError → Code
manifest_code sheet.Version2 = code.ManifestVersion2
manifest_code sheet.WrongType = code.ManifestType
manifest_code sheet.Label = code.ManifestLabel
manifest_code sheet.Items = code.ManifestItems
manifest_code (sheet.Canvas at) = code.ManifestCanvas at
manifest_code sheet.Memory = code.Absent

-- why a tree is no annotation
abbrev pub note_code : NoteError → Code
note_code note.WrongType = code.NoteType
note_code (note.Target at) = code.NoteTarget at
note_code (note.Selector at) = code.NoteSelector at
note_code (note.Body at) = code.NoteBody at
note_code (note.Motivation at) = code.NoteMotivation at
note_code note.Memory = code.Absent

abbrev pub write_refusal : Refused → Code
write_refusal refused.NotSigned = code.NotSigned
write_refusal refused.NotWriter = code.NotWriter
write_refusal refused.NotOwn = code.NotOwn
write_refusal refused.NoManifest = code.Absent
write_refusal refused.NotMember = code.NotMember
write_refusal (refused.ReaderTree why) = reader_code why
write_refusal refused.PrivateManifest = code.Group
write_refusal (refused.ManifestTree why) = manifest_code why
write_refusal (refused.NoteTree why) = note_code why
write_refusal refused.GroupFixed = code.GroupFixed
write_refusal refused.TokenTaken = code.TokenTaken
write_refusal (refused.Version current) = code.Version current
write_refusal refused.Memory = code.Absent
