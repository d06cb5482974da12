-- The codes of refusals, as they are printed, and the names of parameters.
use Rattle.std.specs.Prelude.{ℕ, List, codes}
use Rattle.an_code.specs.declared.code.Code.{Code}
use Rattle.an_code.specs.declared.code.Code.TheVariants.{Line, Input, Absent, Group, Date}
use Rattle.an_code.specs.declared.code.Code.TheVariants.{Target, Route, Method, Bytes, Twice}
use Rattle.an_code.specs.declared.code.Code.TheVariants.{VersionForm, Manifest, Manifests, Keeper}
use Rattle.an_code.specs.declared.code.Code.TheVariants.{Page, NoPage, Min, Iris, Xywh, Prefix}
use Rattle.an_code.specs.declared.code.Code.TheVariants.{ReaderToken, ReaderRole, ReaderUser}
use Rattle.an_code.specs.declared.code.Code.TheVariants.{ReaderGroups, Json, NotWhole, Deep}
use Rattle.an_code.specs.declared.code.Code.TheVariants.{NoteType, NoteTarget, NoteBody}
use Rattle.an_code.specs.declared.code.Code.TheVariants.{NoteMotivation, NoteSelector}
use Rattle.an_code.specs.declared.code.Code.TheVariants.{ManifestVersion2, ManifestType}
use Rattle.an_code.specs.declared.code.Code.TheVariants.{ManifestLabel, ManifestItems}
use Rattle.an_code.specs.declared.code.Code.TheVariants.{ManifestCanvas, NotSigned, NotWriter}
use Rattle.an_code.specs.declared.code.Code.TheVariants.{NotOwn, NotMember, GroupFixed, TokenTaken}
use Rattle.an_code.specs.declared.code.Code.TheVariants.{Version, Gone, Head, Transfer, Length}
use Rattle.an_code.specs.declared.code.Code.TheVariants.{Large, LengthRequired, Body}
use Rattle.an_code.specs.declared.parameter.Parameter.{Parameter}
use Rattle.an_code.specs.declared.parameter.Parameter.TheVariants as parameter

-- the name of a parameter, as a query gives it
abbrev pub parameter_text : Parameter → List ℕ
parameter_text parameter.Version = codes "version"
parameter_text parameter.Manifest = codes "manifest"
parameter_text parameter.Group = codes "group"
parameter_text parameter.Q = codes "q"
parameter_text parameter.Motivation = codes "motivation"
parameter_text parameter.Date = codes "date"
parameter_text parameter.User = codes "user"
parameter_text parameter.Page = codes "page"
parameter_text parameter.Min = codes "min"
parameter_text parameter.Iris = codes "iris"
parameter_text parameter.Xywh = codes "xywh"
parameter_text parameter.Manifests = codes "manifests"

abbrev pub code_text : Code → List ℕ
code_text Line = codes "line"
code_text Input = codes "input"
code_text Target = codes "target"
code_text Route = codes "route"
code_text Method = codes "method"
code_text Bytes = codes "bytes"
code_text (Twice name) = codes "twice"
code_text VersionForm = codes "version"
code_text Manifest = codes "manifest"
code_text (Manifests at) = codes "manifests"
code_text (Date at) = codes "date"
code_text Page = codes "page"
code_text (NoPage pages) = codes "page"
code_text Min = codes "min"
code_text Iris = codes "iris"
code_text Xywh = codes "xywh"
code_text Prefix = codes "prefix"
code_text Absent = codes "absent"
code_text Group = codes "group"
code_text ReaderToken = codes "reader_token"
code_text ReaderRole = codes "reader_role"
code_text ReaderUser = codes "reader_user"
code_text ReaderGroups = codes "reader_groups"
code_text Json = codes "json"
code_text NotWhole = codes "not_whole"
code_text Deep = codes "deep"
code_text NoteType = codes "note_type"
code_text (NoteTarget at) = codes "note_target"
code_text (NoteBody at) = codes "note_body"
code_text (NoteMotivation at) = codes "note_motivation"
code_text (NoteSelector at) = codes "note_selector"
code_text ManifestVersion2 = codes "manifest_version2"
code_text ManifestType = codes "manifest_type"
code_text ManifestLabel = codes "manifest_label"
code_text ManifestItems = codes "manifest_items"
code_text (ManifestCanvas at) = codes "manifest_canvas"
code_text NotSigned = codes "not_signed"
code_text NotWriter = codes "not_writer"
code_text NotOwn = codes "not_own"
code_text NotMember = codes "not_member"
code_text GroupFixed = codes "group_fixed"
code_text TokenTaken = codes "token_taken"
code_text (Version current) = codes "version"
code_text Gone = codes "gone"
code_text Head = codes "head"
code_text Transfer = codes "transfer"
code_text Length = codes "length"
code_text Large = codes "large"
code_text LengthRequired = codes "length_required"
code_text Body = codes "body"
code_text Keeper = codes "keeper"
