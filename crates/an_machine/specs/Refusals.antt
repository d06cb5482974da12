-- Why a write is refused, in the order of the refusals.
use Rattle.std.specs.Prelude.{ℕ, List, [], ◌∷◌, Bool, true, false, ◌&&◌, ◌||◌, not, bytes_eq}
use Rattle.std.specs.Prelude.{Option, Some, None, option_and_then}
use Rattle.std.specs.List.{list_any}
use Rattle.an_base.specs.Outcome.{when, passes}
use Rattle.an_policy.specs.declared.inner.Inner.{Inner}
use Rattle.an_policy.specs.declared.inner.Inner.TheVariants.{Public, Private, Names}
use Rattle.an_policy.specs.declared.reader.Reader.{Reader}
use Rattle.an_policy.specs.declared.reader.Role.{Role}
use Rattle.an_policy.specs.declared.reader.Role.TheVariants as role
use Rattle.an_policy.specs.declared.who.Caller.{Caller}
use Rattle.an_policy.specs.Audience.{Identity, anonymous, operator, signed}
use Rattle.an_policy.specs.Audience.{is_among, is_named, groups_of}
use Rattle.an_machine.specs.Asked.{manifest_under, group_within, object_asked}
use Rattle.an_state.specs.Commands.{object_of}
use Rattle.an_state.specs.State.{State, manifest_row, live_readers, who_of}
use Rattle.an_policy.specs.Group.{same_group}
use Rattle.an_machine.specs.Versions.{number_of, is_next, is_repeat}
use Rattle.an_state.specs.View.{shows_manifest}
use Rattle.an_machine.specs.declared.asked.Asked.{Asked}
use Rattle.an_machine.specs.declared.asked.Asked.TheVariants as put
use Rattle.an_state.specs.declared.command.Command.{Command}
use Rattle.an_state.specs.declared.command.Object.{Object}
use Rattle.an_state.specs.declared.command.Object.TheVariants as object
use Rattle.an_machine.specs.declared.command.Refused.{Refused}
use Rattle.an_machine.specs.declared.command.Refused.TheVariants.{NotWriter, NotOwn, NoManifest}
use Rattle.an_machine.specs.declared.command.Refused.TheVariants.{NotMember, GroupFixed}
use Rattle.an_machine.specs.declared.command.Refused.TheVariants.{TokenTaken, Version}

-- ---- who writes

-- a write is signed by the operator, or by a live reader
abbrev pub signed_by : Identity → Option Identity
signed_by anonymous = None
signed_by operator = Some operator
signed_by (signed reader) = Some (signed reader)

abbrev pub signer_of : State → Caller → Option Identity
signer_of s caller = option_and_then signed_by (who_of s caller)

abbrev pub is_curator : Role → Bool
is_curator role.Reader = false
is_curator role.Writer = false
is_curator role.Curator = true

abbrev pub may_manage : Identity → Bool
may_manage anonymous = false
may_manage operator = true
may_manage (signed reader) = is_curator reader.role

abbrev pub is_mere_reader : Role → Bool
is_mere_reader role.Reader = true
is_mere_reader role.Writer = false
is_mere_reader role.Curator = false

abbrev pub only_reads : Identity → Bool
only_reads anonymous = false
only_reads operator = false
only_reads (signed reader) = is_mere_reader reader.role

-- readers and manifests are written by the operator and by curators, annotations by all but
-- readers of the role `reader`
abbrev pub may_write : Identity → Object → Bool
may_write who (object.Reader name) = may_manage who
may_write who (object.Manifest name) = may_manage who
may_write who (object.Note owner name) = not (only_reads who)

-- an annotation of somebody else; readers and manifests are nobody's
abbrev pub is_anothers : Identity → Object → Bool
is_anothers who (object.Note owner name) = not (is_named who owner)
is_anothers who _ = false

-- ---- where an annotation is put

-- there is no live manifest of this name that the caller may read
abbrev pub is_hidden : State → Identity → List ℕ → Bool
is_hidden s who manifest = not (passes (shows_manifest who) (manifest_row s manifest))

-- one of the groups is a named one that the caller is no member of
abbrev pub is_outside : Identity → Inner → Bool
is_outside who Public = false
is_outside who Private = false
is_outside who (Names names) = list_any (λ name. not (is_among (groups_of who) name)) names

-- ---- what is asked for

-- the manifest has another group, live or deleted
abbrev pub has_other_group : State → Asked → Bool
has_other_group s (put.Manifest m) =
    passes (λ row. not (same_group row.group m.group)) (manifest_row s m.name)
has_other_group s _ = false

-- the reader has another name and this token
abbrev pub is_taken_from : List ℕ → List ℕ → Reader → Bool
is_taken_from name token reader = bytes_eq reader.token token && not (bytes_eq reader.name name)

-- another live reader has the token
abbrev pub is_token_taken : State → List ℕ → List ℕ → Bool
is_token_taken s name token = list_any (is_taken_from name token) (live_readers s)

abbrev pub takes_token : State → Asked → Bool
takes_token s (put.Reader r) = is_token_taken s r.name r.token
takes_token s _ = false

-- ---- the refusals

-- of a command whose tree isn't read yet; a deletion needs no manifest that is shown, and no group
abbrev pub refusals_before : State → Identity → Command → List (Option Refused)
refusals_before s who command =
    when (not (may_write who (object_of command))) NotWriter
    ∷ when (is_anothers who (object_of command)) NotOwn
    ∷ when (passes (is_hidden s who) (manifest_under command)) NoManifest
    ∷ when (passes (is_outside who) (group_within command)) NotMember
    ∷ []

-- of what it asks for, once its tree is read
abbrev pub refusals_behind : State → Asked → List (Option Refused)
refusals_behind s asked =
    when (has_other_group s asked) GroupFixed
    ∷ when (takes_token s asked) TokenTaken
    ∷ when (not (is_next s asked || is_repeat s asked)) (Version (number_of s (object_asked asked)))
    ∷ []
