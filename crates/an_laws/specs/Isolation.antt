-- What a caller may learn by what others write, and by the answers to its own writes.
use Rattle.std.specs.Prelude.{◌≡◌, List, [], ◌∷◌, Bool, true, false, ◌&&◌, not, bytes_eq}
use Rattle.std.specs.Prelude.{Option, Some, None, Result, filter, ⊤, IsTrue}
use Rattle.std.specs.List.{list_all}
use Rattle.std.specs.Result.{result_map_both}
use Rattle.an_base.specs.Outcome.{passes}
use Rattle.an_policy.specs.Audience.{Identity, anonymous, is_named}
use Rattle.an_policy.specs.declared.who.Caller.{Caller}
use Rattle.an_policy.specs.declared.who.Caller.TheVariants.{Anonymous, Operator, Token, Named}
use Rattle.an_state.specs.Entries.{after}
use Rattle.an_machine.specs.Legal.{Write}
use Rattle.an_state.specs.State.{State, ReaderState, NoteState, reader_row, who_of}
use Rattle.an_state.specs.View.{seen_by, view_by}
use Rattle.an_state.specs.declared.activity.Activity.{Activity}
use Rattle.an_machine.specs.declared.command.Decided.{Decided}
use Rattle.an_state.specs.declared.command.Object.{Object}
use Rattle.an_state.specs.declared.command.Object.TheVariants as object
use Rattle.an_machine.specs.declared.command.Refused.{Refused}
use Rattle.an_machine.specs.declared.command.WriteReply.{WriteReply}
use Rattle.an_state.specs.declared.entry.Entry.{Entry}
use Rattle.an_state.specs.declared.entry.Entry.TheVariants.{Restored, Done}
use Rattle.an_state.specs.declared.entry.Row.{Row}
use Rattle.an_state.specs.declared.entry.Row.TheVariants as kept

-- ---- what an entry adds

abbrev pub activities_in : Entry → List Activity
activities_in (Restored (kept.Activity activity)) = activity ∷ []
activities_in (Restored _) = []
activities_in (Done command moment by rows activities) = activities

abbrev pub rows_in : Entry → List Row
rows_in (Restored row) = row ∷ []
rows_in (Done command moment by rows activities) = rows

-- ---- what a caller sees of it

-- nobody sees what the anonymous caller does
abbrev pub reads_as : Option Identity → Identity
reads_as None = anonymous
reads_as (Some who) = who

-- the caller sees no activity that the entry adds
abbrev pub IsUnseen : State → Caller → Entry → Type 0
IsUnseen s caller entry = seen_by (reads_as (who_of s caller)) (activities_in entry) ≡ []

-- the caller's row: the one with its name, or the live one with its token
abbrev pub is_row_of : Caller → ReaderState → Bool
is_row_of Anonymous row = false
is_row_of Operator row = false
is_row_of (Token token) row = passes (λ reader. bytes_eq reader.token token) row.live
is_row_of (Named name) row = bytes_eq row.name name

-- neither the row that is put nor the one that it replaces is the caller's
abbrev pub is_anothers_row : State → Caller → Row → Bool
is_anothers_row s caller (kept.Reader row) =
    not (is_row_of caller row) && not (passes (is_row_of caller) (reader_row s row.name))
is_anothers_row s caller _ = true

-- the entry changes no row that is the caller's, before or behind it
abbrev pub leaves_caller : State → Caller → Entry → Bool
leaves_caller s caller entry = list_all (is_anothers_row s caller) (rows_in entry)

-- of no write of a history does the caller see an activity, and none changes a row of the caller's
abbrev pub AreUnseen : State → Caller → List Write → Type 0
AreUnseen s caller [] = ⊤
AreUnseen s caller (write ∷ writes) =
    IsUnseen s caller write.entry
    × IsTrue (leaves_caller s caller write.entry)
    × AreUnseen (after s write.entry) caller writes

-- ---- what a write depends on

-- what is written is an annotation
abbrev pub is_note : Object → Bool
is_note (object.Reader name) = false
is_note (object.Manifest name) = false
is_note (object.Note owner name) = true

-- the rows of the caller's own annotations, tombstones too
abbrev pub own_notes : State → Option Identity → List NoteState
own_notes s who = filter (λ row. passes (λ its. is_named its row.owner) who) s.notes

-- the caller may read the same in both, and has the same annotations
abbrev pub LookAlike : State → State → Caller → Type 0
LookAlike s t caller =
    (view_by s caller ≡ view_by t caller)
    × (own_notes s (who_of s caller) ≡ own_notes t (who_of t caller))

-- what a caller is told of a write: the reply, or the refusal
abbrev pub answer_of : Result Decided Refused → Result WriteReply Refused
answer_of result = result_map_both (λ decided. decided.reply) (λ refusal. refusal) result
