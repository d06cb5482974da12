-- A valid row is read from its text, and what makes one valid.
use Rattle.std.proofs.Common.{◌≡◌, ◌&&◌, ℕ, List, Bool, true, false, Option, Some, None, Ok, refl, ap, subst, ◌∙◌, sym}
use Rattle.std.proofs.lemmas.Bool.{and_from}
use Rattle.std.proofs.lemmas.Str.{is_utf8-from_IsUtf8}
use Rattle.std.specs.Str.{IsUtf8}
use Rattle.an_base.specs.Name.{is_name}
use Rattle.an_policy.specs.Reader.{is_user}
use Rattle.an_policy.specs.declared.group.Audience.{Audience}
use Rattle.an_state.specs.Commands.{is_number}
use Rattle.an_state.specs.State.{NoteState, LiveNote}
use Rattle.an_state.specs.declared.activity.Activity.{Activity}
use Rattle.an_state.specs.declared.entry.Row.TheVariants as kept
use Rattle.an_rows.specs.RowRead.{row_of_text}
use Rattle.an_rows.specs.RowTree.{row_text}
use Rattle.an_rows.specs.Valid.{if_any, is_iri, is_number_of_note, is_valid_activity, is_valid_live_note, is_valid_note_row}
use Rattle.an_rows.specs.declared.format.Format.TheVariants.{Second}
use Rattle.an_rows.proofs.ReadActivityLemmas.{activity-reads-back}
use Rattle.an_rows.proofs.ReadNoteLemmas.{note-reads-back}

-- ---- today's format can say each row

any-true : {A : Type 0} (value : Option A) → if_any (λ its. true) value ≡ true
any-true None = refl
any-true (Some value) = refl

activity-can : (before after : Option Audience)
    → (if_any (λ audience. true) before && if_any (λ audience. true) after) ≡ true
activity-can None after = any-true after
activity-can (Some before) after = any-true after

pub quick-activity : (a : Activity) (bytes : List ℕ) → is_valid_activity a ≡ true
    → row_text Second (kept.Activity a) ≡ bytes
    → row_of_text Second 4 bytes ≡ Ok (kept.Activity a)
quick-activity a bytes valid same =
    subst (λ text. row_of_text Second 4 text ≡ Ok (kept.Activity a)) same
    (activity-reads-back Second a valid (activity-can a.before a.after))

pub quick-note : (row : NoteState) (bytes : List ℕ) → is_valid_note_row row ≡ true
    → row_text Second (kept.Note row) ≡ bytes
    → row_of_text Second 3 bytes ≡ Ok (kept.Note row)
quick-note row bytes valid same =
    subst (λ text. row_of_text Second 3 text ≡ Ok (kept.Note row)) same
    (note-reads-back Second row valid (any-true row.live))

pub ruleset quick_rows = (quick-activity, quick-note)

-- ---- which parts are valid

and-true : (a b : Bool) → b ≡ true → a ≡ (a && b)
and-true true b h = sym h
and-true false b h = refl

pub iri-is : (text : List ℕ) → IsUtf8 text → is_user text ≡ is_iri text
iri-is text utf8 = and-true (is_user text) _ (is_utf8-from_IsUtf8 text utf8)

pub live-row-valid : (row : NoteState) (live : LiveNote) → row.live ≡ Some live
    → is_name row.owner ≡ true → is_name row.name ≡ true
    → is_number row.version ≡ true → is_valid_live_note live ≡ true → is_valid_note_row row ≡ true
unfolding is_valid_note_row
live-row-valid row live is owned named numbered valid =
    and_from _ _ (and_from _ _ (and_from _ _ owned named)
    (ap (λ its. is_number_of_note its row.version) is ∙ numbered))
    (ap (if_any is_valid_live_note) is ∙ valid)
