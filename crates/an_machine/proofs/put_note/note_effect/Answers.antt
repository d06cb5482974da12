use Rattle.std.proofs.Common.{◌≡◌, Bool, not, [], ◌∷◌, IfOk, ap, ap₂, subst, ◌∙◌}
use Rattle.an_state.specs.State.{NoteState}
use Rattle.an_state.specs.declared.activity.Activity.{Activity}
use Rattle.std.specs.Option.{option_copied}
use Rattle.an_policy.specs.Audience.{identity}
use Rattle.an_machine.specs.Accepted.{note_effect}
use Rattle.an_machine.specs.declared.asked.NotePut.{NotePut}
use Rattle.an_machine.specs.declared.effect.Effect.{Effect}
use Rattle.an_state.specs.declared.entry.Row.TheVariants as kept
use Rattle.an_machine.proofs.put_note.note_effect.Goals as goal

abbrev with_note : Bool → NoteState → Activity → Effect
with_note made row activity =
    record { made = made; rows = kept.Note row ∷ []; activities = activity ∷ [] }

-- the audience of the row that is put is that below its manifest
pub returns : goal.returns
returns c =
    let standing =
    ap (λ stands. with_note (not stands.live) c.in_ok-row.row c.in_ok-activity.activity)
    c.note_standing.ensures in
    let all = standing ∙ ap₂ (with_note _) c.in_ok-row.ensures c.in_ok-activity.ensures in
    let done =
    subst (λ meant. IfOk c.change.result (λ effect. effect ≡ meant)) all c.change.ensures in
    subst (λ (put : NotePut). IfOk c.change.result
    (λ effect. effect
    ≡ note_effect c.args.book.now.state (identity c.args.who.now) c.args.at
    (option_copied c.args.before) put))
    (c.in_ok-put-2.ensures ∙ c.in_ok-put.ensures) done
