use Rattle.std.proofs.Common.{◌+◌, ◌&&◌, refl, sym, ap, ap₂, ◌∙◌}
use Rattle.std.specs.Prelude.{◌==◌}
use Rattle.an_base.specs.Outcome.{passes}
use Rattle.an_machine.specs.Versions.{current, holds_note, note_standing}
use Rattle.an_machine.specs.declared.asked.Asked.TheVariants as asked
use Rattle.an_machine.proofs.JudgeLemmas.{judged-rest, repeat_or}
use Rattle.an_machine.proofs.put_note.put_note.Goals as goal

pub returns-else-is_behind : goal.returns-else-is_behind
returns-else-is_behind c =
    let put = c.args.put in
    let row = c.note_row-before.ensures.row in
    let standing = c.note_standing-standing.ensures ∙ ap note_standing row in
    let next =
    sym (ap (λ stands. put.version == current stands + 1) standing) ∙ sym c.is_behind.ensures
    ∙ c.if-is_behind.false in
    let done = c.is_held.ensures ∙ ap (passes (holds_note put)) row in
    judged-rest c.args.book.now.state (asked.Note put) _ c.unless_done.result
    refl refl next
    (c.unless_done.ensures
    ∙ ap₂ (λ stands again. repeat_or ((put.version == current stands) && again) (current stands))
    standing done)
