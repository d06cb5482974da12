use Rattle.std.proofs.Common.{◌+◌, ◌&&◌, refl, sym, ap, ap₂, ◌∙◌}
use Rattle.std.specs.Prelude.{◌==◌}
use Rattle.an_base.specs.Outcome.{passes}
use Rattle.an_machine.specs.Versions.{current, holds_reader, reader_standing}
use Rattle.an_machine.specs.declared.asked.Asked.TheVariants as put
use Rattle.an_machine.proofs.JudgeLemmas.{judged-rest, repeat_or}
use Rattle.an_machine.proofs.put_reader.put_reader.Goals as goal

pub returns-else-is_behind : goal.returns-else-is_behind
returns-else-is_behind c =
    let reader = c.args.reader in
    let row = c.reader_row-before.ensures.row in
    let standing = c.reader_standing-standing.ensures ∙ ap reader_standing row in
    let next =
    sym (ap (λ stands. reader.version == current stands + 1) standing) ∙ sym c.is_behind.ensures
    ∙ c.if-is_behind.false in
    let done = c.is_held.ensures ∙ ap (passes (holds_reader reader)) row in
    judged-rest c.args.book.now.state (put.Reader reader) _ c.unless_done.result
    refl (sym c.is_token_taken.ensures ∙ c.if-is_token_taken.false) next
    (c.unless_done.ensures
    ∙ ap₂ (λ stands again. repeat_or ((reader.version == current stands) && again) (current stands))
    standing done)
