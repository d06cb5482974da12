use Rattle.std.proofs.Common.{Bool, ap, sym, ◌∙◌, ◌&&◌}
use Rattle.std.specs.Prelude.{not}
use Rattle.an_slots.specs.Places.{has}
use Rattle.an_postings.proofs.LiveLemmas.{has-live}
use Rattle.an_postings.proofs.noted.is_live.Goals as goal

pub returns-then-is_among : goal.returns-then-is_among
returns-then-is_among c =
    let place = c.args.place in
    let gone = c.args.gone.now.items in
    ap not (c.is_among-then-is_among.ensures c.requires.gone)
    ∙ sym (has-live place c.args.all.now.items gone
    ∙ ap (λ (b : Bool). b && not (has place gone))
    (sym (c.is_among.ensures c.requires.all) ∙ c.if-is_among.true))

pub returns-else-is_among : goal.returns-else-is_among
returns-else-is_among c =
    let place = c.args.place in
    let gone = c.args.gone.now.items in
    c.if-is_among.false
    ∙ sym (has-live place c.args.all.now.items gone
    ∙ ap (λ (b : Bool). b && not (has place gone))
    (sym (c.is_among.ensures c.requires.all) ∙ c.if-is_among.false))
