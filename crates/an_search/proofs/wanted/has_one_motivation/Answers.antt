use Rattle.std.proofs.Common.{[], ap, length, sym, ◌∙◌}
use Rattle.std.specs.Prelude.{get_or}
use Rattle.std.specs.List.{list_any}
use Rattle.an_base.specs.TextSet.{ascending, has_text}
use Rattle.an_model.specs.Note.{motivations_of}
use Rattle.an_search.proofs.SetLemmas.{one_shared, share_ascending}
use Rattle.an_search.proofs.wanted.has_one_motivation.Goals as goal

pub returns-then-len-eq1-clause-found : goal.returns-then-len-eq1-clause-found
returns-then-len-eq1-clause-found c =
    let own = motivations_of c.args.note.now in
    let pieces = c.args.pieces.now in
    let in_order = c.motivations-own.ensures.motivations in
    c.is_piece.ensures.found
    ∙ ap (λ text. has_text text pieces)
    (c.text.ensures.text ∙ ap (λ texts. get_or texts 0 []) in_order)
    ∙ one_shared pieces own
    (ap length (sym in_order) ∙ sym c.len.ensures.length ∙ c.if-len-eq1.true)

pub returns-clause-found : goal.returns-clause-found
returns-clause-found c =
    let own = motivations_of c.args.note.now in
    c.share_one.ensures
    ∙ ap (λ pieces. list_any (λ text. has_text text c.motivations-own.result.now) pieces)
    c.ordered.ensures.ordered
    ∙ ap (λ texts. list_any (λ text. has_text text texts) (ascending c.args.pieces.now))
    c.motivations-own.ensures.motivations
    ∙ share_ascending own c.args.pieces.now
