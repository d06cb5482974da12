use Rattle.std.proofs.Common.{[], get_or, length, sym, ap, ap₂, ◌∙◌, arith}
use Rattle.std.specs.Str.{is_utf8}
use Rattle.an_base.specs.TextSet.{pieces}
use Rattle.an_base.proofs.TextSetLemmas.{length-pieces, utf8-at}
use Rattle.an_base.proofs.text_set.TextSet.bytes_at.Goals as goal

pub piece-requires-clause-within : goal.piece-requires-clause-within
piece-requires-clause-within c =
    let long =
    ap length c.as_slice-2.ensures.value
    ∙ sym (length-pieces 0 c.self.inside.ends.items c.self.inside.bytes.items)
    ∙ ap length c.self.view_is in
    omega (arith, long, c.requires)

pub returns-clause-bytes : goal.returns-clause-bytes
returns-clause-bytes c =
    c.piece.ensures
    ∙ ap₂ (λ ends bytes. get_or (pieces 0 ends bytes) c.args.place []) c.as_slice-2.ensures.value
    c.as_slice.ensures.value
    ∙ ap (λ texts. get_or texts c.args.place []) c.self.view_is

pub returns-clause-utf8 : goal.returns-clause-utf8
returns-clause-utf8 c =
    let long = ap length c.self.view_is in
    ap is_utf8 (c.piece.ensures
    ∙ ap₂ (λ ends bytes. get_or (pieces 0 ends bytes) c.args.place []) c.as_slice-2.ensures.value
    c.as_slice.ensures.value)
    ∙ utf8-at (pieces 0 c.self.inside.ends.items c.self.inside.bytes.items) c.args.place
    c.self.invariant.utf8 (omega (arith, long, c.requires))
