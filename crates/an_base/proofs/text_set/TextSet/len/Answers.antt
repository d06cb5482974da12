use Rattle.std.proofs.Common.{length, sym, ap, ◌∙◌}
use Rattle.an_base.proofs.TextSetLemmas.{length-pieces}
use Rattle.an_base.proofs.text_set.TextSet.len.Goals as goal

pub returns-clause-length : goal.returns-clause-length
returns-clause-length c =
    ap length c.as_slice.ensures.value
    ∙ sym (length-pieces 0 c.self.inside.ends.items c.self.inside.bytes.items)
    ∙ ap length c.self.view_is
