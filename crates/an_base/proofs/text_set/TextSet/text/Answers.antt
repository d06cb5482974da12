use Rattle.std.proofs.lemmas.Str.{IsUtf8-from_is_utf8}
use Rattle.an_base.proofs.text_set.TextSet.text.Goals as goal

pub unreachable-requires : goal.unreachable-requires
unreachable-requires c =
    c.in-Err.ensures.cases.0 (IsUtf8-from_is_utf8 c.bytes_at.result.now c.bytes_at.ensures.utf8)
