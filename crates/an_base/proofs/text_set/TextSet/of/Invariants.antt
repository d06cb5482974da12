use Rattle.std.proofs.Common.{◌≡◌, map, take}
use Rattle.std.specs.Prelude.{string_bytes}
use Rattle.an_base.specs.TextSet.{ascending}
use Rattle.an_base.proofs.text_set.TextSet.of.Given as goal

-- the texts so far, each once, in their order
abbrev pub invariant-loop-text : goal.invariant-loop-text
invariant-loop-text l = map string_bytes l.found.keys ≡ ascending (take l.text-index l.texts)
