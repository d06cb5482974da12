use Rattle.std.proofs.Common.{◌≡◌, ◌++◌, map}
use Rattle.std.specs.Prelude.{string_bytes}
use Rattle.an_base.specs.TextSet.{Ascend}
use Rattle.an_base.proofs.text_set.packed.Given as goal

-- the texts so far and what is left of the set are all texts, in their order
abbrev pub invariant-loop-text : goal.invariant-loop-text
invariant-loop-text l = record {
  texts : l.set ++ map string_bytes l.text-iterator ≡ map string_bytes l.fn.texts.keys;
  order : Ascend (l.set ++ map string_bytes l.text-iterator);
}
