use Rattle.std.proofs.Common.{◌≡◌, ◌++◌, drop}
use Rattle.an_anchor.specs.Resolve.{candidates}
use Rattle.an_anchor.proofs.candidates.candidates.Given as goal

-- the places in the texts that are left stand after those so far
abbrev pub invariant-loop-text : goal.invariant-loop-text
invariant-loop-text l = record {
  gathered : l.candidates.items ++ candidates l.quote l.number (drop l.text-index l.texts)
      ≡ candidates l.quote 0 l.texts;
  number : l.number ≡ l.text-index;
}
