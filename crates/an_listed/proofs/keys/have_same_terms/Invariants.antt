use Rattle.std.proofs.Common.{◌≡◌, length, take}
use Rattle.an_listed.proofs.keys.have_same_terms.Given as goal

abbrev pub invariant-loop-at : goal.invariant-loop-at
invariant-loop-at l = record {
  long : length l.own.terms ≡ length l.keys.terms;
  alike : take l.at l.own.terms ≡ take l.at l.keys.terms;
}
