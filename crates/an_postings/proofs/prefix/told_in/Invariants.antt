use Rattle.std.proofs.Common.{◌≡◌, ◌++◌}
use Rattle.an_slots.specs.Texts.{texts}
use Rattle.an_postings.specs.Totals.{told_from}
use Rattle.an_postings.proofs.Prefixes.{Fades}
use Rattle.an_postings.proofs.prefix.told_in.Given as goal

abbrev pub invariant-loop-term : goal.invariant-loop-term
invariant-loop-term l = record {
  told : l.told.items ++ told_from l.prefix l.classes (texts l.term-iterator)
      ≡ told_from l.prefix l.classes (texts l.terms.entries);
  fades : Fades l.prefix l.classes (texts l.term-iterator);
}
