use Rattle.std.proofs.Common.{◌≤◌, length}
use Rattle.unicode_segmentation.specs.Iter.{word_bounds_left}
use Rattle.an_terms.proofs.SoughtLemmas.{HasSought}
use Rattle.an_terms.proofs.sought.sought_occurrences.Given as goal

abbrev pub invariant-loop-piece : goal.invariant-loop-piece
invariant-loop-piece l = record {
  walk : HasSought l.text l.terms l.found.items l.start (word_bounds_left l.piece-iterator);
  few : length l.found.items ≤ l.most;
}
