use Rattle.unicode_segmentation.specs.Iter.{word_bounds_left}
use Rattle.an_terms.proofs.TermsLemmas.{HasCome}
use Rattle.an_terms.proofs.words.occurrences.Given as goal

abbrev pub invariant-loop-piece : goal.invariant-loop-piece
invariant-loop-piece l = HasCome l.text l.found.items l.start (word_bounds_left l.piece-iterator)
