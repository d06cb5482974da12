use Rattle.an_keyed.specs.MarkIndex.{mark_hash}
use Rattle.an_keyed.specs.Marks.{is_mark}
use Rattle.an_keyed.proofs.MarkLemmas.{IsMarkWalk, passes_from}
use Rattle.an_keyed.proofs.WalkLemmas.{places_left}
use Rattle.an_keyed.proofs.marked.marked_in.Given as goal

abbrev pub invariant-loop-next : goal.invariant-loop-next
invariant-loop-next g l =
    IsMarkWalk (passes_from (λ row. is_mark l.mark (g.R.Marked.mark row)) l.start l.rows) l.marks
    (mark_hash l.mark) l.found l.next

abbrev pub decreases-loop-next : goal.decreases-loop-next
decreases-loop-next g l = places_left l.next
