use Rattle.std.proofs.Common.{sym}
use Rattle.an_keyed.specs.Marks.{is_mark}
use Rattle.an_keyed.proofs.MarkLemmas.{IsFirst, passes_from, mark_walk-goes, mark_walk-ends, position-from_first, from-first, within-first, IsEntered-marked}
use Rattle.an_keyed.proofs.marked.marked_in.Goals as goal

pub place-place-requires : goal.place-place-requires
place-place-requires g c =
    record { entry = (c.loop-next.invariant.walk.at_hash c.in-Some.entry c.in-Some.is).0 }

pub loop-next-preserved : goal.loop-next-preserved
loop-next-preserved g c =
    rw (c.with_place-found.ensures, c.is_marked_from.ensures)
    (mark_walk-goes _ _ _ _ c.in-Some.entry _ _ (rw c.in-Some.is at c.loop-next.invariant)
    c.place-place.ensures.place c.before-next.ensures.last)

pub returns : goal.returns
returns g c =
    let first : IsFirst (passes_from (λ row. is_mark c.args.mark.now (g.R.Marked.mark row))
    c.args.start c.args.rows.now) c.loop-next.found =
    mark_walk-ends _ c.args.marks.now _ _
    (λ q counts. IsEntered-marked g.R.Marked.mark c.args.rows.now c.args.marks.now c.args.mark.now
    c.args.start q c.requires.marked counts)
    (rw c.in_default.is at c.loop-next.invariant) in
    record {
      place = sym (position-from_first _ c.args.start c.args.rows.now c.loop-next.found first);
      from = from-first _ _ _ _ first;
      within = within-first _ _ _ _ first;
    }
