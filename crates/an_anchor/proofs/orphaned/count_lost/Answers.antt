use Rattle.std.proofs.Common.{◌≡◌, ◌<◌, length, take, false, Some, refl, sym, ◌∙◌, arith}
use Rattle.std.proofs.lemmas.Option.{slice_get_read}
use Rattle.std.specs.Prelude.{filter, slice_get}
use Rattle.an_anchor.proofs.JudgeLemmas.{found-at, kept-more, left-out}
use Rattle.an_anchor.proofs.orphaned.count_lost.Goals as goal
use Rattle.an_anchor.proofs.orphaned.count_lost.Goals.{then-lost-place+in_ok-counted, else-lost-place}

pub loop-place-preserved : goal.loop-place-preserved
loop-place-preserved c = λ is_lost are.
    let comments = c.args.comments.now in
    let i = c.loop-place.place in
    let comment = c.index-comments-place.result in
    let within : i < length comments = omega (arith, c.loop-place-test.true) in
    let at : slice_get comments i ≡ Some comment =
    slice_get_read comments (length comments) i comment refl within c.index-comments-place.is in
    let verdict = found-at is_lost comments c.args.lost.now i false comment are at in
    elim c.if-lost-place.branch [
      | then-lost-place+in_ok-counted w ↦
          rw (
            w.counted-is,
            kept-more is_lost comments i comment within c.index-comments-place.is
                (sym verdict ∙ w.if-lost-place.true),
          )
          (w.in_ok-counted.ensures (filter is_lost (take i comments))
          (c.loop-place.invariant is_lost are))
      | else-lost-place w ↦
          rw (
            w.counted-is,
            left-out is_lost comments i comment within c.index-comments-place.is
                (sym verdict ∙ w.if-lost-place.false),
          ) (c.loop-place.invariant is_lost are)
    ]
