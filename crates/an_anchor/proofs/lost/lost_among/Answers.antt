use Rattle.std.proofs.Common.{◌<◌, length, subst, sym}
use Rattle.std.specs.List.{All, range_with_len}
use Rattle.std.specs.List.Sorted.{IsPermutation}
use Rattle.an_policy.specs.Audience.{identity}
use Rattle.an_state.specs.View.{view_of}
use Rattle.an_anchor.proofs.JudgeLemmas.{all-judged, places-within}
use Rattle.an_anchor.specs.Walk.{is_lost}
use Rattle.an_anchor.proofs.lost.lost_among.Goals as goal

pub judge-requires : goal.judge-requires
judge-requires g c = record {
  within =
      subst (All (λ place. place < length c.args.comments.now)) (sym c.as_slice.ensures.value)
      (places-within (length c.args.comments.now) _ c.in_ok-order.ensures);
}

pub returns : goal.returns
returns g c =
    let view = view_of (g.T.Look.state c.args.look.now) (identity c.args.who.now) in
    record {
      lost =
          all-judged (is_lost c.args.base.now view) c.args.comments.now c.in_ok-lost.lost.items
          c.as_slice.result.now c.in_ok-lost.ensures.all
          (subst (IsPermutation (range_with_len 0 (length c.args.comments.now)))
          (sym c.as_slice.ensures.value) c.in_ok-order.ensures) c.in_ok-lost.ensures.judged;
    }
