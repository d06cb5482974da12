use Rattle.std.proofs.Common.{ℕ, ◌+◌, List, ◌∷◌, Bool, drop, map, sym, ap, ◌∙◌}
use Rattle.std.specs.Prelude.{fold, filter}
use Rattle.an_base.specs.TextSet.{with_text}
use Rattle.an_query.specs.Lent.{is_lent}
use Rattle.an_query.specs.Given.{is_other}
use Rattle.an_query.proofs.OtherLemmas.{names_left, seen_before, seen_new}
use Rattle.an_query.proofs.given.others_in.Goals as goal
use Rattle.an_query.proofs.given.others_in.Goals.{then-branch+in_ok-copy+in_ok-push, else-branch}

pub loop-pair-preserved : goal.loop-pair-preserved
loop-pair-preserved c =
    let name = c.as_str.result.now in
    let test = is_other c.args.reads.now in
    let before = c.loop-pair.others.items in
    let rest = map (λ pair. pair.name) (drop (c.loop-pair.pair-index + 1) c.args.pairs.now) in
    let here =
    names_left c.args.pairs.now c.loop-pair.pair-index c.pair-item.result c.loop-pair-test.true
    c.pair-item.is
    ∙ ap (λ name. name ∷ rest) (sym c.as_str.ensures.value) in
    let left =
    ap (λ names. fold with_text before (filter test names)) (sym here)
    ∙ c.loop-pair.invariant.others in
    let old : List ℕ → Bool = λ other. is_lent other c.loop-pair.seen in
    let now : List ℕ → Bool = λ other. is_lent other c.is_new.new.seen in
    elim c.if-branch.branch [
      | then-branch+in_ok-copy+in_ok-push w ↦
          let copied = w.in_ok-copy.ensures.equal ∙ sym c.as_str.ensures.value in
          let next =
          seen_new test before rest name old now c.loop-pair.invariant.seen
          c.in_ok-is_new.ensures.seen (sym c.in_ok-is_new.ensures.new ∙ w.if-branch.true) in
          rw (w.others-is, w.in_ok-push.ensures.items, copied)
          (record { others = next.same ∙ left; seen = next.all })
      | else-branch w ↦
          let next =
          seen_before test before rest name old now c.loop-pair.invariant.seen
          c.in_ok-is_new.ensures.seen (sym c.in_ok-is_new.ensures.new ∙ w.if-branch.false) in
          rw w.others-is (record { others = next.same ∙ left; seen = next.all })
    ]
