use Rattle.std.proofs.Common.{◌++◌, [], take, sym, ap, subst, ◌∙◌, append_assoc, arith, ◌∷◌}
use Rattle.std.proofs.lemmas.List.{take_all}
use Rattle.std.specs.Prelude.{filter}
use Rattle.an_anchor.proofs.TargetLemmas.{taken-more}
use Rattle.an_anchor.specs.Comments.{anchor_item, is_about, numbered}
use Rattle.an_anchor.specs.Walk.{HasCounted}
use Rattle.an_anchor.proofs.counting.count_targets.Goals as goal

pub loop-target-preserved : goal.loop-target-preserved
loop-target-preserved c =
    let asked = c.args.asked.now in
    let about = is_about asked.iri.now in
    let row = c.args.row.now in
    let targets = c.args.targets.now in
    let i = c.loop-target.target-index in
    let target = c.target-item.result in
    let so_far = filter about (numbered row 0 (take i targets)) in
    let next = filter about (numbered row i (target ∷ [])) in
    let more = taken-more row about targets i target c.loop-target-test.true c.target-item.is in
    record {
      counted = λ comments has.
          let counted =
          c.in_ok-counted.ensures.counted (comments ++ so_far)
          (c.loop-target.invariant.counted comments has) in
          let here =
          subst (λ n. HasCounted (anchor_item asked.base.now asked.texts.now) asked.window
          (comments ++ so_far ++ filter about (numbered row n (target ∷ [])))
          c.in_ok-counted.counted) c.loop-target.invariant.number counted in
          subst (λ all. HasCounted (anchor_item asked.base.now asked.texts.now) asked.window all
          c.in_ok-counted.counted)
          (append_assoc comments so_far next ∙ ap (λ more. comments ++ more) (sym more)) here;
      number = omega (arith, c.loop-target.invariant.number);
    }

pub returns : goal.returns
returns c =
    let asked = c.args.asked.now in
    record {
      counted = λ comments has.
          rw (take_all c.loop-target.target-index c.args.targets.now
          (omega (arith, c.loop-target-test.false))) at c.loop-target.invariant.counted comments
          has;
    }
