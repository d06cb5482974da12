use Rattle.std.proofs.Common.{◌≡◌, ℕ, true, false, List, Some, None, is_some, length, slice_get, sym, ap, ◌∙◌, rules, arith}
use Rattle.std.specs.List.{sum_by}
use Rattle.an_policy.specs.Audience.{identity}
use Rattle.an_snapshot.specs.Changes.{kinds_in}
use Rattle.an_snapshot.proofs.PageLemmas.{listed-more}
use Rattle.an_snapshot.proofs.SeenListLemmas.{seen-end}
use Rattle.an_snapshot.proofs.seen.count_listed.Goals as goal
use Rattle.an_snapshot.proofs.seen.count_listed.Goals.{then-is_some, else-is_some}

pub returns-in_default : goal.returns-in_default
returns-in_default c =
    let kinds = kinds_in (identity c.args.who.now) c.args.classes.now c.args.pairs.now in
    let lists = c.args.lists.now.lists in
    let none : slice_get lists c.loop-number.number ≡ None = search rules in
    let rest =
    ap (sum_by (λ (l : List ℕ). length l)) (seen-end kinds lists c.loop-number.number none) in
    let all = c.loop-number.invariant in
    omega (arith, rest, all)

pub overflow_add-count : goal.overflow_add-count
overflow_add-count c =
    let who = identity c.args.who.now in
    let lists = c.args.lists.now.lists in
    let there : slice_get lists c.loop-number.number ≡ Some c.in-Some.list.now = search rules in
    let more =
    listed-more who c.args.classes.now c.args.pairs.now lists
    c.loop-number.number c.in-Some.list.now c.loop-number-test.true there true
    (sym c.if-is_some.true ∙ c.is_some.ensures ∙ ap (λ o. is_some o) c.kind_in.ensures) in
    let all = c.loop-number.invariant in
    let few = c.requires.few in
    omega (arith, more, all, few)

pub loop-number-preserved : goal.loop-number-preserved
loop-number-preserved c =
    let who = identity c.args.who.now in
    let lists = c.args.lists.now.lists in
    let there : slice_get lists c.loop-number.number ≡ Some c.in-Some.list.now = search rules in
    let all = c.loop-number.invariant in
    elim c.if-is_some.branch [
      | then-is_some w ↦
          let more =
          listed-more who c.args.classes.now c.args.pairs.now lists
          c.loop-number.number c.in-Some.list.now c.loop-number-test.true there true
          (sym w.if-is_some.true ∙ c.is_some.ensures ∙ ap (λ o. is_some o) c.kind_in.ensures) in
          omega (arith, more, all, w.count-is)
      | else-is_some w ↦
          let more =
          listed-more who c.args.classes.now c.args.pairs.now lists
          c.loop-number.number c.in-Some.list.now c.loop-number-test.true there false
          (sym w.if-is_some.false ∙ c.is_some.ensures ∙ ap (λ o. is_some o) c.kind_in.ensures) in
          omega (arith, more, all, w.count-is)
    ]
