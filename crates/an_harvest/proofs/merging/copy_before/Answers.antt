use Rattle.std.proofs.Common.{sym, ap, ◌∙◌, rules, ◌≡◌, ◌∷◌, [], ◌++◌, subst, Equal, Greater, Less}
use Rattle.std.proofs.lemmas.List.{append_assoc}
use Rattle.std.proofs.lemmas.Map.Keys.{sorted_tail}
use Rattle.an_harvest.specs.Live.{Ascend, before}
use Rattle.an_harvest.proofs.MergeLemmas.{along, all-copied}
use Rattle.an_harvest.proofs.merging.copy_before.Goals as goal

pub returns-in-Equal-clause-copied : goal.returns-in-Equal-clause-copied
returns-in-Equal-clause-copied c =
    let seen =
    along c.args.id.now c.in-Some.object.now c.in-Some.others.now c.loop-object.rest.now
    (search rules) c.loop-object.invariant.order Equal (search rules) in
    all-copied c.args.id.now c.loop-object.objects.items c.loop-object.rest.now _ seen.0
    c.loop-object.invariant.copied

pub returns-in-Equal-clause-left : goal.returns-in-Equal-clause-left
returns-in-Equal-clause-left c =
    let seen =
    along c.args.id.now c.in-Some.object.now c.in-Some.others.now c.loop-object.rest.now
    (search rules) c.loop-object.invariant.order Equal (search rules) in
    sym seen.1 ∙ c.loop-object.invariant.left

pub returns-in-Greater-clause-copied : goal.returns-in-Greater-clause-copied
returns-in-Greater-clause-copied c =
    let seen =
    along c.args.id.now c.in-Some.object.now c.in-Some.others.now c.loop-object.rest.now
    (search rules) c.loop-object.invariant.order Greater (search rules) in
    all-copied c.args.id.now c.loop-object.objects.items c.loop-object.rest.now _ seen.0
    c.loop-object.invariant.copied

pub returns-in-Greater-clause-left : goal.returns-in-Greater-clause-left
returns-in-Greater-clause-left c =
    let seen =
    along c.args.id.now c.in-Some.object.now c.in-Some.others.now c.loop-object.rest.now
    (search rules) c.loop-object.invariant.order Greater (search rules) in
    sym seen.1 ∙ c.loop-object.invariant.left

pub loop-object-preserved : goal.loop-object-preserved
loop-object-preserved c =
    let first : c.loop-object.rest.now ≡ c.in-Some.object.now ∷ c.in-Some.others.now =
    search rules in
    let seen =
    along c.args.id.now c.in-Some.object.now c.in-Some.others.now c.loop-object.rest.now first
    c.loop-object.invariant.order Less (search rules) in
    let more : c.copy_one.new.objects.items
    ≡ c.loop-object.objects.items ++ c.in-Some.object.now ∷ [] = search rules in
    record {
      order = sorted_tail _ _ _ (subst Ascend first c.loop-object.invariant.order);
      copied =
          ap (λ xs. xs ++ before c.args.id.now c.in-Some.others.now) more
          ∙ append_assoc c.loop-object.objects.items (c.in-Some.object.now ∷ [])
          (before c.args.id.now c.in-Some.others.now)
          ∙ ap (λ xs. c.loop-object.objects.items ++ xs) (sym seen.0)
          ∙ c.loop-object.invariant.copied;
      left = sym seen.1 ∙ c.loop-object.invariant.left;
    }
