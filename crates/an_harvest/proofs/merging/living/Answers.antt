use Rattle.std.proofs.Common.{sym, ap, ◌∙◌, subst, ◌≡◌, rules, string_bytes}
use Rattle.an_harvest.specs.Live.{Ascend, object_at, merge, after}
use Rattle.an_harvest.proofs.MergeLemmas.{ascend-merge, found-merge, ascend-filter, merge-step}
use Rattle.an_harvest.proofs.merging.living.Goals as goal

pub returns-clause-order : goal.returns-clause-order
returns-clause-order c =
    let same : c.copy_all.new.objects.items ≡ merge c.args.latest.entries c.args.known.now =
    search rules in
    subst Ascend (sym same) (ascend-merge c.args.latest.entries c.args.known.now
    c.len.ensures.ordered c.requires.known_order)

pub returns-clause-found : goal.returns-clause-found
returns-clause-found c id =
    let same : c.copy_all.new.objects.items ≡ merge c.args.latest.entries c.args.known.now =
    search rules in
    ap (λ objects. object_at objects id) same
    ∙ found-merge c.args.latest.entries c.args.known.now id c.len.ensures.ordered

pub loop-id-preserved : goal.loop-id-preserved
loop-id-preserved c =
    let left : c.in_ok-rest.rest.now ≡ after (string_bytes c.in-Some.id) c.loop-id.rest.now =
    search rules in
    record {
      order =
          subst Ascend (sym left) (ascend-filter _ c.loop-id.rest.now c.loop-id.invariant.order);
      merged =
          merge-step (c.in-Some.id, c.in-Some.left) c.next.new.self c.loop-id.id-iterator
          c.loop-id.objects.items c.copy_before.new.objects.items c.push_living.new.objects.items
          c.loop-id.rest.now c.in_ok-rest.rest.now _
          (search rules) (search rules) left (search rules) c.loop-id.invariant.merged;
    }
