use Rattle.std.proofs.Common.{◌≤◌, max, ◌∙◌, subst}
use Rattle.an_snapshot.proofs.StreamLemmas.{few-below, lists-rise, skipped}
use Rattle.an_snapshot.proofs.stream.next_seen.Goals as goal

pub next_place-requires-clause-rise : goal.next_place-requires-clause-rise
next_place-requires-clause-rise c = lists-rise c.args.stream.now c.requires.stream

pub next_place-requires-clause-few : goal.next_place-requires-clause-few
next_place-requires-clause-few c = few-below c.args.stream.now c.requires.stream

pub returns-else-place-from-clause-seen : goal.returns-else-place-from-clause-seen
returns-else-place-from-clause-seen c =
    let place = c.walk_unseen-place.result in
    let next = c.next_place.result in
    let within : next ≤ max place c.args.stream.now.filed.now.count =
    subst (λ n. next ≤ max place n) c.count.ensures.count c.next_place.ensures.within in
    skipped c.args.stream.now c.requires.stream place next c.next_place.ensures.after within
    c.next_place.ensures.few
    ∙ c.walk_unseen-place.ensures.seen
