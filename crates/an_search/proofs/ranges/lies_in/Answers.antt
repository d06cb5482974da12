use Rattle.std.proofs.Common.{rules, ◌∙◌}
use Rattle.std.proofs.lemmas.List.Sorted.{IsPartitionPoint-from_clause}
use Rattle.an_search.proofs.RangeLemmas.{ends_before, found_in, parted}
use Rattle.an_search.proofs.ranges.lies_in.Goals as goal

pub returns : goal.returns
returns c =
    let moment = c.args.moment in
    let ranges = c.args.ranges.now in
    let order = c.requires.ordered in
    let place = c.partition_point-place.result in
    c.has_begun_at.ensures
    ∙ found_in moment ranges place order c.partition_point-place.ensures.bound
    (IsPartitionPoint-from_clause
    (ends_before moment) ranges place c.partition_point-place.ensures.partitioned
    (parted moment ranges order) (λ a r q k. search rules))
