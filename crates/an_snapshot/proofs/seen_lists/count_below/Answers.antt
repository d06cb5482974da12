use Rattle.std.proofs.Common.{ltb, rules}
use Rattle.std.proofs.lemmas.List.Sorted.{IsPartitionPoint-from_clause}
use Rattle.an_snapshot.proofs.SeenListLemmas.{below-parted, count-parted}
use Rattle.an_snapshot.proofs.seen_lists.count_below.Goals as goal

pub returns : goal.returns
returns c =
    let places = c.args.places.now in
    let place = c.args.place in
    count-parted (λ p. ltb p place) places c.partition_point.result c.partition_point.ensures.bound
    (IsPartitionPoint-from_clause (λ p. ltb p place) places c.partition_point.result
    c.partition_point.ensures.partitioned (below-parted place places c.requires.rises)
    (λ a r q k. search rules))
