use Rattle.std.proofs.Common.{rules}
use Rattle.std.proofs.lemmas.List.Sorted.{IsPartitionPoint-from_clause}
use Rattle.an_keep.specs.Cells.{is_before}
use Rattle.an_keep.proofs.CellLemmas.{parted, prefix-is_place}
use Rattle.an_keep.proofs.cells.place_of.Goals as goal

-- the binary search finds where those end that come before
pub returns-clause-place : goal.returns-clause-place
returns-clause-place c =
    let before = is_before c.args.tab c.args.key in
    prefix-is_place before _ _ c.partition_point.ensures.bound
    (IsPartitionPoint-from_clause before _ _ c.partition_point.ensures.partitioned
    (parted _ _ _ c.requires) (λ a r q k. search rules))
