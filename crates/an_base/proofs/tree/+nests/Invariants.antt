use Rattle.std.proofs.Common.{◌≡◌, drop, nat_le}
use Rattle.std.specs.Map.{values_of}
use Rattle.serde_json.specs.Data.{items_depth}
use Rattle.serde_json.specs.View.{items_view}
use Rattle.an_base.proofs.tree.+nests.Given as goal

-- the items that are left answer for all
abbrev pub invariant-items_nest_within-loop-item : goal.invariant-items_nest_within-loop-item
invariant-items_nest_within-loop-item l =
    nat_le (items_depth (items_view l.items)) l.levels
    ≡ nat_le (items_depth (items_view (drop l.item-index l.items))) l.levels

abbrev pub invariant-members_nest_within-loop-member :
    goal.invariant-members_nest_within-loop-member
invariant-members_nest_within-loop-member l =
    nat_le (items_depth (items_view (values_of l.members.entries))) l.levels
    ≡ nat_le (items_depth (items_view l.member-iterator)) l.levels
