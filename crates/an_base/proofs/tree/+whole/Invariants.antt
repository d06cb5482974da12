use Rattle.std.proofs.Common.{◌≡◌, drop}
use Rattle.std.specs.Map.{values_of}
use Rattle.serde_json.specs.View.{items_view}
use Rattle.serde_json.specs.Written.{items_have_float}
use Rattle.an_base.specs.Tree.{items_are_whole}
use Rattle.an_base.proofs.tree.+whole.Given as goal

-- the items that are left answer for all
abbrev pub invariant-items_are_whole-loop-item : goal.invariant-items_are_whole-loop-item
invariant-items_are_whole-loop-item l = record {
  whole : items_are_whole (items_view l.items)
      ≡ items_are_whole (items_view (drop l.item-index l.items));
  no_float : items_have_float (items_view l.items)
      ≡ items_have_float (items_view (drop l.item-index l.items));
}

abbrev pub invariant-members_are_whole-loop-member : goal.invariant-members_are_whole-loop-member
invariant-members_are_whole-loop-member l = record {
  whole : items_are_whole (items_view (values_of l.members.entries))
      ≡ items_are_whole (items_view l.member-iterator);
  no_float : items_have_float (items_view (values_of l.members.entries))
      ≡ items_have_float (items_view l.member-iterator);
}
