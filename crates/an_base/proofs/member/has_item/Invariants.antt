use Rattle.std.proofs.Common.{◌≡◌, drop}
use Rattle.serde_json.specs.View.{items_view}
use Rattle.an_base.specs.Member.{has_item}
use Rattle.an_base.proofs.member.has_item.Given as goal

-- the items that are left answer for all
abbrev pub invariant-loop-item : goal.invariant-loop-item
invariant-loop-item l =
    has_item l.text (items_view l.items) ≡ has_item l.text (items_view (drop l.item-index l.items))
