use Rattle.std.proofs.Common.{◌≡◌}
use Rattle.serde_json.specs.View.{members_view}
use Rattle.an_manifest.specs.Shape.{are_text_lists}
use Rattle.an_manifest.proofs.shape.are_text_lists.Given as goal

-- the answer for what is left is the answer for all
abbrev pub invariant-loop-tree : goal.invariant-loop-tree
invariant-loop-tree l =
    are_text_lists (members_view l.tree-iterator) ≡ are_text_lists (members_view l.members.entries)
