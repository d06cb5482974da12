use Rattle.std.proofs.Common.{◌≡◌, drop}
use Rattle.serde_json.specs.View.{items_view}
use Rattle.an_manifest.specs.Shape.{are_texts}
use Rattle.an_manifest.proofs.shape.are_texts.Given as goal

-- the answer for what is left is the answer for all
abbrev pub invariant-loop-item : goal.invariant-loop-item
invariant-loop-item l =
    are_texts (items_view (drop l.item-index l.items)) ≡ are_texts (items_view l.items)
