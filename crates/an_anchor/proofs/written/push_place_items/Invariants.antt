use Rattle.std.proofs.Common.{◌≡◌, ◌++◌, map, drop}
use Rattle.serde_json.specs.View.{items_of}
use Rattle.an_base.specs.Write.{item_commas}
use Rattle.an_anchor.specs.Comments.{place_tree}
use Rattle.an_anchor.proofs.written.push_place_items.Given as goal

-- what was written, and what the places that are left are to add
abbrev pub invariant-loop-place : goal.invariant-loop-place
invariant-loop-place l =
    l.out.items ++ item_commas (items_of (map place_tree (drop l.place-index l.places)))
    ≡ l.initial.out.items ++ item_commas (items_of (map place_tree l.places))
