use Rattle.std.proofs.Common.{◌≡◌, ◌++◌, map, drop}
use Rattle.std.specs.List.{filter_map}
use Rattle.serde_json.specs.View.{items_of}
use Rattle.an_base.specs.Write.{item_commas}
use Rattle.an_gather.specs.Collection.{row_item}
use Rattle.an_gather.proofs.collected.push_rows.Given as goal

-- what was written, and what the manifests that are left are to add
abbrev pub invariant-loop-row : goal.invariant-loop-row
invariant-loop-row l =
    l.out.items
    ++ item_commas
    (items_of (filter_map (row_item l.base) (map (λ row. row.now) (drop l.row-index l.rows))))
    ≡ l.initial.out.items
    ++ item_commas (items_of (filter_map (row_item l.base) (map (λ row. row.now) l.rows)))
