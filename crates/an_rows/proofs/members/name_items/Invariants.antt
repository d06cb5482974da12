use Rattle.std.proofs.Common.{◌≡◌, ◌++◌, drop}
use Rattle.an_base.specs.Write.{item_commas}
use Rattle.an_rows.specs.RowTree.{text_items}
use Rattle.an_rows.proofs.members.name_items.Given as goal

-- what was written, and what the names that are left are to add
abbrev pub invariant-loop-name : goal.invariant-loop-name
invariant-loop-name l =
    l.out.items ++ item_commas (text_items (drop l.name-index l.names))
    ≡ item_commas (text_items l.names)
