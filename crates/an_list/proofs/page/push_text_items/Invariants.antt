use Rattle.std.proofs.Common.{◌≡◌, ◌++◌, map, drop}
use Rattle.serde_json.specs.Data.{string}
use Rattle.serde_json.specs.View.{items_of}
use Rattle.an_base.specs.Write.{item_commas}
use Rattle.an_list.proofs.page.push_text_items.Given as goal

-- what was written, and what the texts that are left are to add
abbrev pub invariant-loop-text : goal.invariant-loop-text
invariant-loop-text l =
    l.out.items ++ item_commas (items_of (map string (drop l.text-index l.texts)))
    ≡ l.initial.out.items ++ item_commas (items_of (map string l.texts))
