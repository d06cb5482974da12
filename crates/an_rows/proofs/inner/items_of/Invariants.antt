use Rattle.std.proofs.Common.{◌≡◌, ◌++◌, drop, map}
use Rattle.an_base.specs.Write.{item_commas}
use Rattle.an_rows.specs.Format.{text_items}
use Rattle.an_rows.proofs.inner.items_of.Given as goal

-- what was written, and what the texts that are left are to add
abbrev pub invariant-loop-text : goal.invariant-loop-text
invariant-loop-text l =
    l.out.items ++ item_commas (text_items (map (λ t. t.now) (drop l.text-index l.texts)))
    ≡ item_commas (text_items (map (λ t. t.now) l.texts))
