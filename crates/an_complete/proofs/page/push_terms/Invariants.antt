use Rattle.std.proofs.Common.{◌≡◌, ◌++◌, map, drop}
use Rattle.serde_json.specs.View.{items_of}
use Rattle.an_base.specs.Write.{item_commas}
use Rattle.an_complete.specs.Complete.{term_tree}
use Rattle.an_complete.proofs.page.push_terms.Given as goal

-- what was written, and what the terms that are left are to add
abbrev pub invariant-loop-term : goal.invariant-loop-term
invariant-loop-term l =
    l.out.items ++ item_commas (items_of (map term_tree (drop l.term-index l.terms)))
    ≡ l.initial.out.items ++ item_commas (items_of (map term_tree l.terms))
