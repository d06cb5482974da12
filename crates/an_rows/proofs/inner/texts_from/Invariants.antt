use Rattle.std.proofs.Common.{◌≡◌, [], drop, map}
use Rattle.serde_json.specs.View.{items_view}
use Rattle.an_rows.specs.Format.{texts_from}
use Rattle.an_rows.proofs.inner.texts_from.Given as goal

-- what is left adds to the texts so far what all items add to none
abbrev pub invariant-loop-item : goal.invariant-loop-item
invariant-loop-item l =
    texts_from (map (λ t. t.now) l.texts.items) (items_view (drop l.item-index l.items))
    ≡ texts_from [] (items_view l.items)
