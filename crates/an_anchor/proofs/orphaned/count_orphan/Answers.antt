use Rattle.std.proofs.Common.{◌++◌, sym, ap, ◌∙◌}
use Rattle.an_base.specs.Write.{item_text}
use Rattle.an_iri.specs.Iris.{note_iri}
use Rattle.an_anchor.proofs.CountLemmas.{counted-off, counted-shown}
use Rattle.an_anchor.specs.Comments.{item_tree, orphan_item}
use Rattle.an_anchor.proofs.orphaned.count_orphan.Goals as goal

pub returns-in_ok-counted : goal.returns-in_ok-counted
returns-in_ok-counted c = λ orphans has.
    let comment = c.args.comment.now in
    let items = c.in_ok-counted.ensures.items
    ∙ ap (λ anchor. c.args.counted.items.items
    ++ item_text
    (item_tree (note_iri c.args.base.now comment.owner comment.name) comment.number anchor))
    c.orphan-nowhere.ensures in
    counted-shown (orphan_item c.args.base.now) c.args.window orphans c.args.counted _ has comment
    (sym c.has_place.ensures ∙ c.if-has_place.true) items c.in_ok-counted.ensures.total

pub returns-in_ok-counted-2 : goal.returns-in_ok-counted-2
returns-in_ok-counted-2 c = λ orphans has.
    counted-off (orphan_item c.args.base.now) c.args.window orphans c.args.counted
    _ has c.args.comment.now (sym c.has_place.ensures ∙ c.if-has_place.false)
    c.in_ok-counted-2.ensures.items c.in_ok-counted-2.ensures.total
