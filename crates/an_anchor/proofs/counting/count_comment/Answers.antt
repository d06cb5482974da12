use Rattle.std.proofs.Common.{◌≡◌, ◌++◌, sym, ap, ◌∙◌}
use Rattle.an_base.specs.Write.{item_text}
use Rattle.an_iri.specs.Iris.{note_iri}
use Rattle.an_anchor.proofs.CountLemmas.{counted-off, counted-shown}
use Rattle.an_anchor.specs.Comments.{anchor_item, item_tree}
use Rattle.an_anchor.specs.Resolve.{resolved}
use Rattle.an_anchor.specs.declared.comment.Comment.{Comment}
use Rattle.an_anchor.proofs.counting.count_comment.Goals as goal

pub returns-in_ok-counted : goal.returns-in_ok-counted
returns-in_ok-counted c =
    let asked = c.args.asked.now in
    let row = c.args.row.now in
    let target = c.args.target.now in
    let comment : Comment =
    record { owner = row.owner; name = row.name; number = c.args.number; target = target } in
    let owner : c.owned_by.result.now ≡ row.owner = c.owned_by.ensures.owner in
    let name : c.name.result.now ≡ row.name = c.name.ensures.name in
    let anchor =
    c.in_ok-anchor.ensures.anchor ∙ ap (resolved asked.texts.now) c.as_slice.ensures.value in
    let items = c.in_ok-counted.ensures.items
    ∙ ap (λ anchor. c.args.counted.items.items
    ++ item_text (item_tree (note_iri asked.base.now c.owned_by.result.now c.name.result.now)
    c.args.number anchor)) anchor
    ∙ ap (λ owner. c.args.counted.items.items
    ++ item_text (item_tree (note_iri asked.base.now owner c.name.result.now) c.args.number
    (resolved asked.texts.now target.selectors))) owner
    ∙ ap (λ name. c.args.counted.items.items
    ++ item_text (item_tree (note_iri asked.base.now row.owner name) c.args.number
    (resolved asked.texts.now target.selectors))) name in
    record {
      counted = λ comments has.
          counted-shown (anchor_item asked.base.now asked.texts.now)
          asked.window comments c.args.counted _ has comment
          (sym c.has_place.ensures ∙ c.if-has_place.true) items c.in_ok-counted.ensures.total;
    }

pub returns-in_ok-counted-2 : goal.returns-in_ok-counted-2
returns-in_ok-counted-2 c =
    let asked = c.args.asked.now in
    let row = c.args.row.now in
    let comment : Comment = record {
      owner = row.owner;
      name = row.name;
      number = c.args.number;
      target = c.args.target.now;
    } in
    record {
      counted = λ comments has.
          counted-off (anchor_item asked.base.now asked.texts.now) asked.window comments
          c.args.counted _ has comment (sym c.has_place.ensures ∙ c.if-has_place.false)
          c.in_ok-counted-2.ensures.items c.in_ok-counted-2.ensures.total;
    }
