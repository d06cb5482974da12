use Rattle.std.proofs.Common.{◌++◌, codes, map, ap, ◌∙◌}
use Rattle.serde_json.specs.Data.{array, string}
use Rattle.serde_json.specs.View.{items_of}
use Rattle.an_base.specs.Cut.{members_in}
use Rattle.an_base.specs.Write.{member_text}
use Rattle.an_list.proofs.WrittenLemmas.{piece_then, last_piece}
use Rattle.an_anchor.specs.Comments.{item_tree, place_tree}
use Rattle.an_anchor.proofs.written.push_anchored.Goals as goal

pub returns : goal.returns
returns c =
    let places =
    c.in_ok-out-2.ensures.text
    ∙ ap (λ places. c.in_ok-out.out.items
    ++ member_text (codes "places") (array (items_of (map place_tree places))))
    c.as_slice.ensures.value in
    let state =
    c.in_ok-out-3.ensures.text
    ∙ ap (λ name. c.in_ok-out-2.out.items ++ member_text (codes "state") (string name))
    c.state_name.ensures in
    record {
      text =
          c.in_ok-out-5.ensures.text c.args.out.items
          (members_in (item_tree c.args.iri.now c.args.target c.args.anchor.now))
          (piece_then c.args.out.items _ _ _ _ c.in_ok-out.ensures.text
          (piece_then c.in_ok-out.out.items _ _ _ _ places
          (piece_then c.in_ok-out-2.out.items _ _ _ _ state
          (last_piece _ _ _ c.in_ok-out-4.ensures.text))))
          (c.len-start.ensures ∙ c.args.out.ok.0);
    }
