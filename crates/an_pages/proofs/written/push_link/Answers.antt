use Rattle.std.proofs.Common.{rules, ◌≡◌, ◌++◌, codes, ap, ◌∙◌}
use Rattle.serde_json.specs.Data.{string}
use Rattle.an_base.specs.Cut.{members_in}
use Rattle.an_base.specs.Write.{member_text}
use Rattle.an_list.proofs.WrittenLemmas.{piece_then, last_piece}
use Rattle.an_pages.specs.Container.{container_link}
use Rattle.an_pages.proofs.written.push_link.Goals as goal

pub returns : goal.returns
returns c =
    let path : c.as_str.result.now ≡ c.args.whole.now.path = search rules in
    record {
      text =
          c.in_ok-out-4.ensures.text c.args.out.items
          (members_in (container_link c.args.whole.now c.args.total))
          (piece_then c.args.out.items _ _ _ _
          (c.in_ok-out.ensures.text
          ∙ ap (λ id. c.args.out.items ++ member_text (codes "id") (string id)) path)
          (piece_then c.in_ok-out.out.items _ _ _ _ c.in_ok-out-2.ensures.text
          (last_piece _ _ _ c.in_ok-out-3.ensures.text)))
          (c.len-start.ensures ∙ c.args.out.ok.0);
    }
