use Rattle.std.proofs.Common.{map, ◌∙◌}
use Rattle.serde_json.specs.Data.{string, array}
use Rattle.serde_json.specs.View.{items_of}
use Rattle.an_base.proofs.WriteLemmas.{member_joined}
use Rattle.an_list.proofs.page.push_texts_member.Goals as goal

pub returns : goal.returns
returns c =
    let texts = items_of (map string c.args.texts.now) in
    record {
      text =
          member_joined c.args.name.now (array texts) c.args.out.items _ _ c.in_ok-out.ensures.text
          (c.in_ok-out-3.ensures.text c.in_ok-out.out.items texts c.in_ok-out-2.ensures.text
          (c.len-start.ensures ∙ c.in_ok-out.out.ok.0));
    }
