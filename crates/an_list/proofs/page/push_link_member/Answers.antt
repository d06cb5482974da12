use Rattle.std.proofs.Common.{rules, ◌≡◌, ◌++◌, ap, ◌∙◌}
use Rattle.an_base.specs.Write.{member_text}
use Rattle.an_list.specs.Page.{page_iri, page_named}
use Rattle.an_list.proofs.page.push_link_member.Goals as goal

pub returns : goal.returns
returns c =
    let iri : c.as_str.result.now ≡ page_iri c.args.whole.now c.args.number = search rules in
    record {
      text =
          c.in_ok-out.ensures.text
          ∙ ap
          (λ iri. c.args.out.items ++ member_text c.args.name.now (page_named c.args.form iri)) iri;
    }
