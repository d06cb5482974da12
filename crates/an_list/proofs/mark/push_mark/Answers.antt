use Rattle.std.proofs.Common.{rules, ◌≡◌, ◌++◌, ap₂, ◌∙◌}
use Rattle.serde_json.specs.Written.{compact_text}
use Rattle.an_iri.specs.Iris.{mark_iri}
use Rattle.an_list.specs.Marks.{mark_of}
use Rattle.an_list.proofs.mark.push_mark.Goals as goal

pub returns : goal.returns
returns c =
    let iri : c.as_str.result.now ≡ mark_iri c.args.page.now c.args.number = search rules in
    record {
      text = c.in_ok-out-2.ensures.text
          ∙ ap₂
          (λ iri quote. c.in_ok-out.out.items ++ compact_text (mark_of iri c.args.source.now quote))
          iri c.in_ok-quote.ensures.quote
          ∙ c.in_ok-out.ensures.text _;
    }
