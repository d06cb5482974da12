use Rattle.std.proofs.Common.{[], ◌++◌, map, refl, ap, ◌∙◌}
use Rattle.serde_json.specs.View.{items_of}
use Rattle.serde_json.specs.Written.{compact_text}
use Rattle.an_base.specs.Write.{item_commas}
use Rattle.an_complete.specs.Complete.{term_tree}
use Rattle.an_complete.proofs.TextLemmas.{all_pieces, head_text, written_members, written_page}
use Rattle.an_complete.proofs.page.terms_text.Goals as goal

pub returns : goal.returns
returns c =
    let iri = c.args.iri.now in
    let ignored = c.args.ignored.now in
    let terms = c.args.terms.now in
    let items = items_of (map term_tree terms) in
    record {
      text = c.from_vec.ensures.value
          ∙ c.in_ok-out-4.ensures.text [] (written_members iri ignored terms)
          (all_pieces iri ignored terms [] _ _ _
          (c.in_ok-out.ensures.text
          ∙ ap (λ before. before ++ head_text iri ignored) c.new-2.ensures.items)
          (c.in_ok-out-2.ensures.text items
          (c.as_slice.ensures.value ∙ c.in_ok-items.ensures.text
          ∙ ap (λ before. before ++ item_commas items) c.new.ensures.items))
          c.in_ok-out-3.ensures.text) refl
          ∙ ap compact_text (written_page iri ignored terms);
    }
