use Rattle.std.proofs.Common.{◌≡◌, codes, length, refl, ap, ◌∙◌}
use Rattle.serde_json.specs.View.{members_view}
use Rattle.an_base.specs.Cut.{below}
use Rattle.an_base.specs.Write.{commas}
use Rattle.an_model.proofs.CutTextLemmas.{up_to_first, up_to_next}
use Rattle.an_model.proofs.cuts.write_front.Goals as goal

pub returns : goal.returns
returns c =
    let ms = members_view c.args.members.now.entries in
    let context : c.in_ok-text.text.items ≡ commas (below (codes "@context") ms) =
    up_to_first (codes "@context") ms _ _ c.new.ensures.items c.in_ok-text.ensures.text in
    let created : c.in_ok-text-2.text.items ≡ commas (below (codes "created") ms) =
    up_to_next (codes "@context") (codes "created") ms _ _ c.requires.order refl context
    c.in_ok-text-2.ensures.text in
    let creator : c.in_ok-text-3.text.items ≡ commas (below (codes "creator") ms) =
    up_to_next (codes "created") (codes "creator") ms _ _ c.requires.order refl created
    c.in_ok-text-3.ensures.text in
    record {
      text = creator;
      context =
          c.in_ok-context.ensures.value ∙ c.len.ensures ∙ c.in_ok-text.text.ok.0
          ∙ ap length context;
      created =
          c.in_ok-created.ensures.value ∙ c.len-2.ensures ∙ c.in_ok-text-2.text.ok.0
          ∙ ap length created;
      creator =
          c.in_ok-creator.ensures.value ∙ c.len-3.ensures ∙ c.in_ok-text-3.text.ok.0
          ∙ ap length creator;
    }
