use Rattle.std.proofs.Common.{◌≡◌, [], codes, length, refl, ap, ◌∙◌}
use Rattle.serde_json.specs.View.{members_view}
use Rattle.an_base.specs.Cut.{below}
use Rattle.an_base.specs.Write.{commas}
use Rattle.an_model.proofs.CutTextLemmas.{up_to_next, up_to_end}
use Rattle.an_model.proofs.cuts.write_rest.Goals as goal

pub returns : goal.returns
returns c =
    let ms = members_view c.args.members.now.entries in
    let id : c.in_ok-text.text.items ≡ commas (below (codes "id") ms) =
    up_to_next (codes "creator") (codes "id") ms _ _ c.requires.order refl c.requires.text
    c.in_ok-text.ensures.text in
    let modified : c.in_ok-text-2.text.items ≡ commas (below (codes "modified") ms) =
    up_to_next (codes "id") (codes "modified") ms _ _ c.requires.order refl id
    c.in_ok-text-2.ensures.text in
    let whole : c.in_ok-text-3.text.items ≡ commas ms =
    up_to_end (codes "modified") ms _ _ c.requires.order modified c.in_ok-text-3.ensures.text in
    record {
      text = c.in_ok-text-4.ensures.text [] ms whole refl;
      cuts = record {
        context = c.requires.context;
        created = c.requires.created;
        creator = c.requires.creator;
        id = c.in_ok-id.ensures.value ∙ c.len.ensures ∙ c.in_ok-text.text.ok.0 ∙ ap length id;
        modified =
            c.in_ok-modified.ensures.value ∙ c.len-2.ensures ∙ c.in_ok-text-2.text.ok.0
            ∙ ap length modified;
      };
    }
