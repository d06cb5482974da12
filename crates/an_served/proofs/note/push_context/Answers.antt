use Rattle.std.proofs.Common.{◌≡◌, [], ◌++◌, codes, refl, sym, ap, ◌∙◌}
use Rattle.an_base.specs.Cut.{below, above, members_in}
use Rattle.an_base.specs.Write.{commas}
use Rattle.an_base.proofs.CutLemmas.{above-empty, cut-empty}
use Rattle.an_served.proofs.NoteLemmas.{three_pieces}
use Rattle.an_served.proofs.note.push_context.Goals as goal

pub returns : goal.returns
returns c =
    let ms = members_in c.args.tree.now in
    let first : c.in_ok-out.out.items ≡ c.args.out.items ++ commas (below (codes "@context") ms) =
    c.in_ok-out.ensures.text [] (codes "@context") refl (sym (cut-empty ms)) c.requires.cuts.context
    ∙ ap (λ all. c.args.out.items ++ commas (below (codes "@context") all)) (above-empty ms) in
    record {
      text =
          three_pieces c.args.out.items _ _ _ (commas (below (codes "@context") ms)) _
          (commas (below (codes "created") (above (codes "@context") ms))) first
          c.in_ok-out-2.ensures.text
          (c.in_ok-out-3.ensures.text (codes "@context")
          (codes "created") refl c.requires.cuts.context c.requires.cuts.created);
    }
