use Rattle.std.proofs.Common.{◌≡◌, [], ◌++◌, codes, refl, sym, ap, ◌∙◌}
use Rattle.serde_json.specs.Written.{compact_text}
use Rattle.an_base.specs.Cut.{below, above, cut, members_in, put_all}
use Rattle.an_base.specs.Write.{commas}
use Rattle.an_base.proofs.CutLemmas.{cut-empty}
use Rattle.an_served.specs.NoteParts.{served}
use Rattle.an_served.proofs.NoteLemmas.{two_pieces, no_shorter, dresses}
use Rattle.an_served.proofs.note.push_dressed.Goals as goal

pub close_members-requires : goal.close_members-requires
close_members-requires c =
    let first : c.in_ok-out.out.items
    ≡ c.args.out.items ++ commas (below (codes "created") (above [] (members_in c.args.note.now))) =
    c.in_ok-out.ensures.text [] (codes "created") refl
    (sym (cut-empty (members_in c.kept_tree.result.now)))
    (c.cuts-cuts.ensures.cuts.created
    ∙ ap (λ t. cut (codes "created") (members_in t)) (sym c.kept_tree.ensures.value))
    ∙ ap (λ t. c.args.out.items ++ commas (below (codes "created") (above [] (members_in t))))
    c.kept_tree.ensures.value in
    record {
      start =
          no_shorter c.args.out.items c.in_ok-out-2.out.items _ _ _
          (c.len-start.ensures ∙ c.args.out.ok.0) c.in_ok-out-2.out.ok.0
          (two_pieces c.args.out.items _ _ _ _ first c.in_ok-out-2.ensures.text);
    }

pub returns : goal.returns
returns c =
    let ms = members_in c.args.note.now in
    let first : c.in_ok-out.out.items
    ≡ c.args.out.items ++ commas (below (codes "created") (above [] ms)) =
    c.in_ok-out.ensures.text [] (codes "created") refl
    (sym (cut-empty (members_in c.kept_tree.result.now)))
    (c.cuts-cuts.ensures.cuts.created
    ∙ ap (λ t. cut (codes "created") (members_in t)) (sym c.kept_tree.ensures.value))
    ∙ ap (λ t. c.args.out.items ++ commas (below (codes "created") (above [] (members_in t))))
    c.kept_tree.ensures.value in
    let served_is =
    dresses c.args.id.now c.args.creator.now c.args.created c.args.modified c.args.note.now
    c.kept_tree.ensures.tree c.kept_tree.ensures.note c.kept_tree.ensures.bare in
    record {
      text =
          c.in_ok-out-3.ensures.text c.args.out.items
          (put_all (served c.args.id.now c.args.creator.now c.args.created c.args.modified) ms)
          (two_pieces c.args.out.items _ _ _ _ first c.in_ok-out-2.ensures.text
          ∙ ap (λ text. c.args.out.items ++ text) served_is.text)
          (c.len-start.ensures ∙ c.args.out.ok.0)
          ∙ ap (λ t. c.args.out.items ++ compact_text t) served_is.members;
    }
