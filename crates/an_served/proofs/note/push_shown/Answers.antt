use Rattle.std.proofs.Common.{◌≡◌, ◌++◌, codes, ap, ◌∙◌}
use Rattle.serde_json.specs.Data.{member, string}
use Rattle.serde_json.specs.Written.{compact_text}
use Rattle.an_base.specs.Cut.{below, above, members_in, put_all}
use Rattle.an_base.specs.Write.{member_text, commas}
use Rattle.an_served.specs.NoteParts.{served}
use Rattle.an_served.proofs.NoteLemmas.{three_then, from_empty, shows}
use Rattle.an_served.proofs.note.push_shown.Goals as goal

pub returns : goal.returns
returns c =
    let ms = members_in c.args.note.now in
    let first : c.in_ok-out.out.items ≡ c.args.out.items ++ (commas (below (codes "@context") ms)
    ++ (member_text (codes "@context") (string c.args.context.now)
    ++ commas (below (codes "created") (above (codes "@context") ms)))) =
    c.in_ok-out.ensures.text
    ∙ ap (λ t. c.args.out.items ++ (commas (below (codes "@context") (members_in t))
    ++ (member_text (codes "@context") (string c.args.context.now)
    ++ commas (below (codes "created") (above (codes "@context") (members_in t))))))
    c.kept_tree.ensures.value in
    let served_is =
    shows c.args.context.now c.args.id.now c.args.creator.now c.args.created c.args.modified
    c.args.note.now c.kept_tree.ensures.tree c.kept_tree.ensures.note c.kept_tree.ensures.bare in
    record {
      text = c.in_ok-out-3.ensures.text c.args.out.items
          (put_all (member (codes "@context") (string c.args.context.now)
          (served c.args.id.now c.args.creator.now c.args.created c.args.modified)) ms)
          (from_empty c.args.out.items (codes "@context") ms _ _
          (three_then c.args.out.items _ _ (commas (below (codes "@context") ms))
          (member_text (codes "@context") (string c.args.context.now))
          (commas (below (codes "created") (above (codes "@context") ms))) _ first
          c.in_ok-out-2.ensures.text)
          ∙ ap (λ text. c.args.out.items ++ text) served_is.text)
          (c.len-start.ensures ∙ c.args.out.ok.0)
          ∙ ap (λ t. c.args.out.items ++ compact_text t) served_is.members;
    }
