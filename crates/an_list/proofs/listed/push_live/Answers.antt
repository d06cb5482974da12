use Rattle.std.proofs.Common.{rules, ◌≡◌, ◌++◌, ap, ◌∙◌}
use Rattle.serde_json.specs.Written.{compact_text}
use Rattle.an_served.specs.Note.{dressed}
use Rattle.an_iri.specs.Iris.{note_iri}
use Rattle.an_list.proofs.listed.push_live.Goals as goal

pub returns : goal.returns
returns c =
    let live = c.args.live.now in
    let iri : c.as_str.result.now
    ≡ note_iri c.args.base.now c.args.row.now.owner c.args.row.now.name = search rules in
    let creator : c.as_str-creator.result.now ≡ live.creator.now = search rules in
    record {
      text = c.in_ok-out.ensures.text
          ∙ ap (λ iri. c.args.out.items
          ++ compact_text
          (dressed iri c.as_str-creator.result.now live.created live.modified live.tree.now)) iri
          ∙ ap (λ creator. c.args.out.items
          ++ compact_text (dressed
          (note_iri c.args.base.now c.args.row.now.owner c.args.row.now.name) creator live.created
          live.modified live.tree.now)) creator;
    }
