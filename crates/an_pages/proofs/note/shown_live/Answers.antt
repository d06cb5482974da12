use Rattle.std.proofs.Common.{rules, ◌≡◌, ◌++◌, codes, ap, ◌∙◌}
use Rattle.serde_json.specs.Data.{string}
use Rattle.serde_json.specs.Written.{compact_text}
use Rattle.an_base.specs.Object.{with_member}
use Rattle.an_served.specs.Note.{dressed}
use Rattle.an_iri.specs.Iris.{note_iri}
use Rattle.an_pages.specs.Bodies.{note_context}
use Rattle.an_pages.proofs.note.shown_live.Goals as goal

pub returns : goal.returns
returns c =
    let live = c.args.live.now in
    let own = note_iri c.args.site.now.base c.args.row.now.owner c.args.row.now.name in
    let iri : c.as_str.result.now ≡ own = search rules in
    let creator : c.as_str-creator.result.now ≡ live.creator.now = search rules in
    c.from_vec.ensures.value
    ∙ c.in_ok-text.ensures.text
    ∙ ap (λ before. before
    ++ compact_text (with_member (codes "@context") (string note_context)
    (dressed c.as_str.result.now c.as_str-creator.result.now live.created live.modified
    live.tree.now))) c.new.ensures.items
    ∙ ap (λ iri. compact_text
    (with_member (codes "@context") (string note_context)
    (dressed iri c.as_str-creator.result.now live.created live.modified live.tree.now))) iri
    ∙ ap (λ creator. compact_text
    (with_member (codes "@context") (string note_context)
    (dressed own creator live.created live.modified live.tree.now))) creator
