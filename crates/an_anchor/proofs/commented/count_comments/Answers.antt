use Rattle.std.proofs.Common.{◌≡◌, ◌∙◌}
use Rattle.an_iri.specs.Iris.{note_iri}
use Rattle.an_model.specs.Bodies.{texts_of}
use Rattle.an_anchor.proofs.commented.count_comments.Goals as goal

pub returns-clause-counted : goal.returns-clause-counted
returns-clause-counted g c =
    let live = c.args.live.now in
    let texts : c.as_slice.result.now ≡ texts_of live.tree.now =
    c.as_slice.ensures.value ∙ c.in_ok-texts.ensures.texts in
    let iri : c.as_str.result.now ≡ note_iri c.args.base.now c.args.owner.now c.args.name.now =
    c.as_str.ensures.value ∙ c.in_ok-iri.ensures.iri in
    rw (texts, iri) at c.count_on.ensures.counted
