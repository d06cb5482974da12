use Rattle.std.proofs.Common.{◌++◌, codes, ap, ◌∙◌}
use Rattle.json.specs.Print.{escape}
use Rattle.an_iri.specs.Iris.{manifest_iri}
use Rattle.an_served.proofs.PageLemmas.{front_quoted, front_whole}
use Rattle.an_served.proofs.manifest.page_front.Goals as goal

pub returns : goal.returns
returns c =
    let base = c.args.base.now in
    let name = c.args.name.now in
    c.in_ok-extend_from_slice-2.ensures.items
    ∙ ap (λ t. t ++ codes "/canvases/")
    (c.without_last-out.ensures (codes "{\"id\":\"" ++ escape (manifest_iri base name)) 34
    (c.in_ok-out.ensures.text
    ∙ front_quoted _ _ _ (c.in_ok-extend_from_slice.ensures.items
    ∙ ap (λ t. t ++ codes "{\"id\":") c.new-out.ensures.items)
    (c.as_str.ensures.value ∙ c.in_ok-iri.ensures.iri)))
    ∙ front_whole base name
