use Rattle.std.proofs.Common.{◌++◌, ap₂, ◌∙◌}
use Rattle.serde_json.specs.Data.{array, string}
use Rattle.an_manifest.specs.declared.cut.SheetCuts.{SheetCuts}
use Rattle.an_served.specs.ManifestParts.{piece}
use Rattle.an_iri.specs.Iris.{manifest_iri}
use Rattle.an_served.specs.Manifest.{contexts}
use Rattle.an_manifest.proofs.ReadyLemmas.{is_sheet}
use Rattle.an_served.proofs.WrittenLemmas.{contexts_text, heading_of}
use Rattle.an_served.proofs.manifest.push_heading.Goals as goal

pub returns : goal.returns
returns c =
    let tree = c.args.sheet.now in
    let sheet = is_sheet tree c.text-text.ensures.tree c.text-text.ensures.kept in
    let text = c.text-text.ensures.text in
    let cuts = c.cuts-cuts.ensures.cuts in
    heading_of tree sheet c.args.out.items c.in_ok-out.out.items c.in_ok-out-2.out.items
    c.in_ok-out-3.out.items c.in_ok-out-4.out.items c.in_ok-out-5.out.items
    (array contexts) (string (manifest_iri c.args.base.now c.args.name.now))
    (λ _ _. c.in_ok-out.ensures.piece
    ∙ ap₂ (λ t (k : SheetCuts). c.args.out.items ++ piece t 0 k.context) text cuts)
    (c.in_ok-out-2.ensures.text contexts (c.as_bytes.ensures.value ∙ contexts_text))
    (λ _ _. c.in_ok-out-3.ensures.piece
    ∙ ap₂ (λ t (k : SheetCuts). c.in_ok-out-2.out.items ++ piece t k.context k.id) text cuts)
    c.in_ok-out-4.ensures
    (λ _ _. c.in_ok-out-5.ensures.piece
    ∙ ap₂ (λ t (k : SheetCuts). c.in_ok-out-4.out.items ++ piece t k.id k.items.below) text cuts)
