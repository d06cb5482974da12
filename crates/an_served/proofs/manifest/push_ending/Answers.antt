use Rattle.std.proofs.Common.{◌-◌, ◌++◌, codes, ap, ap₂, ◌∙◌}
use Rattle.serde_json.specs.Data.{array}
use Rattle.an_base.specs.Items.{trees_in}
use Rattle.an_manifest.specs.declared.cut.SheetCuts.{SheetCuts}
use Rattle.an_served.specs.ManifestParts.{piece}
use Rattle.an_served.specs.Manifest.{with_last, search_service}
use Rattle.an_manifest.proofs.ReadyLemmas.{is_sheet}
use Rattle.an_served.proofs.WrittenLemmas.{ending_of, service_cut}
use Rattle.an_served.proofs.manifest.push_ending.Goals as goal

pub returns : goal.returns
returns c =
    let tree = c.args.sheet.now in
    let sheet = is_sheet tree c.text-text.ensures.tree c.text-text.ensures.kept in
    let text = c.text-text.ensures.text in
    let cuts = c.cuts-cuts.ensures.cuts in
    let values = trees_in (codes "service") tree in
    let one = search_service c.args.base.now c.args.name.now in
    let b = c.in_ok-out-2.out.items in
    let kept =
    ap₂ (λ t (k : SheetCuts). piece t k.service.first k.service.last) text cuts
    ∙ (service_cut tree sheet).values in
    ending_of tree sheet c.args.out.items c.in_ok-out.out.items b c.in_ok-out-3.out.items
    (array (with_last one values))
    (λ _ _. c.in_ok-out.ensures.piece
    ∙ ap₂
    (λ t (k : SheetCuts). c.args.out.items ++ piece t k.items.above k.service.below) text cuts)
    (c.in_ok-out-2.ensures.member values one kept
    (c.as_slice.ensures.value ∙ c.in_ok-service.ensures))
    (λ _ _. c.in_ok-out-3.ensures.piece
    ∙ ap (λ n. b ++ piece c.text-text.result.now c.cuts-cuts.result.service.above n)
    c.saturating_sub.ensures
    ∙ ap₂ (λ t (k : SheetCuts). b ++ piece t k.service.above (k.service.size - 1)) text cuts)
