use Rattle.std.proofs.Common.{◌++◌, ap, ap₂, ◌∙◌}
use Rattle.std.proofs.lemmas.Result.{IfOk-weaker}
use Rattle.std.specs.Prelude.{is_some}
use Rattle.an_manifest.specs.declared.cut.SheetCuts.{SheetCuts}
use Rattle.an_manifest.proofs.ReadyLemmas.{is_sheet}
use Rattle.an_served.specs.ManifestParts.{piece}
use Rattle.an_served.proofs.LabelLemmas.{has_label}
use Rattle.an_served.proofs.WrittenLemmas.{label_written}
use Rattle.an_served.proofs.manifest.push_label.Goals as goal

pub returns : goal.returns
returns c =
    let tree = c.args.sheet.now in
    let sheet = is_sheet tree c.text-text.ensures.tree c.text-text.ensures.kept in
    record {
      text = IfOk-weaker c.push_piece.result _ _ (λ v is label found. is
          ∙ ap₂ (λ t (k : SheetCuts). c.args.out.items ++ piece t k.label.below k.label.above)
          c.text-text.ensures.text c.cuts.ensures.cuts
          ∙ ap (λ text. c.args.out.items ++ text) (label_written tree sheet label found))
          c.push_piece.ensures.piece;
      label = ap is_some (has_label tree c.text-text.ensures.kept);
    }
