use Rattle.std.proofs.Common.{◌++◌, ap, ◌∙◌}
use Rattle.an_export.proofs.LineLemmas.{written_manifest}
use Rattle.an_export.proofs.line.push_live_manifest.Goals as goal

pub returns : goal.returns
returns c = record {
  text = c.in_ok-out.ensures.text ∙ ap (λ line. c.args.out.items ++ line)
      (written_manifest c.args.row.now c.args.created c.args.sheet.now c.as_str.result.now
      c.text.result.now (c.as_str.ensures.value ∙ c.in_ok-head.ensures.text) c.text.ensures.text);
}
