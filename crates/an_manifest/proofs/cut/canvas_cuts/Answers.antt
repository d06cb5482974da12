use Rattle.std.proofs.Common.{sym, ap, ◌∙◌}
use Rattle.std.proofs.lemmas.Bool.{or_parts}
use Rattle.std.proofs.lemmas.List.{at_drop_more}
use Rattle.serde_json.specs.View.{items_view}
use Rattle.serde_json.specs.Written.{items_have_float}
use Rattle.an_manifest.proofs.CutCode.{cut_more}
use Rattle.an_manifest.proofs.cut.canvas_cuts.Goals as goal

pub loop-canvas-preserved : goal.loop-canvas-preserved
loop-canvas-preserved c =
    let step =
    at_drop_more items_view c.args.canvases.now c.loop-canvas.canvas-index c.canvas-item.result
    c.loop-canvas-test.true in
    record {
      all =
          cut_more c.loop-canvas.cuts.items c.push.new.self.items c.in_ok-cuts_at.field-0
          c.args.canvases.now c.loop-canvas.canvas-index c.canvas-item.result
          c.loop-canvas-test.true c.canvas-item.is c.in_ok-push.ensures.items
          c.in_ok-cuts_at.ensures.cuts
          ∙ c.loop-canvas.invariant.all;
      whole = (or_parts _ _ (sym (ap items_have_float step) ∙ c.loop-canvas.invariant.whole)).1;
    }
