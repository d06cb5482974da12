use Rattle.std.proofs.Common.{◌≡◌, ◌++◌, false, drop}
use Rattle.serde_json.specs.View.{items_view}
use Rattle.serde_json.specs.Written.{items_have_float}
use Rattle.an_manifest.specs.Cuts.{canvas_cuts}
use Rattle.an_manifest.proofs.cut.canvas_cuts.Given as goal

-- the cuts so far, and those of the canvases that are left, are all; none of these has a float
abbrev pub invariant-loop-canvas : goal.invariant-loop-canvas
invariant-loop-canvas l = record {
  all : l.cuts.items ++ canvas_cuts (items_view (drop l.canvas-index l.canvases))
      ≡ canvas_cuts (items_view l.canvases);
  whole : items_have_float (items_view (drop l.canvas-index l.canvases)) ≡ false;
}
