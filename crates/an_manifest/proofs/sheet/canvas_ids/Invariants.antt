use Rattle.std.proofs.Common.{◌≡◌, ◌++◌, drop}
use Rattle.serde_json.specs.View.{items_view}
use Rattle.an_manifest.specs.Shape.{canvas_ids}
use Rattle.an_manifest.proofs.sheet.canvas_ids.Given as goal

-- the ids so far, and those that are left, are all
abbrev pub invariant-loop-canvas : goal.invariant-loop-canvas
invariant-loop-canvas l =
    l.ids.items ++ canvas_ids (items_view (drop l.canvas-index l.canvases))
    ≡ canvas_ids (items_view l.canvases)
