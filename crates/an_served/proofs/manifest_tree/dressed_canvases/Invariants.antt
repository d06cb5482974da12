use Rattle.std.proofs.Common.{◌≡◌, ◌+◌, length}
use Rattle.std.specs.Vec.Iter.{into_iter_items, into_iter_len}
use Rattle.serde_json.specs.View.{items_view}
use Rattle.an_served.specs.Manifest.{dressed_canvases}
use Rattle.an_served.proofs.ManifestTreeLemmas.{appended}
use Rattle.an_served.proofs.manifest_tree.dressed_canvases.Given as goal

-- the canvases so far, and those that are left, are all
abbrev pub invariant-loop-canvas : goal.invariant-loop-canvas
invariant-loop-canvas l = record {
  left : into_iter_len l.canvas-iterator ≡ length (into_iter_items l.canvas-iterator);
  count : length l.dressed.items + length (into_iter_items l.canvas-iterator) ≡ l.count;
  all : appended (items_view l.dressed.items)
      (dressed_canvases l.base l.name (length l.dressed.items + 1)
      (items_view (into_iter_items l.canvas-iterator)))
      ≡ dressed_canvases l.base l.name 1 (items_view l.fn.canvases.items);
}
