use Rattle.std.proofs.Common.{◌≡◌, ◌++◌, drop}
use Rattle.an_base.specs.Write.{item_commas}
use Rattle.an_served.specs.Manifest.{dressed_canvases}
use Rattle.an_manifest.specs.Manifest.{canvases_in}
use Rattle.an_served.proofs.PushLemmas.{IsLeft}
use Rattle.an_served.proofs.manifest.push_canvases.Given as goal

-- the canvases that are left, and what is written with them
abbrev pub invariant-loop-cut : goal.invariant-loop-cut
invariant-loop-cut l = record {
  number : l.done ≡ l.cut-index;
  left : IsLeft l.base l.name l.out.items
      (l.fn.out.items ++ item_commas (dressed_canvases l.base l.name 1 (canvases_in l.sheet)))
      l.rest l.done (drop l.cut-index l.cuts);
}
