use Rattle.std.proofs.Common.{◌≡◌, ◌+◌, [], ◌∷◌, ◌++◌, length, codes, sym, ap, ◌∙◌, arith, length-append}
use Rattle.std.specs.Vec.Iter.{into_iter_items}
use Rattle.serde_json.specs.View.{view, items_view}
use Rattle.an_served.specs.Manifest.{with_one_more, canvas_page, dressed_canvases}
use Rattle.an_served.proofs.ManifestTreeLemmas.{appended, one_more_dressed, all_dressed}
use Rattle.an_served.proofs.manifest_tree.dressed_canvases.Goals as goal

pub loop-canvas-preserved : goal.loop-canvas-preserved
loop-canvas-preserved c =
    let base = c.args.base.now in
    let name = c.args.name.now in
    let done = c.loop-canvas.dressed.items in
    let left : into_iter_items c.loop-canvas.canvas-iterator
    ≡ c.in-Some.canvas ∷ into_iter_items c.next.new.self = c.in-Some.ensures.steps.0 in
    let fewer = ap length left in
    let pushed : c.push.new.self.items ≡ done ++ c.in_ok-with_one_more.field-0 ∷ [] =
    c.in_ok-push.ensures.items in
    let longer : length c.push.new.self.items ≡ length done + 1 =
    ap length pushed ∙ length-append done (c.in_ok-with_one_more.field-0 ∷ []) in
    let page : view c.in_ok-page.page ≡ canvas_page base name (length done + 1) =
    c.in_ok-page.ensures
    ∙ ap (canvas_page base name) (omega (arith, c.len.ensures, c.loop-canvas.dressed.ok)) in
    let made : view c.in_ok-with_one_more.field-0
    ≡ with_one_more (codes "annotations") (canvas_page base name (length done + 1))
    (view c.in-Some.canvas) =
    c.in_ok-with_one_more.ensures
    ∙ ap (λ value. with_one_more (codes "annotations") value (view c.in-Some.canvas)) page in
    record {
      left = omega (arith, fewer, c.loop-canvas.invariant.left, c.in-Some.ensures.steps.1);
      count = omega (arith, fewer, longer, c.loop-canvas.invariant.count);
      all =
          rw pushed (one_more_dressed base name done c.in_ok-with_one_more.field-0 c.in-Some.canvas
          (into_iter_items c.next.new.self) made
          ∙ ap (λ values. appended (items_view done)
          (dressed_canvases base name (length done + 1) (items_view values)))
          (sym left)
          ∙ c.loop-canvas.invariant.all);
    }

pub returns : goal.returns
returns c =
    let none_left : length (into_iter_items c.loop-canvas.canvas-iterator) ≡ 0 =
    sym c.loop-canvas.invariant.left ∙ c.in-None.ensures.steps.0 in
    all_dressed c.args.base.now c.args.name.now c.loop-canvas.dressed.items _ _ none_left
    c.loop-canvas.invariant.all
