use Rattle.std.proofs.Common.{◌+◌, ◌++◌, length, drop, codes, refl, sym, ap, ap₂, ◌∙◌, subst, arith}
use Rattle.std.proofs.lemmas.List.{drop_all}
use Rattle.serde_json.specs.Data.{object}
use Rattle.serde_json.specs.Written.{compact_text}
use Rattle.an_base.specs.Write.{item_commas}
use Rattle.an_manifest.specs.declared.cut.Cut.{Cut}
use Rattle.an_manifest.specs.declared.cut.SheetCuts.{SheetCuts}
use Rattle.an_manifest.specs.Cuts.{cuts_at}
use Rattle.an_served.specs.ManifestParts.{led, IsCutAt}
use Rattle.an_served.specs.Manifest.{with_one_more, canvas_page, dressed_canvases}
use Rattle.an_manifest.specs.Manifest.{canvases_in}
use Rattle.std.specs.List.{slice_range}
use Rattle.an_served.proofs.CutLemmas.{holds}
use Rattle.an_served.proofs.PushLemmas.{IsLeft, next_at, all_written, canvas_within, canvas_text, one_canvas_more}
use Rattle.an_manifest.proofs.ReadyLemmas.{is_sheet}
use Rattle.an_served.proofs.WrittenLemmas.{items_cut, items_text}
use Rattle.an_served.proofs.manifest.push_canvases.Goals as goal

abbrev none : Cut
none = record { size = 0; below = 0; first = 0; last = 0; above = 0 }

pub part_of-rest-requires : goal.part_of-rest-requires
part_of-rest-requires c =
    let tree = c.args.sheet.now in
    let fits = (items_cut tree (is_sheet tree c.text.ensures.tree c.text.ensures.kept)).fits in
    let first = ap (λ (k : SheetCuts). k.items.first) c.cuts.ensures.cuts in
    let last = ap (λ (k : SheetCuts). k.items.last) c.cuts.ensures.cuts in
    record {
      order = omega (arith, fits.values, first, last);
      within = omega (arith, fits.last, last, ap length c.text.ensures.text);
    }

pub loop-cut-init : goal.loop-cut-init
loop-cut-init c =
    let tree = c.args.sheet.now in
    let sheet = is_sheet tree c.text.ensures.tree c.text.ensures.kept in
    record {
      number = refl;
      left = record {
        left = canvases_in tree;
        cut = c.canvas_cuts-cuts.ensures.cuts;
        ready = sheet.canvases;
        text =
            ap led (c.part_of-rest.ensures
            ∙ ap₂ (λ t (k : SheetCuts). slice_range t k.items.first k.items.last)
            c.text.ensures.text c.cuts.ensures.cuts)
            ∙ items_text tree sheet;
        written = refl;
      };
    }

pub parted-requires : goal.parted-requires
parted-requires c =
    let h =
    next_at c.args.base.now c.args.name.now c.loop-cut.out.items _ c.loop-cut.rest.now
    c.loop-cut.done c.canvas_cuts-cuts.result.now c.loop-cut.cut-index none c.loop-cut-test.true
    c.loop-cut.invariant.left in
    record { within = canvas_within _ _ _ _ _ _ _ _ h }

pub loop-cut-preserved : goal.loop-cut-preserved
loop-cut-preserved c =
    let base = c.args.base.now in
    let name = c.args.name.now in
    let h =
    next_at c.args.base.now c.args.name.now c.loop-cut.out.items _ c.loop-cut.rest.now
    c.loop-cut.done c.canvas_cuts-cuts.result.now c.loop-cut.cut-index none c.loop-cut-test.true
    c.loop-cut.invariant.left in
    let members = h.ready.members in
    let one = canvas_page base name (c.loop-cut.done + 1) in
    let a = c.push.new.self.items in
    let all =
    c.args.out.items ++ item_commas (dressed_canvases base name 1 (canvases_in c.args.sheet.now)) in
    let held =
    subst (IsCutAt (codes "annotations") (object members))
    (sym (h.cut_is ∙ ap (cuts_at (codes "annotations")) h.ready.is))
    (holds (codes "annotations") members h.ready.some h.ready.order) in
    let text =
    c.parted.ensures.front ∙ canvas_text _ _ _ _ _ _ _ _ h ∙ ap compact_text h.ready.is in
    let page =
    c.as_slice-in-loop-cut.ensures.value
    ∙ c.in_ok-page.ensures base name (c.as_slice.ensures.value ∙ c.in_ok-front.ensures) in
    let canvas = c.in_ok-out.ensures.canvas members one h.ready.order held text page
    ∙ ap (λ t. a ++ compact_text (with_one_more (codes "annotations") one t)) (sym h.ready.is) in
    record {
      number = ap (λ n. n + 1) c.loop-cut.invariant.number;
      left =
          subst (λ rest. IsLeft base name c.in_ok-out.out.items all rest (c.loop-cut.done + 1)
          (drop (c.loop-cut.cut-index + 1) c.canvas_cuts-cuts.result.now))
          (sym c.parted.ensures.back)
          (one_canvas_more _ _ _ _ _ _ _ _ h a c.in_ok-out.out.items
          c.in_ok-push.ensures.items canvas);
    }

pub returns : goal.returns
returns c =
    all_written _ _ _ _ _ _ _
    (drop_all c.loop-cut.cut-index c.canvas_cuts-cuts.result.now
    (omega (arith, c.loop-cut-test.false))) c.loop-cut.invariant.left
