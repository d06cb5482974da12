use Rattle.std.proofs.Common.{◌++◌, length, codes, ap, ◌∙◌, length-append, arith}
use Rattle.serde_json.specs.Data.{object, array, put}
use Rattle.an_base.specs.Items.{trees_in}
use Rattle.an_served.specs.ManifestParts.{piece}
use Rattle.an_served.specs.Manifest.{with_last}
use Rattle.an_served.proofs.PushLemmas.{canvas_written}
use Rattle.an_served.proofs.manifest.push_canvas.Goals as goal

pub close_members-requires : goal.close_members-requires
close_members-requires c =
    let first =
    ap length c.in_ok-out.ensures.piece
    ∙ length-append c.args.out.items (piece c.args.text.now 0 c.args.cut.below) in
    let last =
    ap length c.in_ok-out-3.ensures.piece
    ∙ length-append c.in_ok-out-2.out.items
    (piece c.args.text.now c.args.cut.above c.saturating_sub.result) in
    record {
      start = omega (
        arith,
        c.len-start.ensures,
        c.args.out.ok,
        first,
        c.in_ok-out-2.ensures.grows,
        last,
        c.in_ok-out-3.out.ok,
      );
    }

pub returns : goal.returns
returns c = record {
  canvas = λ members one order held is page.
      let tree = object members in
      let values = trees_in (codes "annotations") tree in
      let value = array (with_last one values) in
      let kept = ap (λ t. piece t c.args.cut.first c.args.cut.last) is ∙ held.values in
      let written =
      canvas_written (codes "annotations") members value c.args.cut c.args.out.items
      c.in_ok-out.out.items c.in_ok-out-2.out.items c.in_ok-out-3.out.items c.args.text.now
      order held is (λ _ _. c.in_ok-out.ensures.piece)
      (c.in_ok-out-2.ensures.member values one kept page)
      (λ _ _. c.in_ok-out-3.ensures.piece
      ∙ ap (λ n. c.in_ok-out-2.out.items ++ piece c.args.text.now c.args.cut.above n)
      c.saturating_sub.ensures) in
      c.in_ok-out-4.ensures.text c.args.out.items (put (codes "annotations") value members) written
      (omega (arith, c.len-start.ensures, c.args.out.ok));
}
