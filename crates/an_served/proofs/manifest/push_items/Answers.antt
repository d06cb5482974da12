use Rattle.std.proofs.Common.{◌≡◌, length, codes, arith}
use Rattle.serde_json.specs.Data.{array}
use Rattle.an_base.proofs.WriteLemmas.{member_joined}
use Rattle.an_served.specs.Manifest.{dressed_canvases}
use Rattle.an_manifest.specs.Manifest.{canvases_in}
use Rattle.an_served.proofs.manifest.push_items.Goals as goal

pub returns : goal.returns
returns c =
    let canvases =
    dressed_canvases c.args.base.now c.args.name.now 1 (canvases_in c.args.sheet.now) in
    let a = c.in_ok-out.out.items in
    let start : c.len-start.result ≡ length a =
    omega (arith, c.len-start.ensures, c.in_ok-out.out.ok) in
    member_joined (codes "items") (array canvases) c.args.out.items a c.in_ok-out-3.out.items
    c.in_ok-out.ensures.text
    (c.in_ok-out-3.ensures.text a canvases c.in_ok-out-2.ensures start)
