use Rattle.std.proofs.Common.{arith}
use Rattle.an_served.proofs.PageLemmas.{only_written}
use Rattle.an_served.proofs.manifest.push_only.Goals as goal

pub returns : goal.returns
returns c = record {
  member =
      λ one is. only_written one c.args.out.items _ _ _ c.args.page.now
      c.in_ok-extend_from_slice.ensures.items c.in_ok-extend_from_slice-2.ensures.items
      c.in_ok-push.ensures.items is;
  grows = omega (
    arith,
    c.args.out.ok,
    c.in_ok-extend_from_slice.ensures.len,
    c.in_ok-extend_from_slice-2.ensures.len,
    c.in_ok-push.ensures.len,
  );
}
