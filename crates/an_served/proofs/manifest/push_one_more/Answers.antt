use Rattle.std.proofs.Common.{◌≡◌, ◌++◌, length, ap, ◌∙◌, length-append, arith}
use Rattle.serde_json.specs.Data.{array}
use Rattle.an_base.proofs.WriteLemmas.{member_joined}
use Rattle.an_served.specs.ManifestParts.{piece}
use Rattle.an_served.specs.Manifest.{with_last}
use Rattle.an_base.specs.Write.{name_text}
use Rattle.an_served.proofs.PushLemmas.{one_more_written}
use Rattle.an_served.proofs.manifest.push_one_more.Goals as goal

pub close_items-requires : goal.close_items-requires
close_items-requires c =
    let part = piece c.args.text.now c.args.cut.first c.args.cut.last in
    let a = c.in_ok-out.out.items in
    record {
      start = omega (
        arith,
        c.len-start.ensures,
        c.in_ok-out.out.ok,
        ap length c.in_ok-out-2.ensures.piece ∙ length-append a part,
        c.in_ok-out-2.out.ok,
        c.in_ok-push.ensures.len,
        c.in_ok-extend_from_slice.ensures.len,
      );
    }

pub returns : goal.returns
returns c =
    let a = c.in_ok-out.out.items in
    let named =
    ap length c.in_ok-out.ensures.text
    ∙ length-append c.args.out.items (name_text c.args.name.now) in
    record {
      member = λ values one kept text.
          let b = c.in_ok-out-2.ensures.piece ∙ ap (λ t. a ++ t) kept in
          let last =
          c.in_ok-extend_from_slice.ensures.items ∙ ap (λ t. c.push.new.self.items ++ t) text in
          let d =
          one_more_written one values a c.in_ok-out-2.out.items c.push.new.self.items
          c.extend_from_slice.new.self.items b c.in_ok-push.ensures.items last in
          let start : c.len-start.result ≡ length a =
          omega (arith, c.len-start.ensures, c.in_ok-out.out.ok) in
          member_joined c.args.name.now (array (with_last one values)) c.args.out.items a
          c.in_ok-out-3.out.items c.in_ok-out.ensures.text
          (c.in_ok-out-3.ensures.text a (with_last one values) d start);
      grows = omega (
        arith,
        named,
        c.len-start.ensures,
        c.in_ok-out.out.ok,
        c.in_ok-out-3.ensures.grows,
        c.in_ok-out-3.out.ok,
      );
    }
