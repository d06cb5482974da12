use Rattle.std.proofs.Common.{◌≡◌, ◌++◌, codes, sym, subst, arith}
use Rattle.std.specs.Prelude.{IfOk}
use Rattle.serde_json.specs.Data.{array}
use Rattle.an_base.specs.Write.{member_text}
use Rattle.an_served.specs.Manifest.{with_last}
use Rattle.an_served.proofs.PageLemmas.{none_kept}
use Rattle.an_served.proofs.manifest.push_annotations.Goals as goal

pub returns : goal.returns
returns c = record {
  member = λ values one kept is.
      let none =
      none_kept c.args.text.now c.args.cut.first c.args.cut.last values kept
      (omega (arith, c.if-cut-min.false, c.min.ensures)) in
      subst (λ kept. IfOk c.push_only.result
      (λ v.
      v.items ≡ c.args.out.items ++ member_text (codes "annotations") (array (with_last one kept))))
      (sym none) (c.push_only.ensures.member one is);
  grows = c.push_only.ensures.grows;
}
