use Rattle.std.proofs.Common.{◌≡◌, ◌++◌, length, sym, ap, ◌∙◌, arith}
use Rattle.serde_json.specs.Written.{compact_text}
use Rattle.an_served.specs.Manifest.{dressed}
use Rattle.an_manifest.proofs.ReadyLemmas.{is_sheet}
use Rattle.an_served.proofs.ManifestLemmas.{served_members}
use Rattle.an_served.proofs.WrittenLemmas.{whole_written, served_tree}
use Rattle.an_served.proofs.manifest.push_manifest.Goals as goal

pub returns : goal.returns
returns c =
    let tree = c.args.sheet.now in
    let base = c.args.base.now in
    let name = c.as_str-name.result.now in
    let before = c.reserve.new.self.items in
    let sheet = is_sheet tree c.text.ensures.tree c.text.ensures.kept in
    let written =
    whole_written tree sheet base name before c.in_ok-out.out.items c.in_ok-out-2.out.items
    c.in_ok-out-3.out.items
    c.in_ok-out.ensures c.in_ok-out-2.ensures c.in_ok-out-3.ensures in
    let start : c.len-start.result ≡ length before =
    omega (arith, c.len-start.ensures, c.reserve.new.self.ok) in
    record {
      text =
          c.in_ok-out-4.ensures.text before
          (served_members base name sheet.ready.members) written start
          ∙ ap (λ t. before ++ compact_text t) (sym (served_tree tree sheet base name))
          ∙ ap (λ n. before ++ compact_text (dressed base n tree)) c.as_str-name.ensures.value
          ∙ ap (λ t. t ++ compact_text (dressed base c.args.name.now tree))
          c.in_ok-reserve.ensures.items;
    }
