use Rattle.std.proofs.Common.{◌++◌, codes, length, arith, ap, sym, ◌∙◌, length-append}
use Rattle.std.specs.Prelude.{unwrap_or}
use Rattle.serde_json.specs.Data.{null, string, object, member, no_members}
use Rattle.serde_json.specs.Find.{get}
use Rattle.serde_json.specs.Written.{compact_text}
use Rattle.an_base.specs.Object.{with_member_if}
use Rattle.an_base.specs.Write.{commas, member_text}
use Rattle.an_iri.specs.Iris.{manifest_iri}
use Rattle.an_list.proofs.WrittenLemmas.{piece_then, last_piece}
use Rattle.an_gather.proofs.LabelLemmas.{some-found}
use Rattle.an_gather.proofs.collected.push_manifest.Goals as goal

pub close_members-requires : goal.close_members-requires
close_members-requires c =
    let label = unwrap_or (get (codes "label") c.args.sheet.now) null in
    let there = some-found (get (codes "label") c.args.sheet.now) c.push_label.ensures.label in
    let id = member_text (codes "id") (string c.as_str-2.result.now) in
    let kind = member_text (codes "type") (string (codes "Manifest")) in
    let own = member_text (codes "label") label in
    let all =
    piece_then c.args.out.items _ _ id (own ++ kind) c.in_ok-out.ensures.text
    (piece_then c.in_ok-out.out.items _ _ own kind
    (c.in_ok-out-2.ensures.text label there) c.in_ok-out-3.ensures.text) in
    record {
      start = omega (
        arith,
        ap length all,
        length-append c.args.out.items (id ++ (own ++ kind)),
        c.len-start.ensures,
        c.args.out.ok.0,
        c.in_ok-out-3.out.ok.0,
      );
    }

pub returns : goal.returns
returns c =
    let found = get (codes "label") c.args.sheet.now in
    let label = unwrap_or found null in
    let there = some-found found c.push_label.ensures.label in
    let iri = string (manifest_iri c.args.base.now c.args.name.now) in
    let kind = member (codes "type") (string (codes "Manifest")) no_members in
    let id =
    c.in_ok-out.ensures.text
    ∙ ap (λ iri. c.args.out.items ++ member_text (codes "id") (string iri))
    (c.as_str-2.ensures.value ∙ c.in_ok-iri.ensures.iri
    ∙ ap (λ name. manifest_iri c.args.base.now name) c.as_str.ensures.value) in
    record {
      text =
          c.in_ok-out-4.ensures.text c.args.out.items
          (member (codes "id") iri (member (codes "label") label kind))
          (piece_then c.args.out.items _ _ _ _ id
          (piece_then c.in_ok-out.out.items _ _ _ _ (c.in_ok-out-2.ensures.text label there)
          (last_piece _ _ _ c.in_ok-out-3.ensures.text)))
          (c.len-start.ensures ∙ c.args.out.ok.0)
          ∙ ap (λ found. c.args.out.items
          ++ compact_text
          (with_member_if (codes "label") found (object (member (codes "id") iri kind))))
          (sym there);
    }
