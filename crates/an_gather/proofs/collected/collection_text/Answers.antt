use Rattle.std.proofs.Common.{[], ◌++◌, codes, refl, ap, ◌∙◌}
use Rattle.serde_json.specs.Data.{array, item, no_items, string, member, no_members}
use Rattle.serde_json.specs.View.{items_of}
use Rattle.serde_json.specs.Written.{compact_text}
use Rattle.an_base.specs.Cut.{members_in}
use Rattle.an_base.specs.Write.{member_text}
use Rattle.an_iri.specs.Iris.{collection_iri}
use Rattle.an_list.proofs.WrittenLemmas.{piece_then, last_piece}
use Rattle.an_served.specs.Manifest.{contexts}
use Rattle.an_served.proofs.WrittenLemmas.{contexts_text}
use Rattle.an_gather.specs.Collection.{collection_label, collection_tree, search_service}
use Rattle.an_gather.proofs.collected.collection_text.Goals as goal

pub returns : goal.returns
unfolding collection_tree
returns c =
    let base = c.args.base.now in
    record {
      text = λ manifests items.
          let first =
          c.in_ok-out.ensures.text contexts (c.as_bytes.ensures.value ∙ contexts_text)
          ∙ ap (λ before. before ++ member_text (codes "@context") (array contexts))
          c.in_ok-room.ensures.items in
          let id =
          c.in_ok-out-2.ensures.text
          ∙ ap (λ iri. c.in_ok-out.out.items ++ member_text (codes "id") (string iri))
          (c.as_str.ensures.value ∙ c.in_ok-iri.ensures.iri) in
          c.from_vec.ensures.value
          ∙ c.in_ok-out-7.ensures.text []
          (member (codes "@context") (array contexts)
          (member (codes "id") (string (collection_iri base))
          (member (codes "items") (array (items_of manifests))
          (member (codes "label") collection_label
          (member (codes "service") (array (item (search_service base) no_items))
          (member (codes "type") (string (codes "Collection")) no_members))))))
          (piece_then [] _ _ _ _ first
          (piece_then c.in_ok-out.out.items _ _ _ _ id
          (piece_then c.in_ok-out-2.out.items _ _ _ _
          (c.in_ok-out-3.ensures.text (items_of manifests) items)
          (piece_then c.in_ok-out-3.out.items _ _ _ _ c.in_ok-out-4.ensures.text
          (piece_then c.in_ok-out-4.out.items _ _ _ _ c.in_ok-out-5.ensures.text
          (last_piece _ _ _ c.in_ok-out-6.ensures.text)))))) refl;
    }
