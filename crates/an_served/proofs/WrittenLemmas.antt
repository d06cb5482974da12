-- What is written of a manifest that is kept.
use Rattle.std.proofs.Common.{◌≡◌, ℕ, List, ◌++◌, codes, slice_range, Some, refl, sym, ap, ◌∙◌, subst, append_assoc}
use Rattle.serde_json.specs.Data.{Data, array, object, string}
use Rattle.serde_json.specs.Find.{get}
use Rattle.serde_json.specs.Written.{compact_text}
use Rattle.serde_json.proofs.OnLiterals.{serde_json_on_literals}
use Rattle.an_base.specs.Cut.{members_in}
use Rattle.an_base.specs.Items.{many_if, trees_in}
use Rattle.an_base.specs.Write.{item_text, item_commas, member_text, commas}
use Rattle.an_manifest.specs.Cuts.{cuts_at, part_at, sheet_cuts}
use Rattle.an_served.specs.ManifestParts.{led, piece, IsCutAt, heading_text, ending_text}
use Rattle.an_iri.specs.Iris.{manifest_iri}
use Rattle.an_served.specs.Manifest.{with_last, search_service, dressed_canvases, contexts, dressed}
use Rattle.an_manifest.specs.Manifest.{canvases_in}
use Rattle.an_served.proofs.CutLemmas.{holds, member_part}
use Rattle.an_manifest.proofs.ReadyLemmas.{IsSheet}
use Rattle.an_served.proofs.ManifestLemmas.{served_members, served_commas, dressed-members}
use Rattle.an_served.proofs.SheetLemmas.{HeadingWritten, EndingWritten, heading_written, ending_written}

pub contexts_text : codes
    ",\"http://iiif.io/api/search/2/context.json\",\"http://iiif.io/api/presentation/3/context.json\""
    ≡ item_commas contexts
unfolding contexts item_text serde_json_on_literals
contexts_text = refl

module _ (tree : Data) (sheet : IsSheet tree) where
  pub heading_of : HeadingWritten tree
  heading_of =
      subst HeadingWritten (sym sheet.ready.is)
      (heading_written sheet.ready.members sheet.ready.order sheet.ready.some sheet.no_context
      sheet.no_id (array (canvases_in tree)) sheet.found)

  pub ending_of : EndingWritten tree
  ending_of =
      subst EndingWritten (sym sheet.ready.is)
      (ending_written sheet.ready.members sheet.ready.order sheet.ready.some sheet.no_context
      sheet.no_id (array (canvases_in tree)) sheet.found)

  cut_of : (name : List ℕ) → IsCutAt name tree (cuts_at name tree)
  cut_of name =
      subst (λ t. IsCutAt name t (cuts_at name t)) (sym sheet.ready.is)
      (holds name sheet.ready.members sheet.ready.some sheet.ready.order)

  pub service_cut : IsCutAt (codes "service") tree (cuts_at (codes "service") tree)
  service_cut = cut_of (codes "service")

  pub items_cut : IsCutAt (codes "items") tree (cuts_at (codes "items") tree)
  items_cut = cut_of (codes "items")

  pub items_text : led
      (slice_range (compact_text tree) (sheet_cuts tree).items.first (sheet_cuts tree).items.last)
      ≡ item_commas (canvases_in tree)
  unfolding piece
  items_text =
      items_cut.values
      ∙ ap (λ found. item_commas (many_if found))
      (ap (get (codes "items")) sheet.ready.is ∙ sheet.found)

  pub label_written : (label : Data) → get (codes "label") tree ≡ Some label
      → piece (compact_text tree) (sheet_cuts tree).label.below (sheet_cuts tree).label.above
      ≡ member_text (codes "label") label
  label_written =
      subst (λ t. (label : Data) → get (codes "label") t ≡ Some label
      → piece (compact_text t) (part_at (codes "label") t).below (part_at (codes "label") t).above
      ≡ member_text (codes "label") label)
      (sym sheet.ready.is)
      (member_part (codes "label") sheet.ready.members sheet.ready.some sheet.ready.order)

  pub whole_written : (base name out a b c : List ℕ)
      → a ≡ out ++ heading_text (members_in tree) (array contexts) (string (manifest_iri base name))
      → b
      ≡ a ++ member_text (codes "items") (array (dressed_canvases base name 1 (canvases_in tree)))
      → c ≡ b
      ++ ending_text (members_in tree)
      (array (with_last (search_service base name) (trees_in (codes "service") tree)))
      → c ≡ out ++ commas (served_members base name sheet.ready.members)
  whole_written base name out a b c heading items ending =
      let members = sheet.ready.members in
      let context = array contexts in
      let id = string (manifest_iri base name) in
      let canvases : Data → Data = λ t. array (dressed_canvases base name 1 (canvases_in t)) in
      let services : Data → Data =
      λ t. array (with_last (search_service base name) (trees_in (codes "service") t)) in
      let h = heading_text (members_in tree) context id in
      let i = member_text (codes "items") (canvases tree) in
      let e = ending_text (members_in tree) (services tree) in
      ending ∙ ap (λ t. t ++ e) (items ∙ ap (λ t. t ++ i) heading)
      ∙ append_assoc (out ++ h) i e ∙ append_assoc out h (i ++ e)
      ∙ ap (λ t. out
      ++ (heading_text (members_in t) context id
      ++ (member_text (codes "items") (canvases t) ++ ending_text (members_in t) (services t))))
      sheet.ready.is
      ∙ ap (λ t. out ++ t) (sym
      (served_commas members sheet.ready.order context id (canvases (object members))
      (services (object members))))

  pub served_tree : (base name : List ℕ)
      → dressed base name tree ≡ object (served_members base name sheet.ready.members)
  served_tree base name =
      ap (dressed base name) sheet.ready.is ∙ dressed-members base name sheet.ready.members
