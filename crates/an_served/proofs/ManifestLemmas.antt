-- The text of a served manifest is what stands between the cuts of the one that is kept, with what
-- is put in between.
use Rattle.std.proofs.Common.{◌≡◌, ℕ, List, ◌++◌, true, codes, Option, Less, nat_cmp, refl, ap, ◌∙◌, append_assoc}
use Rattle.std.proofs.lemmas.Bool.{and_from}
use Rattle.std.specs.Cmp.Lexicographic.{slice_cmp}
use Rattle.serde_json.specs.Data.{Data, string, array, object, Members, member, put}
use Rattle.serde_json.specs.Find.{get_member}
use Rattle.serde_json.proofs.Views.{get_member-put_other}
use Rattle.an_base.specs.Cut.{is_before, below}
use Rattle.an_base.specs.Items.{many_if, trees_in}
use Rattle.an_base.specs.Tree.{ascend, names}
use Rattle.an_base.specs.Write.{member_text, commas}
use Rattle.an_served.specs.ManifestParts.{beyond, heading_text, ending_text}
use Rattle.an_iri.specs.Iris.{manifest_iri}
use Rattle.an_served.specs.Manifest.{with_last, search_service, dressed_canvases, contexts, dressed}
use Rattle.an_manifest.specs.Manifest.{canvases_in}
use Rattle.an_served.proofs.ManifestLaws.{apart}
use Rattle.an_served.proofs.SplitLemmas.{joined, commas-joined, put-split, are_before-below, are_before-trans, is_below-beyond, put-past, put-front, is_below-put, ascend-below, ascend-beyond}
use Rattle.an_manifest.proofs.TakeLemmas.{is_below, is_below-trans}

-- ---- what is served

regroup : (p0 c p1 d p2 last : List ℕ)
    → ((p0 ++ (c ++ p1)) ++ (d ++ p2)) ++ last ≡ (p0 ++ (c ++ (p1 ++ (d ++ p2)))) ++ last
regroup p0 c p1 d p2 last =
    ap (λ front. front ++ last)
    (append_assoc p0 (c ++ p1) (d ++ p2) ∙ ap (λ rest. p0 ++ rest) (append_assoc c p1 (d ++ p2)))

abbrev pub before_items : Members → Members
before_items members = below (codes "items") members

abbrev pub behind_items : Members → Members
behind_items members = beyond (codes "items") members

abbrev pub before_id : Members → Members
before_id members = below (codes "id") (before_items members)

module _ (members : Members) (order : ascend (names members) ≡ true) (c d i s : Data) where
  abbrev front : Members
  front = before_items members

  abbrev back : Members
  back = behind_items members

  abbrev low : Members
  low = before_id members

  abbrev later : Members
  later = member (codes "items") i (put (codes "service") s back)

  behind_back : (name : List ℕ) → slice_cmp nat_cmp name (codes "items") ≡ Less
      → is_below name back ≡ true
  behind_back name first =
      is_below-trans name (codes "items") back first (is_below-beyond (codes "items") members)

  behind_later : (name : List ℕ) → slice_cmp nat_cmp name (codes "items") ≡ Less
      → is_before name (codes "items") ≡ true → is_before name (codes "service") ≡ true
      → is_below name later ≡ true
  behind_later name first items service =
      and_from _ _ items
      (is_below-put name (codes "service") s back service (behind_back name first))

  with_items : put (codes "items") i members ≡ joined front (member (codes "items") i back)
  with_items = put-split (codes "items") i members order

  with_service : put (codes "service") s (joined front (member (codes "items") i back))
      ≡ joined front later
  with_service =
      put-past (codes "service") s front (member (codes "items") i back)
      (are_before-trans (codes "items") (codes "service") front refl
      (are_before-below (codes "items") members))

  with_id : put (codes "id") d (joined front later)
      ≡ joined (joined low (member (codes "id") d (beyond (codes "id") front))) later
  with_id =
      put-front (codes "id") d front later (behind_later (codes "id") refl refl refl)
      ∙ ap (λ ms. joined ms later)
      (put-split (codes "id") d front (ascend-below (codes "items") members order))

  abbrev named : Members
  named = member (codes "id") d (beyond (codes "id") front)

  with_context : put (codes "@context") c (joined (joined low named) later)
      ≡ joined (joined (joined (below (codes "@context") low)
      (member (codes "@context") c (beyond (codes "@context") low))) named) later
  with_context =
      put-front (codes "@context") c (joined low named) later
      (behind_later (codes "@context") refl refl refl)
      ∙ ap (λ ms. joined ms later)
      (put-front (codes "@context") c low named
      (and_from _ _ refl (is_below-trans (codes "@context") (codes "id")
      (beyond (codes "id") front) refl (is_below-beyond (codes "id") front)))
      ∙ ap (λ ms. joined ms named)
      (put-split (codes "@context") c low
      (ascend-below (codes "id") front (ascend-below (codes "items") members order))))

  all_put : put (codes "@context") c
      (put (codes "id") d (put (codes "service") s (put (codes "items") i members)))
      ≡ joined (joined (joined (below (codes "@context") low)
      (member (codes "@context") c (beyond (codes "@context") low))) named) later
  all_put =
      ap
      (λ ms. put (codes "@context") c (put (codes "id") d (put (codes "service") s ms))) with_items
      ∙ ap (λ ms. put (codes "@context") c (put (codes "id") d ms)) with_service
      ∙ ap (put (codes "@context") c) with_id
      ∙ with_context

  service_commas : commas (put (codes "service") s back)
      ≡ commas (below (codes "service") back)
      ++ (member_text (codes "service") s ++ commas (beyond (codes "service") back))
  service_commas =
      ap commas (put-split (codes "service") s back (ascend-beyond (codes "items") members order))
      ∙ commas-joined (below (codes "service") back)
      (member (codes "service") s (beyond (codes "service") back))

  pub served_commas : commas
      (put (codes "@context") c
      (put (codes "id") d (put (codes "service") s (put (codes "items") i members))))
      ≡ heading_text members c d ++ (member_text (codes "items") i ++ ending_text members s)
  unfolding heading_text ending_text
  served_commas =
      let started =
      joined (below (codes "@context") low)
      (member (codes "@context") c (beyond (codes "@context") low)) in
      ap commas all_put
      ∙ commas-joined (joined started named) later
      ∙ ap (λ a. a ++ commas later)
      (commas-joined started named
      ∙ ap (λ a. a ++ commas named)
      (commas-joined (below (codes "@context") low)
      (member (codes "@context") c (beyond (codes "@context") low))))
      ∙ regroup (commas (below (codes "@context") low)) (member_text (codes "@context") c)
      (commas (beyond (codes "@context") low)) (member_text (codes "id") d)
      (commas (beyond (codes "id") front)) (commas later)
      ∙ ap (λ rest. heading_text members c d ++ (member_text (codes "items") i ++ rest))
      service_commas

-- the members of a served manifest
abbrev pub served_members : List ℕ → List ℕ → Members → Members
served_members base name members =
    put (codes "@context") (array contexts) (put (codes "id") (string (manifest_iri base name))
    (put (codes "service")
    (array (with_last (search_service base name) (trees_in (codes "service") (object members))))
    (put (codes "items")
    (array (dressed_canvases base name 1 (canvases_in (object members)))) members)))

pub dressed-members : (base name : List ℕ) (members : Members)
    → dressed base name (object members) ≡ object (served_members base name members)
unfolding dressed
dressed-members base name members =
    let i = array (dressed_canvases base name 1 (canvases_in (object members))) in
    let kept : get_member (codes "service") (put (codes "items") i members)
    ≡ get_member (codes "service") members =
    get_member-put_other (codes "service") (codes "items") i members
    (apart (codes "service") (codes "items") refl) in
    let s : Option Data → Data =
    λ found. array (with_last (search_service base name) (many_if found)) in
    ap (λ found. object (put (codes "@context") (array contexts)
    (put (codes "id") (string (manifest_iri base name))
    (put (codes "service") (s found) (put (codes "items") i members))))) kept
