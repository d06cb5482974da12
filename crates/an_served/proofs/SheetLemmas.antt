-- What the cuts of a manifest's text part.
use Rattle.std.proofs.Common.{◌≡◌, ℕ, ◌+◌, ◌-◌, ◌<◌, ◌≤◌, List, [], ◌++◌, length, Bool, true, false, codes, Option, Some, None, Ordering, Less, Equal, Greater, nat_cmp, if◌then◌else◌, refl, sym, ap, ap₂, ◌∙◌, append_assoc, length-append, arith}
use Rattle.std.specs.Cmp.Lexicographic.{slice_cmp}
use Rattle.std.specs.Ordering.{match_ordering}
use Rattle.serde_json.specs.Data.{Data, object, Members, no_members, member}
use Rattle.serde_json.specs.Find.{get_member}
use Rattle.serde_json.specs.Written.{compact_text}
use Rattle.an_base.specs.Cut.{is_before, below, cut, members_in}
use Rattle.an_base.specs.Tree.{ascend, names}
use Rattle.an_base.specs.Write.{member_text, name_text, commas}
use Rattle.an_manifest.specs.Cuts.{cut_if, cuts_at, sheet_cuts}
use Rattle.an_served.specs.ManifestParts.{beyond, piece, heading_text, ending_text}
use Rattle.an_served.proofs.CutLemmas.{part, holds, length-object}
use Rattle.an_served.proofs.SplitLemmas.{joined, with_found, commas-joined, split, split-found, split-absent, are_before-below, are_before-trans, ascend-below, ascend-beyond, below-below, beyond-beyond, below-joined, below-all}

-- ---- a member that isn't there isn't among some of the members

skipped : {A : Type 0} (o : Ordering) (rest : Option A) (value : A)
    → match_ordering o rest (Some value) rest ≡ None → rest ≡ None
skipped Less rest value h = h
skipped Equal rest value h = absurd (cc)
skipped Greater rest value h = h

kept_absent : {A : Type 0} (o : Ordering) (rest few : Option A) (value : A)
    → match_ordering o rest (Some value) rest ≡ None → few ≡ None
    → match_ordering o few (Some value) few ≡ None
kept_absent Less rest few value h less = less
kept_absent Equal rest few value h less = absurd (cc)
kept_absent Greater rest few value h less = less

pub absent-below : (name cut : List ℕ) (members : Members) → get_member name members ≡ None
    → get_member name (below cut members) ≡ None
absent-below name cut no_members h = refl
absent-below name cut (member other value members) h =
    by_test (is_before other cut) (absent-below name cut members (skipped _ _ value h))
  where
    by_test : (b : Bool) → get_member name (below cut members) ≡ None
        → get_member name (if b then member other value (below cut members) else below cut members)
        ≡ None
    by_test true few = kept_absent (slice_cmp nat_cmp name other) _ _ value h few
    by_test false few = few

module _ (members : Members) (order : ascend (names members) ≡ true)
    (some : 0 < length (commas members))
    (no_context : get_member (codes "@context") members ≡ None)
    (no_id : get_member (codes "id") members ≡ None)
    (items : Data) (found : get_member (codes "items") members ≡ Some items) where
  abbrev front : Members
  front = below (codes "items") members

  abbrev back : Members
  back = beyond (codes "items") members

  abbrev low : Members
  low = below (codes "id") front

  abbrev text : List ℕ
  text = compact_text (object members)

  whole : commas members ≡ commas front ++ (member_text (codes "items") items ++ commas back)
  whole =
      ap commas (split-found (codes "items") items members order found)
      ∙ commas-joined front (member (codes "items") items back)

  front_parts : commas front ≡ commas low ++ commas (beyond (codes "id") front)
  front_parts =
      ap commas (split-absent (codes "id") front (ascend-below (codes "items") members order)
      (absent-below (codes "id") (codes "items") members no_id))
      ∙ commas-joined low (beyond (codes "id") front)

  low_parts : commas low
      ≡ commas (below (codes "@context") low) ++ commas (beyond (codes "@context") low)
  low_parts =
      ap commas (split-absent (codes "@context") low
      (ascend-below (codes "id") front (ascend-below (codes "items") members order))
      (absent-below (codes "@context") (codes "id") front
      (absent-below (codes "@context") (codes "items") members no_context)))
      ∙ commas-joined (below (codes "@context") low) (beyond (codes "@context") low)

  at_id : cut (codes "id") members ≡ length (commas low)
  at_id =
      ap (λ ms. length (commas ms)) (sym (below-below (codes "id") (codes "items") members refl))

  at_context : cut (codes "@context") members ≡ length (commas (below (codes "@context") low))
  at_context =
      ap (λ ms. length (commas ms))
      (sym (below-below (codes "@context") (codes "items") members refl)
      ∙ sym (below-below (codes "@context") (codes "id") front refl))

  -- the members from a part on, where the parts before it are told
  rest_of_front : commas members
      ≡ commas (below (codes "@context") low)
      ++ (commas (beyond (codes "@context") low)
      ++ (commas (beyond (codes "id") front) ++ (member_text (codes "items") items ++ commas back)))
  rest_of_front =
      let later = member_text (codes "items") items ++ commas back in
      whole
      ∙ ap (λ t. t ++ later)
      (front_parts ∙ ap (λ t. t ++ commas (beyond (codes "id") front)) low_parts)
      ∙ append_assoc
      (commas (below (codes "@context") low) ++ commas (beyond (codes "@context") low))
      (commas (beyond (codes "id") front)) later
      ∙ append_assoc (commas (below (codes "@context") low))
      (commas (beyond (codes "@context") low)) (commas (beyond (codes "id") front) ++ later)

  size : length text ≡ length (commas members) + 1
  size = length-object members some

  low_size : length (commas low)
      ≡ length (commas (below (codes "@context") low))
      + length (commas (beyond (codes "@context") low))
  low_size =
      ap length low_parts
      ∙ length-append (commas (below (codes "@context") low))
      (commas (beyond (codes "@context") low))

  front_size : length (commas front)
      ≡ length (commas low) + length (commas (beyond (codes "id") front))
  front_size =
      ap length front_parts ∙ length-append (commas low) (commas (beyond (codes "id") front))

  whole_size : length (commas members)
      ≡ length (commas front) + (length (member_text (codes "items") items) + length (commas back))
  whole_size =
      ap length whole
      ∙ length-append (commas front) (member_text (codes "items") items ++ commas back)
      ∙ ap (λ n. length (commas front) + n)
      (length-append (member_text (codes "items") items) (commas back))

  pub first_within : (cut (codes "@context") members ≤ length text)
      × (cut (codes "@context") members ≤ cut (codes "id") members)
      × (cut (codes "id") members ≤ length text)
      × (cut (codes "id") members ≤ length (commas front)) × (length (commas front) ≤ length text)
  first_within = (
    omega (arith, at_context, low_size, front_size, whole_size, size),
    omega (arith, at_context, at_id, low_size),
    omega (arith, at_id, front_size, whole_size, size),
    omega (arith, at_id, front_size),
    omega (arith, whole_size, size),
  )

  pub context_piece : piece text 0 (cut (codes "@context") members)
      ≡ commas (below (codes "@context") low)
  context_piece =
      part (codes "items") members some []
      (commas (beyond (codes "@context") low)
      ++ (commas (beyond (codes "id") front) ++ (member_text (codes "items") items ++ commas back)))
      (below (codes "@context") low) 0 (cut (codes "@context") members) rest_of_front refl
      (omega (arith, at_context))

  pub id_piece : piece text (cut (codes "@context") members) (cut (codes "id") members)
      ≡ commas (beyond (codes "@context") low)
  id_piece =
      part (codes "items") members some (commas (below (codes "@context") low))
      (commas (beyond (codes "id") front) ++ (member_text (codes "items") items ++ commas back))
      (beyond (codes "@context") low) (cut (codes "@context") members) (cut (codes "id") members)
      rest_of_front at_context (omega (arith, at_context, at_id, low_size))

  pub items_piece : piece text (cut (codes "id") members) (length (commas front))
      ≡ commas (beyond (codes "id") front)
  items_piece =
      let later = member_text (codes "items") items ++ commas back in
      part (codes "items") members some (commas low) later (beyond (codes "id") front)
      (cut (codes "id") members) (length (commas front))
      (whole ∙ ap (λ t. t ++ later) front_parts
      ∙ append_assoc (commas low) (commas (beyond (codes "id") front)) later) at_id
      (omega (arith, at_id, front_size))

  -- ---- behind the canvases

  at_service : cut (codes "service") members
      ≡ length (commas front)
      + (length (member_text (codes "items") items)
      + length (commas (below (codes "service") back)))
  at_service =
      let before_service =
      are_before-trans (codes "items") (codes "service") front refl
      (are_before-below (codes "items") members) in
      let all : below (codes "service") members
      ≡ joined front (member (codes "items") items (below (codes "service") back)) =
      ap (below (codes "service")) (split-found (codes "items") items members order found)
      ∙ below-joined (codes "service") front (member (codes "items") items back)
      ∙ ap (λ ms. joined ms (member (codes "items") items (below (codes "service") back)))
      (below-all (codes "service") front before_service) in
      ap (λ ms. length (commas ms)) all
      ∙ ap length
      (commas-joined front (member (codes "items") items (below (codes "service") back)))
      ∙ length-append (commas front)
      (member_text (codes "items") items ++ commas (below (codes "service") back))
      ∙ ap (λ n. length (commas front) + n)
      (length-append (member_text (codes "items") items) (commas (below (codes "service") back)))

  pub service_piece : piece text
      (length (commas front) + length (member_text (codes "items") items))
      (cut (codes "service") members) ≡ commas (below (codes "service") back)
  service_piece =
      let few = below (codes "service") back in
      let more =
      with_found (codes "service") (get_member (codes "service") back)
      (beyond (codes "service") back) in
      let back_parts : commas back ≡ commas few ++ commas more =
      ap commas (split (codes "service") back (ascend-beyond (codes "items") members order))
      ∙ commas-joined few more in
      let entry = member_text (codes "items") items in
      part (codes "items") members some (commas front ++ entry) (commas more) few _ _
      (whole ∙ ap (λ t. commas front ++ (entry ++ t)) back_parts
      ∙ sym (append_assoc (commas front) entry (commas few ++ commas more)))
      (sym (length-append (commas front) entry)) (omega (arith, at_service))

  pub service_within : (length (commas front) + length (member_text (codes "items") items)
      ≤ cut (codes "service") members)
      × (cut (codes "service") members ≤ length text)
  service_within =
      let few = below (codes "service") back in
      let more =
      with_found (codes "service") (get_member (codes "service") back)
      (beyond (codes "service") back) in
      let back_parts : length (commas back) ≡ length (commas few) + length (commas more) =
      ap (λ ms. length (commas ms))
      (split (codes "service") back (ascend-beyond (codes "items") members order))
      ∙ ap length (commas-joined few more) ∙ length-append (commas few) (commas more) in
      (omega (arith, at_service), omega (arith, at_service, back_parts, whole_size, size))

  items_cut : cuts_at (codes "items") (object members)
      ≡ cut_if (codes "items") (length text) (length (commas front)) (Some items)
  unfolding cuts_at
  items_cut = ap (cut_if (codes "items") (length text) (length (commas front))) found

  pub items_below : (cuts_at (codes "items") (object members)).below ≡ length (commas front)
  items_below = ap (λ c. c.below) items_cut

  pub items_above : (cuts_at (codes "items") (object members)).above
      ≡ length (commas front) + length (member_text (codes "items") items)
  unfolding member_text
  items_above =
      ap (λ c. c.above) items_cut
      ∙ omega (arith, length-append (name_text (codes "items")) (compact_text items))

below_of : (name : List ℕ) (size below : ℕ) (found : Option Data)
    → (cut_if name size below found).below ≡ below
below_of name size below None = refl
below_of name size below (Some value) = refl

pub cut-below : (name : List ℕ) (members : Members)
    → (cuts_at name (object members)).below ≡ cut name members
unfolding cuts_at
cut-below name members =
    below_of name (length (compact_text (object members))) (cut name members)
    (get_member name members)

-- ---- what is written

-- the parts before the canvases, each written behind the one before it
abbrev pub HeadingWritten : Data → Type 0
HeadingWritten tree =
    (out a b c d e : List ℕ) (context id : Data)
    → (0 ≤ (sheet_cuts tree).context → (sheet_cuts tree).context ≤ length (compact_text tree)
    → a ≡ out ++ piece (compact_text tree) 0 (sheet_cuts tree).context)
    → b ≡ a ++ member_text (codes "@context") context
    → ((sheet_cuts tree).context ≤ (sheet_cuts tree).id
    → (sheet_cuts tree).id ≤ length (compact_text tree)
    → c ≡ b ++ piece (compact_text tree) (sheet_cuts tree).context (sheet_cuts tree).id)
    → d ≡ c ++ member_text (codes "id") id
    → ((sheet_cuts tree).id ≤ (sheet_cuts tree).items.below
    → (sheet_cuts tree).items.below ≤ length (compact_text tree)
    → e ≡ d ++ piece (compact_text tree) (sheet_cuts tree).id (sheet_cuts tree).items.below)
    → e ≡ out ++ heading_text (members_in tree) context id

-- and those behind them
abbrev pub EndingWritten : Data → Type 0
EndingWritten tree =
    (out a b c : List ℕ) (services : Data)
    → ((sheet_cuts tree).items.above ≤ (sheet_cuts tree).service.below
    → (sheet_cuts tree).service.below ≤ length (compact_text tree)
    → a ≡ out
    ++ piece (compact_text tree) (sheet_cuts tree).items.above (sheet_cuts tree).service.below)
    → b ≡ a ++ member_text (codes "service") services
    → ((sheet_cuts tree).service.above ≤ (sheet_cuts tree).service.size - 1
    → (sheet_cuts tree).service.size - 1 ≤ length (compact_text tree)
    → c ≡ b
    ++ piece (compact_text tree) (sheet_cuts tree).service.above
    ((sheet_cuts tree).service.size - 1))
    → c ≡ out ++ ending_text (members_in tree) services

module _ (members : Members) (order : ascend (names members) ≡ true)
    (some : 0 < length (commas members))
    (no_context : get_member (codes "@context") members ≡ None)
    (no_id : get_member (codes "id") members ≡ None)
    (items : Data) (found : get_member (codes "items") members ≡ Some items) where
  pub heading_written : HeadingWritten (object members)
  unfolding heading_text
  heading_written out a b c d e context id first put_context second put_id third =
      let cuts = sheet_cuts (object members) in
      let within = first_within members order some no_context no_id items found in
      let items_at = items_below members order some no_context no_id items found in
      let p0 =
      first (omega arith) within.0
      ∙ ap (λ t. out ++ t) (context_piece members order some no_context no_id items found) in
      let p1 =
      second within.1 within.2
      ∙ ap (λ t. b ++ t) (id_piece members order some no_context no_id items found) in
      let p2 = third (omega (arith, items_at, within.3)) (omega (arith, items_at, within.4))
      ∙ ap (λ n. d ++ piece (compact_text (object members)) cuts.id n) items_at
      ∙ ap (λ t. d ++ t) (items_piece members order some no_context no_id items found) in
      let low = below (codes "id") (below (codes "items") members) in
      let q0 = commas (below (codes "@context") low) in
      let q1 = commas (beyond (codes "@context") low) in
      let q2 = commas (beyond (codes "id") (below (codes "items") members)) in
      let c0 = member_text (codes "@context") context in
      let i0 = member_text (codes "id") id in
      p2
      ∙ ap (λ t. t ++ q2)
      (put_id ∙ ap (λ t. t ++ i0) (p1 ∙ ap (λ t. t ++ q1) (put_context ∙ ap (λ t. t ++ c0) p0)))
      ∙ append_assoc (((out ++ q0) ++ c0) ++ q1) i0 q2
      ∙ append_assoc ((out ++ q0) ++ c0) q1 (i0 ++ q2)
      ∙ append_assoc (out ++ q0) c0 (q1 ++ (i0 ++ q2))
      ∙ append_assoc out q0 (c0 ++ (q1 ++ (i0 ++ q2)))

  pub ending_written : EndingWritten (object members)
  unfolding ending_text
  ending_written out a b c services first put_service second =
      let service = cuts_at (codes "service") (object members) in
      let held = holds (codes "service") members some order in
      let items_at = items_above members order some no_context no_id items found in
      let service_at = cut-below (codes "service") members in
      let within = service_within members order some no_context no_id items found in
      let back = beyond (codes "items") members in
      let q3 = commas (below (codes "service") back) in
      let q4 = commas (beyond (codes "service") back) in
      let s0 = member_text (codes "service") services in
      let p3 =
      first (omega (arith, items_at, service_at, within.0)) (omega (arith, service_at, within.1))
      ∙ ap₂ (λ m n. out ++ piece (compact_text (object members)) m n) items_at service_at
      ∙ ap (λ t. out ++ t) (service_piece members order some no_context no_id items found) in
      let p4 =
      second (omega (arith, held.fits.above, held.fits.size)) (omega (arith, held.fits.size))
      ∙ ap (λ t. b ++ t) (held.back
      ∙ ap commas (sym (beyond-beyond (codes "items") (codes "service") members refl))) in
      p4 ∙ ap (λ t. t ++ q4) (put_service ∙ ap (λ t. t ++ s0) p3)
      ∙ append_assoc (out ++ q3) s0 q4
      ∙ append_assoc out q3 (s0 ++ q4)
