-- The words of a text stand in it one behind another.
use Rattle.std.proofs.Common.{◌≡◌, ℕ, zero, suc, ◌+◌, ◌-◌, ◌<◌, ◌≤◌, Bool, true, false, List, [], ◌∷◌, ◌++◌, length, map, filter, take, drop, slice_range, refl, sym, ap, ◌∙◌, append_assoc, length-append, take_at, drop_at, arith, subst}
use Rattle.std.proofs.lemmas.Bool.{and_parts, and_from, cond_both}
use Rattle.std.proofs.lemmas.List.Elements.{All-nil, All-cons, All-filter, All-map, All-weaker}
use Rattle.std.proofs.lemmas.Str.{chars-encodes, scalars-chars}
use Rattle.std.specs.List.{All, AllPairs, concat}
use Rattle.std.specs.Prelude.{encode_utf8_all}
use Rattle.std.specs.Str.{chars, IsUtf8}
use lib.Utf8.{scalar, scalars}
use Rattle.unicode_segmentation.specs.Segments.{Rule, cut, segments, has_alphanumeric}
use Rattle.unicode_segmentation.specs.Word.{is_word_break, word_bounds}
use Rattle.unicode_segmentation.proofs.SegmentsLemmas.{attach}
use Rattle.an_terms.specs.Terms.{term_of, placed, occurrence_of, occurrences_of, IsWordOf, StandsBefore}

-- ---- the pieces of a text, as code points

-- none is empty, and each can be written in UTF-8
abbrev pub ArePieces : List (List ℕ) → Type 0
ArePieces [] = Unit {0}
ArePieces (q ∷ qs) = (0 < length q) × (scalars q ≡ true) × ArePieces qs

ArePieces-attach : (b : Bool) (c : ℕ) (qs : List (List ℕ)) → scalar c ≡ true → ArePieces qs
    → ArePieces (attach b (c ∷ []) qs)
ArePieces-attach true c qs is h = (omega arith, and_from (scalar c) true is refl, h)
ArePieces-attach false c [] is h = (omega arith, and_from (scalar c) true is refl, tt)
ArePieces-attach false c (q ∷ qs) is h = (omega arith, and_from (scalar c) (scalars q) is h.1, h.2)

pub ArePieces-cut : (rule : Rule) (before cs after : List ℕ) → scalars cs ≡ true
    → ArePieces (cut rule before cs after)
unfolding cut
ArePieces-cut rule before [] after h = tt
ArePieces-cut rule before (c ∷ cs) after h =
    let parts = and_parts (scalar c) (scalars cs) h in
    ArePieces-attach (rule (c ∷ before) (cs ++ after)) c _ parts.0
    (ArePieces-cut rule (c ∷ before) cs after parts.1)

concat-attach : (b : Bool) (c : ℕ) (qs : List (List ℕ))
    → concat (attach b (c ∷ []) qs) ≡ c ∷ concat qs
concat-attach true c qs = refl
concat-attach false c [] = refl
concat-attach false c (q ∷ qs) = refl

pub concat-cut : (rule : Rule) (before cs after : List ℕ) → concat (cut rule before cs after) ≡ cs
unfolding cut
concat-cut rule before [] after = refl
concat-cut rule before (c ∷ cs) after =
    concat-attach (rule (c ∷ before) (cs ++ after)) c _
    ∙ ap (λ t. c ∷ t) (concat-cut rule (c ∷ before) cs after)

-- ---- where they stand

-- the piece has a code point, lies in the text, and is what stands there
record IsPlaced (cs : List ℕ) (p : ℕ × List ℕ) : Type 0 where
  pub some : p.0 < p.0 + length (chars p.1)
  pub within : p.0 + length (chars p.1) ≤ length cs
  pub piece : p.1 ≡ encode_utf8_all (slice_range cs p.0 (p.0 + length (chars p.1)))

IsPlaced-at : (front q rest cs : List ℕ) → cs ≡ front ++ (q ++ rest) → 0 < length q
    → scalars q ≡ true → IsPlaced cs (length front, encode_utf8_all q)
IsPlaced-at front q rest cs e some is =
    let size = ap length (chars-encodes q is) in
    let width : length q ≡ length front + length (chars (encode_utf8_all q)) - length front =
    omega arith in
    record {
      some = omega arith;
      within = omega (arith, ap length e, length-append front (q ++ rest), length-append q rest);
      piece =
          ap encode_utf8_all (sym (ap
          (λ t. take (length front + length (chars (encode_utf8_all q)) - length front)
          (drop (length front) t)) e
          ∙ ap (take (length front + length (chars (encode_utf8_all q)) - length front))
          (drop_at front _ _ refl)
          ∙ take_at q rest _ width));
    }

All-placed : (front : List ℕ) (qs : List (List ℕ)) (cs : List ℕ) → cs ≡ front ++ concat qs
    → ArePieces qs → All (IsPlaced cs) (placed (length front) (map encode_utf8_all qs))
unfolding placed
All-placed front [] cs e h = All-nil (IsPlaced cs)
All-placed front (q ∷ qs) cs e h =
    let next : length (front ++ q) ≡ length front + length (chars (encode_utf8_all q)) =
    omega (arith, length-append front q, ap length (chars-encodes q h.1)) in
    All-cons (IsPlaced cs) _ _ (IsPlaced-at front q (concat qs) cs e h.0 h.1)
    (subst (λ n. All (IsPlaced cs) (placed n (map encode_utf8_all qs))) next
    (All-placed (front ++ q) qs cs (e ∙ sym (append_assoc front q (concat qs))) h.2))

All-placed-words : (text : List ℕ) → IsUtf8 text
    → All (IsPlaced (chars text)) (placed 0 (word_bounds text))
unfolding segments
All-placed-words text u =
    let cs = chars text in
    All-placed [] (cut is_word_break [] cs []) cs (sym (concat-cut is_word_break [] cs []))
    (ArePieces-cut is_word_break [] cs [] (scalars-chars text u))

pub All-IsWordOf : (text : List ℕ) → IsUtf8 text → All (IsWordOf text) (occurrences_of text)
unfolding occurrences_of
All-IsWordOf text u =
    All-map (IsWordOf text) occurrence_of _
    (All-weaker (IsPlaced (chars text)) (λ p. IsWordOf text (occurrence_of p))
    (λ p h. record { some = h.some; within = h.within; term = ap term_of h.piece })
    _ (All-filter (λ p. has_alphanumeric p.1) (IsPlaced (chars text)) _ (All-placed-words text u)))

-- ---- their order

-- `AllPairs` by recursion
abbrev Ordered : {X : Type 0} → (X → X → Type 0) → List X → Type 0
Ordered R [] = Unit {0}
Ordered R (x ∷ xs) = All (R x) xs × Ordered R xs

AllPairs-from_Ordered : {X : Type 0} (R : X → X → Type 0) (xs : List X) → Ordered R xs
    → AllPairs R xs
AllPairs-from_Ordered R [] h i j d before within = absurd (omega arith)
AllPairs-from_Ordered R (x ∷ xs) h i zero d before within = absurd (omega arith)
AllPairs-from_Ordered R (x ∷ xs) h zero (suc j) d before within = h.0 j d (omega arith)
AllPairs-from_Ordered R (x ∷ xs) h (suc i) (suc j) d before within =
    AllPairs-from_Ordered R xs h.1 i j d (omega arith) (omega arith)

Ordered-filter : {X : Type 0} (R : X → X → Type 0) (p : X → Bool) (xs : List X) → Ordered R xs
    → Ordered R (filter p xs)
Ordered-filter R p [] h = tt
Ordered-filter R p (x ∷ xs) h =
    cond_both (p x) (x ∷ filter p xs) (filter p xs) (Ordered R)
    (λ _. (All-filter p (R x) xs h.0, Ordered-filter R p xs h.1)) (λ _. Ordered-filter R p xs h.1)

Ordered-map : {X Y : Type 0} (R : Y → Y → Type 0) (f : X → Y) (xs : List X)
    → Ordered (λ a b. R (f a) (f b)) xs → Ordered R (map f xs)
Ordered-map R f [] h = tt
Ordered-map R f (x ∷ xs) h = (All-map (R (f x)) f xs h.0, Ordered-map R f xs h.1)

All-placed-from : (start : ℕ) (ps : List (List ℕ)) → All (λ p. start ≤ p.0) (placed start ps)
unfolding placed
All-placed-from start [] = All-nil _
All-placed-from start (p ∷ ps) =
    All-cons (λ p. start ≤ p.0) (start, p) _ (omega arith)
    (All-weaker (λ q. start + length (chars p) ≤ q.0) (λ q. start ≤ q.0) (λ q h. omega arith) _
    (All-placed-from (start + length (chars p)) ps))

Ordered-placed : (start : ℕ) (ps : List (List ℕ))
    → Ordered (λ a b. a.0 + length (chars a.1) ≤ b.0) (placed start ps)
unfolding placed
Ordered-placed start [] = tt
Ordered-placed start (p ∷ ps) =
    (All-placed-from (start + length (chars p)) ps, Ordered-placed (start + length (chars p)) ps)

pub AllPairs-StandsBefore : (text : List ℕ) → AllPairs StandsBefore (occurrences_of text)
unfolding occurrences_of
AllPairs-StandsBefore text =
    AllPairs-from_Ordered StandsBefore _
    (Ordered-map StandsBefore occurrence_of _
    (Ordered-filter (λ a b. a.0 + length (chars a.1) ≤ b.0) (λ p. has_alphanumeric p.1) _
    (Ordered-placed 0 (word_bounds text))))
