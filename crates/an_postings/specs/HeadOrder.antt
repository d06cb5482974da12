-- For private clauses: texts are in the order of the numbers that their first bytes are, which an
-- impl cites.
use Rattle.std.proofs.Common.{◌≡◌, ℕ, zero, suc, ◌+◌, ◌*◌, ◌^◌, ◌<◌, ◌≤◌, ◌/◌, ◌%◌, Bool, true, false, cond, ◌&&◌, ltb, List, [], ◌∷◌, ◌++◌, String, string_bytes, refl, sym, ap, ◌∙◌, subst, arith, ⊎_elim}
use Rattle.std.proofs.lemmas.Bool.{and_parts, ltb-true}
use Rattle.std.proofs.Math.Nat.{mul-le-mul_right}
use Rattle.std.proofs.lemmas.Str.{IsUtf8-string_bytes}
use Rattle.std.specs.BTreeMap.Comparable.{le_lt_trans}
use Rattle.std.specs.Cmp.{IsTotalOrder, nat_cmp_total, on_total, ranks, then_total}
use Rattle.std.specs.Cmp.Lexicographic.{nat_list_cmp_total, slice_cmp}
use Rattle.std.specs.Ordering.{MatchOrdering, is_le, nat_cmp, ordering_reverse, ordering_then, then_cmp}
use Rattle.std.specs.Prelude.{IsTrue, ⊤}
use Rattle.std.specs.Str.{IsUtf8}
use Rattle.std.specs.String.{string_cmp}
use Rattle.std.specs.declared.cmp.Ordering.{Ordering}
use Rattle.std.specs.declared.cmp.Ordering.TheVariants.{Less, Equal, Greater}
use lib.Utf8.{encode, encodes, scalar, scalar_cases, scalars, next}
use Rattle.an_postings.specs.Heads.{head_cmp, head_from, head_of}

-- ---- the bytes of texts are small

abbrev AreBytes : List ℕ → Type 0
AreBytes [] = ⊤
AreBytes (b ∷ bs) = (b < 256) × AreBytes bs

AreBytes-append : (xs bs : List ℕ) → AreBytes xs → AreBytes bs → AreBytes (xs ++ bs)
AreBytes-append [] bs h k = k
AreBytes-append (a ∷ xs) bs h k = (h.0, AreBytes-append xs bs h.1 k)

small_next : (c : ℕ) → next c < 256
small_next c = omega arith

scalar_small : (c : ℕ) → scalar c ≡ true → c < 1114112
scalar_small c s = ⊎_elim (λ h. omega (arith, h)) (λ h. h.1) (scalar_cases c s)

small_encode : (c : ℕ) → scalar c ≡ true → AreBytes (encode c)
unfolding encode
small_encode c s = step (ltb c 128) (ltb c 2048) (ltb c 65536) refl refl refl
  where
    step : (p q r : Bool) → ltb c 128 ≡ p → ltb c 2048 ≡ q → ltb c 65536 ≡ r
        → AreBytes (cond p (c ∷ [])
        (cond q ((192 + c / 64) ∷ next c ∷ [])
        (cond r ((224 + c / 4096) ∷ next (c / 64) ∷ next c ∷ [])
        ((240 + c / 262144) ∷ next (c / 4096) ∷ next (c / 64) ∷ next c ∷ []))))
    step true q r e f g = (omega (arith, ltb-true c 128 e), tt)
    step false true r e f g = (omega (arith, ltb-true c 2048 f), (small_next c, tt))
    step false false true e f g =
        (omega (arith, ltb-true c 65536 g), (small_next (c / 64), (small_next c, tt)))
    step false false false e f g = (
      omega (arith, scalar_small c s),
      (small_next (c / 4096), (small_next (c / 64), (small_next c, tt))),
    )

AreBytes-encodes : (cs : List ℕ) → scalars cs ≡ true → AreBytes (encodes cs)
AreBytes-encodes [] s = tt
AreBytes-encodes (c ∷ cs) s =
    let parts = and_parts (scalar c) (scalars cs) s in
    AreBytes-append (encode c) (encodes cs) (small_encode c parts.0) (AreBytes-encodes cs parts.1)

AreBytes-IsUtf8 : (bs : List ℕ) → IsUtf8 bs → AreBytes bs
AreBytes-IsUtf8 bs u = subst AreBytes u.1.1 (AreBytes-encodes u.0 u.1.0)

-- ---- the numbers

positive : (n : ℕ) → 0 < 256 ^ n
positive zero = omega arith
positive (suc n) = omega (arith, positive n)

small_head : (n : ℕ) (bs : List ℕ) → AreBytes bs → head_from n bs < 256 ^ n
small_head zero bs h = omega arith
small_head (suc n) [] h = positive (suc n)
small_head (suc n) (b ∷ bs) h =
    let rest = small_head n bs h.1 in
    let most : b * 256 ^ n ≤ 255 * 256 ^ n = mul-le-mul_right (256 ^ n) (omega (arith, h.0)) in
    omega (arith, rest, most)

order : (n : ℕ) (xs bs : List ℕ) → AreBytes xs → AreBytes bs → head_from n xs < head_from n bs
    → slice_cmp nat_cmp xs bs ≡ Less
order zero xs bs h k less = absurd (omega (arith, less))
order (suc n) [] [] h k less = absurd (omega (arith, less))
order (suc n) [] (b ∷ bs) h k less = refl
order (suc n) (a ∷ xs) [] h k less = absurd (omega (arith, less))
order (suc n) (a ∷ xs) (b ∷ bs) h k less =
    step (nat_cmp a b) (ranks a b) (λ e. order n xs bs h.1 k.1
    (let same : a * 256 ^ n ≡ b * 256 ^ n = ap (λ d. d * 256 ^ n) e in
    omega (arith, less, same)))
  where
    step : (r : Ordering) → MatchOrdering r (a < b) (a ≡ b) (b < a)
        → (a ≡ b → slice_cmp nat_cmp xs bs ≡ Less)
        → ordering_then r (slice_cmp nat_cmp xs bs) ≡ Less
    step Less m rest = refl
    step Equal m rest = rest m
    step Greater m rest =
        let small = small_head n bs k.1 in
        let above : b + 1 ≤ a = omega (arith, m) in
        let most : (b + 1) * 256 ^ n ≤ a * 256 ^ n = mul-le-mul_right (256 ^ n) above in
        absurd (omega (arith, less, small, most))

-- where a text's own number is compared first, the order is that of the texts
pub head_order : (a b : List ℕ) → IsUtf8 a → IsUtf8 b
    → head_cmp (head_of a) a b ≡ slice_cmp nat_cmp a b
head_order a b u v = step (nat_cmp (head_of a) (head_of b)) (ranks (head_of a) (head_of b))
  where
    of_a : AreBytes a
    of_a = AreBytes-IsUtf8 a u

    of_b : AreBytes b
    of_b = AreBytes-IsUtf8 b v

    step : (r : Ordering)
        → MatchOrdering r (head_of a < head_of b) (head_of a ≡ head_of b) (head_of b < head_of a)
        → ordering_then r (slice_cmp nat_cmp a b) ≡ slice_cmp nat_cmp a b
    step Less m = sym (order 8 a b of_a of_b m)
    step Equal m = refl
    step Greater m =
        sym (nat_list_cmp_total.antisymm a b ∙ ap ordering_reverse (order 8 b a of_b of_a m))

-- ---- the laws of a number and a text that are compared with keys

abbrev pair_cmp : (ℕ × List ℕ) → (ℕ × List ℕ) → Ordering
pair_cmp = then_cmp (λ p q. nat_cmp p.0 q.0) (λ p q. slice_cmp nat_cmp p.1 q.1)

pair_total : IsTotalOrder pair_cmp
pair_total =
    then_total (on_total (λ (p : ℕ × List ℕ). p.0) nat_cmp_total)
    (on_total (λ (p : ℕ × List ℕ). p.1) nat_list_cmp_total)

-- a key as the number of its first bytes and its text
abbrev key_of : {Z : Type 0} → String Z → ℕ × List ℕ
key_of x = (head_of (string_bytes x), string_bytes x)

pub key_order : {Z : Type 0} (x y : String Z)
    → head_cmp (head_of (string_bytes x)) (string_bytes x) (string_bytes y) ≡ string_cmp x y
key_order x y =
    head_order (string_bytes x) (string_bytes y) (IsUtf8-string_bytes x) (IsUtf8-string_bytes y)

pub respects : {Z : Type 0} (head : ℕ) (text : List ℕ) (x y : String Z)
    → head_cmp head text (string_bytes x) ≡ Equal
    → head_cmp head text (string_bytes y) ≡ string_cmp x y
respects head text x y same =
    pair_total.congr (head, text) (key_of x) (key_of y) same ∙ key_order x y

pub below : {Z : Type 0} (head : ℕ) (text : List ℕ) (x y : String Z)
    → IsTrue (is_le (head_cmp head text (string_bytes x))) → string_cmp x y ≡ Less
    → head_cmp head text (string_bytes y) ≡ Less
below head text x y le less =
    le_lt_trans pair_total (head, text) (key_of x) (key_of y) le (key_order x y ∙ less)
