-- The quote of a place, and that the place is one of the quote's.
use Rattle.std.proofs.Common.{◌≡◌, ℕ, suc, ◌+◌, ◌-◌, ◌<◌, ◌≤◌, min, Bool, true, List, ◌∷◌, ◌++◌, length, map, filter, take, drop, get_or, refl, sym, ap, ap₂, ◌∙◌, length-append, arith}
use Rattle.std.proofs.lemmas.Bool.{and_from, cond-true, cond-false, ne_eqb}
use Rattle.std.proofs.lemmas.List.{drop-drop, drop-take, length-drop, length-take, map-append, take-append-drop, take-take, get_or_at}
use Rattle.std.proofs.lemmas.List.Elements.{filter-append}
use Rattle.std.specs.List.{Contains, range_with_len}
use Rattle.std.specs.Prelude.{encode_utf8_all}
use Rattle.std.specs.Str.{chars}
use Rattle.an_base.specs.declared.span.Span.{Span}
use Rattle.an_selectors.specs.declared.quote.Quote.{Quote}
use Rattle.an_selectors.specs.declared.selector.Selector.TheVariants as selector
use Rattle.an_selectors.specs.Places.{is_place, span_from, places_of_quote, places_of, quote_of_span}
use Rattle.an_selectors.proofs.PlaceLemmas.{range_append}
use Rattle.an_selectors.proofs.WalkLemmas.{starts_from, ends_from}

-- ---- lists

Contains-at : {X : Type 0} (xs front back : List X) (x : X) → xs ≡ front ++ x ∷ back → Contains xs x
Contains-at xs front back x e = (
  length front,
  omega (arith, ap length e ∙ length-append front (x ∷ back)),
  ap (λ t. get_or t (length front) x) e ∙ get_or_at front x back x (length front) refl,
)

-- a number below the end that passes a test is among those that pass
Contains-filter : (test : ℕ → Bool) (n i : ℕ) → i < n → test i ≡ true
    → (front : List ℕ) × (back : List ℕ) × (filter test (range_with_len 0 n) ≡ front ++ i ∷ back)
Contains-filter test n i within passes =
    let after = n - (i + 1) in
    let size : n ≡ i + suc after = omega arith in
    let start : 0 + i ≡ i = omega arith in
    let later = range_with_len (i + 1) after in (
      filter test (range_with_len 0 i),
      filter test later,
      ap (λ m. filter test (range_with_len 0 m)) size
          ∙ ap (filter test) (range_append i 0 (suc after))
          ∙ filter-append test (range_with_len 0 i) (range_with_len (0 + i) (suc after))
          ∙ ap (λ m. filter test (range_with_len 0 i) ++ filter test (range_with_len m (suc after)))
          start
          ∙ ap (λ t. filter test (range_with_len 0 i) ++ t)
          (cond-true (test i) (i ∷ filter test later) (filter test later) passes),
    )

-- ---- the place of a span

module _ (points exact prefix suffix : List ℕ) (span : Span) (before after : ℕ)
    (some : span.start < span.end) (within : span.end ≤ length points)
    (enough : before ≤ span.start)
    (exact_is : exact ≡ take (span.end - span.start) (drop span.start points))
    (prefix_is : prefix ≡ take before (drop (span.start - before) points))
    (suffix_is : suffix ≡ take after (drop span.end points)) where
  width : length exact ≡ span.end - span.start
  width = omega (
    arith,
    ap length exact_is,
    length-take (span.end - span.start) (drop span.start points),
    length-drop span.start points,
  )

  behind : span.start + length exact ≡ span.end
  behind = omega (arith, width)

  is_place-span : is_place exact prefix suffix points span.start ≡ true
  is_place-span =
      let at = drop span.start points in
      let head = take (span.start - before) points in
      let join : (span.start - before) + before ≡ span.start = omega arith in
      let front : take span.start points ≡ head ++ prefix =
      sym (ap (λ n. take n points) join)
      ∙ sym (take-append-drop (span.start - before) (take ((span.start - before) + before) points))
      ∙ ap₂ (λ xs ys. xs ++ ys)
      (take-take (span.start - before) ((span.start - before) + before) points (omega arith))
      (drop-take (span.start - before) before points ∙ sym prefix_is) in
      and_from _ _ (starts_from at exact (drop (span.end - span.start) at)
      (sym (take-append-drop (span.end - span.start) at)
      ∙ ap (λ t. t ++ drop (span.end - span.start) at) (sym exact_is)))
      (and_from _ _ (ends_from (take span.start points) head prefix front)
      (starts_from (drop (span.start + length exact) points) suffix
      (drop after (drop span.end points))
      (ap (λ n. drop n points) behind ∙ sym (take-append-drop after (drop span.end points))
      ∙ ap (λ t. t ++ drop after (drop span.end points)) (sym suffix_is))))

  pub Contains-span : Contains (places_of_quote exact prefix suffix points) span
  unfolding places_of_quote
  Contains-span =
      let found =
      Contains-filter (is_place exact prefix suffix points) (length points) span.start
      (omega arith) is_place-span in
      let place : ℕ → Span = span_from (length exact) in
      let some_exact : length exact ≡ 0 → ⊥ = λ none. omega (arith, width, none) in
      Contains-at _ (map place found.0) (map place found.1) span
      (cond-false _ _ _ (ne_eqb _ _ some_exact) ∙ ap (map place) found.2
      ∙ map-append place found.0 (span.start ∷ found.1)
      ∙ ap
      (λ end. map place found.0 ++ record { start = span.start; end = end } ∷ map place found.1)
      behind)

-- ---- the parts of a text that are cut off one behind the other

module _ (text : List ℕ) (span : Span) (around start before : ℕ) (first second third : List ℕ)
    (order : span.start ≤ span.end)
    (start_is : start ≡ span.start - around) (before_is : before ≡ min around span.start)
    (first_is : first ≡ drop start (chars text)) (second_is : second ≡ drop before first)
    (third_is : third ≡ drop (span.end - span.start) second) where
  second_at : second ≡ drop span.start (chars text)
  second_at =
      let join : start + before ≡ span.start = omega arith in
      second_is ∙ ap (drop before) first_is ∙ drop-drop before start (chars text)
      ∙ ap (λ n. drop n (chars text)) join

  third_at : third ≡ drop span.end (chars text)
  third_at =
      let join : span.start + (span.end - span.start) ≡ span.end = omega arith in
      third_is ∙ ap (drop (span.end - span.start)) second_at
      ∙ drop-drop (span.end - span.start) span.start (chars text)
      ∙ ap (λ n. drop n (chars text)) join

  pub quote_of_parts : (exact prefix suffix : List ℕ)
      → exact ≡ encode_utf8_all (take (span.end - span.start) second)
      → prefix ≡ encode_utf8_all (take before first)
      → suffix ≡ encode_utf8_all (take around third)
      → ◌≡◌ {A = Quote} (record { exact = exact; prefix = prefix; suffix = suffix })
      (quote_of_span text span around)
  quote_of_parts exact prefix suffix e p s =
      let reach : before ≡ span.start - (span.start - around) = omega arith in
      let more : around ≡ span.end + around - span.end = omega arith in
      let e' = e ∙ ap (λ t. encode_utf8_all (take (span.end - span.start) t)) second_at in
      let p' =
      p
      ∙ ap (λ t. encode_utf8_all (take before t))
      (first_is ∙ ap (λ n. drop n (chars text)) start_is)
      ∙ ap (λ n. encode_utf8_all (take n (drop (span.start - around) (chars text)))) reach in
      let s' =
      s ∙ ap (λ t. encode_utf8_all (take around t)) third_at
      ∙ ap (λ n. encode_utf8_all (take n (drop span.end (chars text)))) more in
      λ i. record { exact = e' i; prefix = p' i; suffix = s' i }

  pub Contains-parts : (exact prefix suffix : List ℕ) → span.start < span.end
      → span.end ≤ length (chars text) → chars exact ≡ take (span.end - span.start) second
      → chars prefix ≡ take before first → chars suffix ≡ take around third
      → Contains (places_of text (selector.Quote exact prefix suffix)) span
  Contains-parts exact prefix suffix some within e p s =
      let back : start ≡ span.start - before = omega arith in
      Contains-span (chars text) (chars exact) (chars prefix)
      (chars suffix) span before around some within (omega arith)
      (e ∙ ap (take (span.end - span.start)) second_at)
      (p ∙ ap (take before) (first_is ∙ ap (λ n. drop n (chars text)) back))
      (s ∙ ap (take around) third_at)
