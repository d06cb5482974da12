-- A text that goes on, from one point where a needle stands to the next, as it did before.
use Rattle.std.proofs.Common.{◌≡◌, ℕ, ◌+◌, ◌-◌, ◌<◌, ◌≤◌, ◌⊎◌, inl, inr, true, eqb, List, ◌++◌, length, take, drop, get_or, refl, sym, ap, ◌∙◌, subst, length-append, arith}
use Rattle.std.proofs.lemmas.Bool.{false_from_ne_true, false≢true, cases_lt}
use Rattle.std.proofs.lemmas.List.{take_at, take-append-drop, take-append-le, length-drop, get_or-drop, take_rest}
use Rattle.std.proofs.lemmas.List.Prefix.{at_reads, at_from_reads, front_reads}
use Rattle.std.proofs.lemmas.Str.{chars-append, IsCharBoundary-from_take, IsUtf8-take, IsUtf8-append, IsUtf8-between}
use Rattle.std.specs.List.{starts_with}
use Rattle.std.specs.Str.{chars, IsUtf8}
use Rattle.an_selectors.specs.declared.cut.Point.{Point}
use Rattle.an_selectors.specs.Walk.{IsPointOf, StandsAt, StandsNowhere, IsNext, IsAfter}
use Rattle.an_selectors.proofs.CutLemmas.{take_add, at-le-at}
use Rattle.an_selectors.proofs.WalkLemmas.{starts_parts, starts_from, needle_fits, bytes_read, points_read}

-- ---- among code points

-- Where a needle stands at three places, each as far behind the one before, and no further than the
-- needle is long, and nowhere between the first two, it stands nowhere between the last two.
module _ (needle points : List ℕ) (first step : ℕ) (near : step ≤ length needle)
    (fits : first + step + step + length needle ≤ length points)
    (here : (t : ℕ) → t < length needle → get_or points (first + t) 0 ≡ get_or needle t 0)
    (there : (t : ℕ) → t < length needle → get_or points (first + step + t) 0 ≡ get_or needle t 0)
    (beyond : (t : ℕ) → t < length needle
    → get_or points (first + step + step + t) 0 ≡ get_or needle t 0) where
  -- between them the text repeats itself
  points_repeat : (x : ℕ) → x < step + length needle
      → get_or points (first + x) 0 ≡ get_or points (first + step + x) 0
  points_repeat x within = by_place (cases_lt x (length needle))
    where
      by_place : (x < length needle) ⊎ (length needle ≤ x)
          → get_or points (first + x) 0 ≡ get_or points (first + step + x) 0
      by_place (inl inside) = here x inside ∙ sym (there x inside)
      by_place (inr outside) =
          let back = x - step in
          let place : first + x ≡ first + step + back = omega arith in
          let next : first + step + step + back ≡ first + step + x = omega arith in
          ap (λ n. get_or points n 0) place ∙ there back (omega arith)
          ∙ sym (beyond back (omega arith)) ∙ ap (λ n. get_or points n 0) next

  -- so where the needle stands behind the second place, it stands as far behind the first
  stands_sooner : (less : ℕ) → less < step
      → ((t : ℕ) → t < length needle
      → get_or points (first + step + less + t) 0 ≡ get_or needle t 0)
      → starts_with eqb (drop (first + less) points) needle ≡ true
  stands_sooner less below again =
      starts_from _ needle _
      (at_from_reads 0 points needle (first + less) (omega arith) (λ t within.
      let place : first + less + t ≡ first + (less + t) = omega arith in
      let next : first + step + (less + t) ≡ first + step + less + t = omega arith in
      ap (λ n. get_or points n 0) place ∙ points_repeat (less + t) (omega arith)
      ∙ ap (λ n. get_or points n 0) next ∙ again t within))

  nowhere_between : StandsNowhere needle points (first + 1) (first + step)
      → StandsNowhere needle points (first + step + 1) (first + step + step)
  nowhere_between between j onward within =
      let less = j - (first + step) in
      let place : j ≡ first + step + less = omega arith in
      false_from_ne_true _ (λ is.
      let again = at_reads 0 points needle j _ (starts_parts (drop j points) needle is) in
      let sooner =
      stands_sooner less (omega arith)
      (λ t inside. ap (λ n. get_or points (n + t) 0) (sym place) ∙ again t inside) in
      false≢true (sym (between (first + less) (omega arith) (omega arith)) ∙ sooner))

-- ---- in a text

module _ (needle text : List ℕ) (last point : Point) (v : IsUtf8 needle) (u : IsUtf8 text)
    (after : IsAfter needle text last point) (here : StandsAt needle text point) where
  abbrev step : ℕ
  step = point.number - last.number

  abbrev gap : ℕ
  gap = point.at - last.at

  pub gap_order : last.at ≤ point.at
  gap_order = at-le-at text last point u after.stands.is here.is after.order

  module _ (within : gap ≤ length needle) where
    -- the bytes of a step are the needle's first
    gap_bytes : take gap (drop last.at text) ≡ take gap needle
    gap_bytes =
        ap (take gap) after.stands.bytes
        ∙ take-append-le gap needle (drop (last.at + length needle) text) within

    IsUtf8-gap : IsUtf8 (take gap needle)
    IsUtf8-gap =
        subst IsUtf8 gap_bytes
        (IsUtf8-between text last.at point.at u gap_order after.stands.is.boundary here.is.boundary)

    length-gap : length (chars (take gap needle)) ≡ step
    length-gap =
        let sum : point.at ≡ last.at + gap = omega (arith, gap_order) in
        let parts : take point.at text ≡ take last.at text ++ take gap needle =
        ap (λ n. take n text) sum ∙ take_add last.at gap text
        ∙ ap (λ t. take last.at text ++ t) gap_bytes in
        let points =
        ap length (ap chars parts
        ∙ chars-append (take last.at text) (take gap needle)
        (IsUtf8-take text last.at u after.stands.is.boundary))
        ∙ length-append (chars (take last.at text)) (chars (take gap needle)) in
        omega (arith, points, here.is.counted, after.stands.is.counted)

    -- a step has a code point, and no more than the needle
    step_within : step ≤ length (chars needle)
    step_within =
        let parts =
        ap length (ap chars (sym (take-append-drop gap needle))
        ∙ chars-append (take gap needle) (drop gap needle) IsUtf8-gap)
        ∙ length-append (chars (take gap needle)) (chars (drop gap needle)) in
        omega (arith, parts, length-gap)

    step_some : 0 < gap → 0 < step
    step_some some = by_order (cases_lt last.number point.number)
      where
        by_order : (last.number < point.number) ⊎ (point.number ≤ last.number) → 0 < step
        by_order (inl later) = omega arith
        by_order (inr earlier) =
            let back = at-le-at text point last u here.is after.stands.is earlier in
            absurd (omega (arith, back))

    next_front : take (point.at + gap) text ≡ take point.at text ++ take gap needle
    next_front =
        take_add point.at gap text
        ∙ ap (λ t. take point.at text ++ t)
        (ap (take gap) here.bytes
        ∙ take-append-le gap needle (drop (point.at + length needle) text) within)

    IsUtf8-next : IsUtf8 (take (point.at + gap) text)
    IsUtf8-next =
        subst IsUtf8 (sym next_front)
        (IsUtf8-append (take point.at text) (take gap needle)
        (IsUtf8-take text point.at u here.is.boundary) IsUtf8-gap)

    pub IsPointOf-next :
        IsPointOf text (record { at = point.at + gap; number = point.number + step })
    IsPointOf-next =
        let points =
        ap length (ap chars next_front
        ∙ chars-append (take point.at text) (take gap needle)
        (IsUtf8-take text point.at u here.is.boundary))
        ∙ length-append (chars (take point.at text)) (chars (take gap needle)) in
        record {
          boundary =
              IsCharBoundary-from_take text (point.at + gap) u
              (omega (arith, here.behind.0, within)) IsUtf8-next;
          counted = omega (arith, points, here.is.counted, length-gap);
        }

    -- behind the needle its end stands once more
    module _ (end rest more : List ℕ) (end_is : end ≡ drop (length needle - gap) needle)
        (rest_is : rest ≡ drop (point.at + length needle) text) (again : rest ≡ end ++ more) where
      next_fits : point.at + gap + length needle ≤ length text
      next_fits =
          omega (
            arith,
            within,
            here.behind.0,
            ap length rest_is ∙ length-drop (point.at + length needle) text,
            ap length again ∙ length-append end more,
            ap length end_is ∙ length-drop (length needle - gap) needle,
          )

      next_reads : (x : ℕ) → x < length needle
          → get_or text (point.at + gap + x) 0 ≡ get_or needle x 0
      next_reads x inside = by_place (cases_lt (gap + x) (length needle))
        where
          by_place : (gap + x < length needle) ⊎ (length needle ≤ gap + x)
              → get_or text (point.at + gap + x) 0 ≡ get_or needle x 0
          by_place (inl before) =
              let same : point.at + gap + x ≡ point.at + (gap + x) = omega arith in
              let back : last.at + (gap + x) ≡ point.at + x = omega (arith, gap_order) in
              ap (λ n. get_or text n 0) same
              ∙ bytes_read needle text point v u here (gap + x) before
              ∙ sym (bytes_read needle text last v u after.stands (gap + x) before)
              ∙ ap (λ n. get_or text n 0) back ∙ bytes_read needle text point v u here x inside
          by_place (inr behind) =
              let y = gap + x - length needle in
              let same : point.at + gap + x ≡ point.at + length needle + y = omega arith in
              let back : length needle - gap + y ≡ x = omega (arith, within) in
              let short : y < length end =
              omega (arith, ap length end_is ∙ length-drop (length needle - gap) needle, within) in
              ap (λ n. get_or text n 0) same ∙ sym (get_or-drop (point.at + length needle) text y 0)
              ∙ ap (λ t. get_or t y 0) (sym rest_is) ∙ front_reads 0 rest end more again y short
              ∙ ap (λ t. get_or t y 0) end_is ∙ get_or-drop (length needle - gap) needle y 0
              ∙ ap (λ n. get_or needle n 0) back

      next_bytes : drop (point.at + gap) text ≡ needle ++ drop (point.at + gap + length needle) text
      next_bytes = at_from_reads 0 text needle (point.at + gap) next_fits next_reads

      StandsAt-next :
          StandsAt needle text (record { at = point.at + gap; number = point.number + step })
      StandsAt-next =
          let front : take (point.at + gap + length needle) text
          ≡ take (point.at + gap) text ++ needle =
          take_add (point.at + gap) (length needle) text
          ∙ ap (λ t. take (point.at + gap) text ++ t)
          (ap (take (length needle)) next_bytes
          ∙ take_at needle (drop (point.at + gap + length needle) text) (length needle) refl) in
          record {
            is = IsPointOf-next;
            behind =
                IsCharBoundary-from_take text (point.at + gap + length needle) u next_fits
                (subst IsUtf8 (sym front)
                (IsUtf8-append (take (point.at + gap) text) needle IsUtf8-next v));
            bytes = next_bytes;
          }

      IsNext-repeated : 0 < gap
          → IsNext needle text (point.number + 1)
          (record { at = point.at + gap; number = point.number + step })
      IsNext-repeated some =
          let place : last.number + step ≡ point.number = omega (arith, after.order) in
          let next : Point = record { at = point.at + gap; number = point.number + step } in
          let fits = needle_fits needle text next v u StandsAt-next in
          let nowhere =
          nowhere_between (chars needle) (chars text) last.number step step_within
          (omega (arith, fits, place))
          (points_read needle text last v u after.stands)
          (λ t inside. ap (λ n. get_or (chars text) (n + t) 0) place
          ∙ points_read needle text point v u here t inside)
          (λ t inside. ap (λ n. get_or (chars text) (n + step + t) 0) place
          ∙ points_read needle text next v u StandsAt-next t inside)
          (λ j onward below. after.between j onward (omega (arith, place))) in
          record {
            stands = StandsAt-next;
            later = omega (arith, step_some some);
            skipped = λ j onward below. nowhere j (omega (arith, place)) (omega (arith, place));
          }

    -- the same, as the code tests it
    pub IsNext-tested : (needle_bytes text_bytes : List ℕ) → needle_bytes ≡ needle
        → text_bytes ≡ text
        → true ≡ starts_with eqb (take (length text_bytes - (point.at + length needle))
        (drop (point.at + length needle) text_bytes))
        (take (length needle_bytes - (length needle - gap))
        (drop (length needle - gap) needle_bytes))
        → 0 < gap
        → IsNext needle text (point.number + 1)
        (record { at = point.at + gap; number = point.number + step })
    IsNext-tested needle_bytes text_bytes n t tested =
        IsNext-repeated _ _ _
        (take_rest needle_bytes (length needle - gap) ∙ ap (drop (length needle - gap)) n)
        (take_rest text_bytes (point.at + length needle) ∙ ap (drop (point.at + length needle)) t)
        (starts_parts _ _ (sym tested))
