-- How often terms occur among terms: what becomes of totals where terms are added.
use Rattle.std.proofs.Common.{◌≡◌, ℕ, suc, ◌+◌, ◌<◌, List, [], ◌∷◌, ◌++◌, Bool, true, false, cond, ◌&&◌, ◌||◌, bytes_eq, count_by, drop, filter, fold, get_or, length, map, nat_eq, zero-add, inl, inr, refl, sym, ap, ap₂, ◌∙◌, subst, arith, Ordering, Less, Equal, Greater, String, string_bytes}
use Rattle.std.specs.Prelude.{string_cmp, unwrap_or}
use Rattle.std.specs.BTreeMap.{insert_entry, is_at}
use Rattle.std.specs.BTreeSet.{insert_key}
use Rattle.std.specs.Cmp.Lexicographic.{slice_cmp}
use Rattle.std.specs.List.{starts_with}
use Rattle.std.specs.List.Sorted.{IsStrictlySortedBy}
use Rattle.std.specs.Map.{keys_of, lookup}
use Rattle.std.specs.Ordering.{nat_cmp, is_eq, match_ordering, ordering_reverse}
use Rattle.std.proofs.lemmas.Bool.{both_ways, cases_Bool, or_parts}
use Rattle.std.proofs.lemmas.Cmp.{nat_list_cmp_total}
use Rattle.std.proofs.lemmas.List.Folds.{list_any-append}
use Rattle.std.proofs.lemmas.List.Kept.{IsStrictlySortedBy-filter}
use Rattle.std.proofs.lemmas.List.Sums.{fold_push, sum_by-append, sum_by_push, sum_by-cons}
use Rattle.std.proofs.lemmas.Map.Lookups.{exact_bytes}
use Rattle.std.proofs.lemmas.Map.Text.{is_eq-slice_cmp}
use Rattle.std.proofs.lemmas.Slice.Eq.{bytes_eq-Decides}
use Rattle.an_base.specs.TextSet.{Ascend, ascending, has_text}
use Rattle.an_base.specs.Totals.{Adds, capped, counted, counted_all, counted_from, total_among, totals_of, with_prefix, with_total}
use Rattle.an_base.specs.declared.span.TermTotal.{TermTotal}
use Rattle.an_base.proofs.NumberedLemmas.{drop_at}
use Rattle.an_base.proofs.TextSetLemmas.{ascend-texts}
use Rattle.an_base.proofs.AscendLemmas.{by_bytes, Above, before-other, bytes_eq-turned, ascend-insert, ascend-all, ascend-ascending, none-above, has_text-insert, has_text-all, has_text-ascending, has_text-filter, same-ascend}

-- ---- numbers in 64 bits

pub capped-more : (n m : ℕ) → capped (capped n + m) ≡ capped (n + m)
unfolding capped
capped-more n m = omega arith

pub capped-sum : (n m : ℕ) → capped (capped n + capped m) ≡ capped (n + m)
unfolding capped
capped-sum n m = omega arith

-- ---- terms, each with its number

abbrev tally : (List ℕ → ℕ) → List (List ℕ) → List TermTotal
tally g us = map (λ u. record { term = u; total = capped (g u) }) us

tally-agree : (g h : List ℕ → ℕ) → ((u : List ℕ) → g u ≡ h u) → (us : List (List ℕ))
    → tally g us ≡ tally h us
tally-agree g h same [] = refl
tally-agree g h same (u ∷ us) =
    ap₂ (λ n es. record { term = u; total = capped n } ∷ es) (same u) (tally-agree g h same us)

-- ---- a term occurs so many times more

module _ (g : List ℕ → ℕ) (v : List ℕ) (n : ℕ) where
  abbrev more : List ℕ → ℕ
  more u = g u + cond (bytes_eq u v) n 0

  same : (u : List ℕ) → bytes_eq u v ≡ false → g u ≡ more u
  same u other = sym (ap (λ b. g u + cond b n 0) other ∙ omega arith)

  above-other : (u : List ℕ) → by_bytes v u ≡ Less → bytes_eq u v ≡ false
  above-other u first = before-other v u first

  all_same : (us : List (List ℕ)) → Above v us → tally g us ≡ tally more us
  all_same [] above = refl
  all_same (u ∷ us) above =
      ap₂ (λ m es. record { term = u; total = capped m } ∷ es) (same u (above-other u above.0))
      (all_same us above.1)

  through : (u : List ℕ) (us : List (List ℕ)) → by_bytes v u ≡ Less → Above u us → Above v us
  through u [] first above = tt
  through u (w ∷ ws) first above =
      (nat_list_cmp_total.trans v u w first above.0, through u ws first above.1)

  placed : (us : List (List ℕ)) → Ascend us
      → with_total (tally g us) v (capped (more v)) ≡ tally more (insert_key by_bytes us v)
  unfolding IsStrictlySortedBy
  placed [] ascends = refl
  placed (u ∷ us) ascends = by (placed us ascends.1) (by_bytes v u) refl
    where
      by : with_total (tally g us) v (capped (more v)) ≡ tally more (insert_key by_bytes us v)
          → (o : Ordering) → by_bytes v u ≡ o
          → match_ordering o
          (record { term = v; total = capped (more v) } ∷ record { term = u; total = capped (g u) }
          ∷ tally g us)
          (record { term = u; total = capped (more v) } ∷ tally g us)
          (record { term = u; total = capped (g u) } ∷ with_total (tally g us) v (capped (more v)))
          ≡ tally more (match_ordering o (v ∷ u ∷ us) (u ∷ us) (u ∷ insert_key by_bytes us v))
      by later Less is =
          ap (λ es. record { term = v; total = capped (more v) } ∷ es)
          (all_same (u ∷ us) (is, through u us is ascends.0))
      by later Equal is =
          let equal : v ≡ u = exact_bytes v u is in
          ap₂ (λ t es. record { term = u; total = capped (more t) } ∷ es) equal
          (all_same us (subst (λ t. Above t us) (sym equal) ascends.0))
      by later Greater is =
          ap₂ (λ m es. record { term = u; total = capped m } ∷ es)
          (same u (sym (is_eq-slice_cmp u v)
          ∙ ap is_eq (nat_list_cmp_total.antisymm u v ∙ ap ordering_reverse is))) later

  found : (us : List (List ℕ)) → (has_text v us ≡ false → g v ≡ 0)
      → total_among (tally g us) v ≡ capped (g v)
  unfolding capped
  found [] none = sym (ap capped (none refl))
  found (u ∷ us) none = elim (cases_Bool (bytes_eq v u)) [
    | inl is ↦ rw is (ap (λ t. capped (g t)) (sym ((bytes_eq-Decides v u).0 is)))
    | inr isnt ↦ rw isnt (found us (λ later. none (rw (bytes_eq-turned u v ∙ isnt) later)))
  ]

  pub counted-step : (us : List (List ℕ)) (m : ℕ) → Ascend us → (has_text v us ≡ false → g v ≡ 0)
      → capped (capped (g v) + m) ≡ capped (g v + n)
      → counted (tally g us) v m ≡ tally more (insert_key by_bytes us v)
  counted-step us m ascends none number =
      let itself : more v ≡ g v + n = ap (λ b. g v + cond b n 0) ((bytes_eq-Decides v v).1 refl) in
      ap (with_total (tally g us) v)
      (ap (λ k. capped (k + m)) (found us none) ∙ number ∙ sym (ap capped itself))
      ∙ placed us ascends

-- ---- how often a term is among terms

count-none : (q : List ℕ) (us : List (List ℕ)) → has_text q us ≡ false
    → count_by (bytes_eq q) us ≡ 0
count-none q [] none = refl
count-none q (u ∷ us) none =
    let parts = or_parts (bytes_eq u q) (has_text q us) none in
    sum_by-cons (λ t. cond (bytes_eq q t) 1 0) u us
    ∙ ap₂ (λ b n. cond b 1 0 + n) (bytes_eq-turned q u ∙ parts.0) (count-none q us parts.1)

pub counted-once : (terms : List (List ℕ)) (term : List ℕ)
    → counted (totals_of terms) term 1 ≡ totals_of (terms ++ term ∷ [])
unfolding totals_of
counted-once terms term =
    let us = ascending terms in
    counted-step (λ u. count_by (bytes_eq u) terms) term 1 us 1 (ascend-ascending terms)
    (λ none. count-none term terms (sym (has_text-ascending term terms) ∙ none))
    (capped-more (count_by (bytes_eq term) terms) 1)
    ∙ tally-agree _ (λ u. count_by (bytes_eq u) (terms ++ term ∷ []))
    (λ u. sym (sum_by_push (λ t. cond (bytes_eq u t) 1 0) terms term)) (insert_key by_bytes us term)
    ∙ ap (tally (λ u. count_by (bytes_eq u) (terms ++ term ∷ [])))
    (sym (fold_push (insert_key by_bytes) [] terms term))

pub adds-once : (old new : List TermTotal) (term : List ℕ) → new ≡ counted old term 1
    → Adds old new (term ∷ [])
adds-once old new term is terms before =
    is ∙ ap (λ totals. counted totals term 1) before ∙ counted-once terms term

terms-tally : (g : List ℕ → ℕ) (us : List (List ℕ)) → map (λ e. e.term) (tally g us) ≡ us
terms-tally g [] = refl
terms-tally g (u ∷ us) = ap (λ ts. u ∷ ts) (terms-tally g us)

-- the terms of totals are the terms
pub has_text-totals : (q : List ℕ) (terms : List (List ℕ))
    → has_text q (map (λ e. e.term) (totals_of terms)) ≡ has_text q terms
unfolding totals_of
has_text-totals q terms =
    ap (has_text q) (terms-tally (λ u. count_by (bytes_eq u) terms) (ascending terms))
    ∙ has_text-ascending q terms

-- ---- totals behind totals

sum_of : (a b c : ℕ) (x y : Bool) → (x ≡ true → y ≡ false) → (x ≡ true → b ≡ c)
    → (a + cond x b 0) + cond y c 0 ≡ a + cond (x || y) c 0
sum_of a b c true true apart same = absurd (both_ways true (apart refl) refl)
sum_of a b c true false apart same = let e : b ≡ c = same refl in omega arith
sum_of a b c false y apart same = ap (λ n. n + cond y c 0) (nothing a)
  where
    nothing : (n : ℕ) → n + 0 ≡ n
    nothing n = omega arith

abbrev pub add_entry : List TermTotal → TermTotal → List TermTotal
add_entry sums e = counted sums e.term e.total

module _ (h : List ℕ → ℕ) where
  added-all : (g : List ℕ → ℕ) (us vs : List (List ℕ)) → Ascend us → Ascend vs
      → ((u : List ℕ) → has_text u us ≡ false → g u ≡ 0)
      → fold add_entry (tally g us) (tally h vs)
      ≡ tally (λ u. g u + cond (has_text u vs) (h u) 0) (fold (insert_key by_bytes) us vs)
  unfolding IsStrictlySortedBy
  added-all g us [] up over none = tally-agree g (λ u. g u + 0) (λ u. omega arith) us
  added-all g us (v ∷ vs) up over none =
      ap (λ sums. fold add_entry sums (tally h vs))
      (counted-step g v (h v) us (capped (h v)) up (none v) (capped-sum (g v) (h v)))
      ∙ added-all (λ u. g u + cond (bytes_eq u v) (h v) 0) (insert_key by_bytes us v) vs
      (ascend-insert v us up) over.1 outside
      ∙ tally-agree _ _ pointwise (fold (insert_key by_bytes) (insert_key by_bytes us v) vs)
    where
      outside : (u : List ℕ) → has_text u (insert_key by_bytes us v) ≡ false
          → g u + cond (bytes_eq u v) (h v) 0 ≡ 0
      outside u isnt =
          let parts =
          or_parts (bytes_eq v u) (has_text u us) (sym (has_text-insert u v us) ∙ isnt) in
          ap₂ (λ n b. n + cond b (h v) 0) (none u parts.1) (bytes_eq-turned u v ∙ parts.0)

      pointwise : (u : List ℕ)
          → (g u + cond (bytes_eq u v) (h v) 0) + cond (has_text u vs) (h u) 0
          ≡ g u + cond (bytes_eq v u || has_text u vs) (h u) 0
      pointwise u =
          ap (λ b. (g u + cond b (h v) 0) + cond (has_text u vs) (h u) 0) (bytes_eq-turned u v)
          ∙ sum_of (g u) (h v) (h u) (bytes_eq v u) (has_text u vs)
          (λ is.
          ap (λ t. has_text t vs) (sym ((bytes_eq-Decides v u).0 is)) ∙ none-above v vs over.0)
          (λ is. ap h ((bytes_eq-Decides v u).0 is))

filter-tally : (p : List ℕ → Bool) (h : List ℕ → ℕ) (us : List (List ℕ))
    → filter (λ e. p e.term) (tally h us) ≡ tally h (filter p us)
filter-tally p h [] = refl
filter-tally p h (u ∷ us) = by (p u) (filter-tally p h us)
  where
    by : (b : Bool) → filter (λ e. p e.term) (tally h us) ≡ tally h (filter p us)
        → cond b (record { term = u; total = capped (h u) } ∷ filter (λ e. p e.term) (tally h us))
        (filter (λ e. p e.term) (tally h us)) ≡ tally h (cond b (u ∷ filter p us) (filter p us))
    by true later = ap (λ es. record { term = u; total = capped (h u) } ∷ es) later
    by false later = later

module _ (p : List ℕ → Bool) (q : List ℕ) where
  count-filter : (us : List (List ℕ))
      → count_by (bytes_eq q) (filter p us) ≡ cond (p q) (count_by (bytes_eq q) us) 0
  count-filter us = by (p q) refl
    where
      passing : p q ≡ true → (us : List (List ℕ))
          → count_by (bytes_eq q) (filter p us) ≡ count_by (bytes_eq q) us
      passing is [] = refl
      passing is (u ∷ us) = step (p u) refl (passing is us)
        where
          step : (b : Bool) → p u ≡ b
              → count_by (bytes_eq q) (filter p us) ≡ count_by (bytes_eq q) us
              → count_by (bytes_eq q) (cond b (u ∷ filter p us) (filter p us))
              ≡ count_by (bytes_eq q) (u ∷ us)
          step true here later =
              sum_by-cons (λ t. cond (bytes_eq q t) 1 0) u (filter p us)
              ∙ ap (λ n. cond (bytes_eq q u) 1 0 + n) later
              ∙ sym (sum_by-cons (λ t. cond (bytes_eq q t) 1 0) u us)
          step false here later =
              let other : bytes_eq q u ≡ false = differ (bytes_eq q u) refl in
              later
              ∙ sym (sum_by-cons (λ t. cond (bytes_eq q t) 1 0) u us
              ∙ ap (λ b. cond b 1 0 + count_by (bytes_eq q) us) other
              ∙ zero-add (count_by (bytes_eq q) us))
            where
              differ : (b : Bool) → bytes_eq q u ≡ b → b ≡ false
              differ true equal =
                  absurd (both_ways (p u) here (ap p (sym ((bytes_eq-Decides q u).0 equal)) ∙ is))
              differ false equal = refl

      by : (b : Bool) → p q ≡ b
          → count_by (bytes_eq q) (filter p us) ≡ cond b (count_by (bytes_eq q) us) 0
      by true is = passing is us
      by false is =
          count-none q (filter p us)
          (has_text-filter p q us ∙ ap (λ b. has_text q us && b) is ∙ none (has_text q us))
        where
          none : (b : Bool) → (b && false) ≡ false
          none true = refl
          none false = refl

-- what is counted of terms and of those of others that pass
module _ (p : List ℕ → Bool) (terms others : List (List ℕ)) where
  kept-count : (u : List ℕ)
      → count_by (bytes_eq u) terms
      + cond (has_text u (filter p (ascending others))) (count_by (bytes_eq u) others) 0
      ≡ count_by (bytes_eq u) (terms ++ filter p others)
  kept-count u =
      ap (λ b. count_by (bytes_eq u) terms + cond b (count_by (bytes_eq u) others) 0)
      (has_text-filter p u (ascending others) ∙ ap (λ b. b && p u) (has_text-ascending u others))
      ∙ ap (λ n. count_by (bytes_eq u) terms + n)
      (by (has_text u others) refl (p u) ∙ sym (count-filter p u others))
      ∙ sym (sum_by-append (λ t. cond (bytes_eq u t) 1 0) terms (filter p others))
    where
      by : (b : Bool) → has_text u others ≡ b → (c : Bool)
          → cond (b && c) (count_by (bytes_eq u) others) 0 ≡ cond c (count_by (bytes_eq u) others) 0
      by true is c = refl
      by false is true = sym (count-none u others is)
      by false is false = refl

  kept-terms : fold (insert_key by_bytes) (ascending terms) (filter p (ascending others))
      ≡ ascending (terms ++ filter p others)
  kept-terms =
      same-ascend _ _
      (ascend-all (ascending terms) (filter p (ascending others)) (ascend-ascending terms))
      (ascend-ascending (terms ++ filter p others))
      (λ q. has_text-all q (ascending terms) (filter p (ascending others))
      ∙ ap₂ (λ a b. a || b) (has_text-ascending q terms)
      (has_text-filter p q (ascending others) ∙ ap (λ b. b && p q) (has_text-ascending q others)
      ∙ sym (has_text-filter p q others))
      ∙ sym (list_any-append (λ o. bytes_eq o q) terms (filter p others))
      ∙ sym (has_text-ascending q (terms ++ filter p others)))

  pub counted-passed : fold add_entry (totals_of terms) (filter (λ e. p e.term) (totals_of others))
      ≡ totals_of (terms ++ filter p others)
  unfolding totals_of
  counted-passed =
      ap (fold add_entry (totals_of terms))
      (filter-tally p (λ u. count_by (bytes_eq u) others) (ascending others))
      ∙ added-all (λ u. count_by (bytes_eq u) others) (λ u. count_by (bytes_eq u) terms)
      (ascending terms) (filter p (ascending others))
      (ascend-ascending terms)
      (IsStrictlySortedBy-filter by_bytes p (ascending others) (ascend-ascending others))
      (λ u none. count-none u terms (sym (has_text-ascending u terms) ∙ none))
      ∙ tally-agree _ (λ u. count_by (bytes_eq u) (terms ++ filter p others)) kept-count
      (fold (insert_key by_bytes) (ascending terms) (filter p (ascending others)))
      ∙ ap (tally (λ u. count_by (bytes_eq u) (terms ++ filter p others))) kept-terms

pub adds-from : (prefix : List ℕ) (old new list : List TermTotal)
    → new ≡ counted_from prefix old list
    → (others : List (List ℕ)) → list ≡ totals_of others → Adds old new (with_prefix prefix others)
adds-from prefix old new list is others whole terms before =
    is ∙ ap₂ (λ a b. counted_from prefix a b) before whole
    ∙ counted-passed (λ t. starts_with nat_eq t prefix) terms others

all-kept : {A : Type 0} (xs : List A) → filter (λ _. true) xs ≡ xs
all-kept [] = refl
all-kept (x ∷ xs) = ap (λ ys. x ∷ ys) (all-kept xs)

-- totals that are added whole
pub adds-all : (old new totals : List TermTotal) → new ≡ counted_all old totals
    → (terms : List (List ℕ)) → totals ≡ totals_of terms → Adds old new terms
adds-all old new totals is terms whole before others =
    is ∙ ap₂ (λ a b. fold add_entry a b) others whole
    ∙ ap (fold add_entry (totals_of before)) (sym (all-kept (totals_of terms)))
    ∙ counted-passed (λ _. true) before terms
    ∙ ap (λ more. totals_of (before ++ more)) (all-kept terms)

pub fold-nothing : (sums : List TermTotal) (es fs : List TermTotal) → es ≡ fs
    → fold add_entry sums es ≡ fold add_entry sums fs
fold-nothing sums es fs same = ap (fold add_entry sums) same

-- the next of a list of totals that begins with the prefix
pub counted-next : (prefix : List ℕ) (sums new list : List TermTotal) (place : ℕ)
    → place < length list
    → starts_with nat_eq (get_or (map (λ e. e.term) list) place []) prefix ≡ true
    → new ≡ counted sums (get_or (map (λ e. e.term) list) place [])
    (get_or (map (λ e. e.total) list) place 0)
    → counted_from prefix new (drop (place + 1) list) ≡ counted_from prefix sums (drop place list)
counted-next prefix sums new list place within begins is =
    let next : place + 1 ≡ suc place = omega arith in
    let first : TermTotal = record {
      term = get_or (map (λ e. e.term) list) place [];
      total = get_or (map (λ e. e.total) list) place 0;
    } in
    ap₂ (λ totals k. counted_from prefix totals (drop k list)) is next
    ∙ sym (ap (λ b. fold add_entry sums
    (cond b (first ∷ filter (λ e. starts_with nat_eq e.term prefix) (drop (suc place) list))
    (filter (λ e. starts_with nat_eq e.term prefix) (drop (suc place) list)))) begins)
    ∙ sym (ap (counted_from prefix sums) (drop_at place list within))

-- ---- as a map keeps them

module _ {Y : Type 0} where
  abbrev pub shown : List (String Y × ℕ) → List TermTotal
  shown es = map (λ e. record { term = string_bytes e.0; total = e.1 }) es

  shown-insert : (es : List (String Y × ℕ)) (key : String Y) (n : ℕ)
      → shown (insert_entry string_cmp es key n) ≡ with_total (shown es) (string_bytes key) n
  shown-insert [] key n = refl
  shown-insert (e ∷ es) key n =
      elim (string_cmp key e.0) as (λ o.
      shown
      (match_ordering o ((key, n) ∷ e ∷ es) ((e.0, n) ∷ es) (e ∷ insert_entry string_cmp es key n))
      ≡ match_ordering o (record { term = string_bytes key; total = n } ∷ shown (e ∷ es))
      (record { term = string_bytes e.0; total = n } ∷ shown es)
      (record { term = string_bytes e.0; total = e.1 }
      ∷ with_total (shown es) (string_bytes key) n)) [
        | Less ↦ refl
        | Equal ↦ refl
        | Greater ↦
            ap (λ ts. record { term = string_bytes e.0; total = e.1 } ∷ ts) (shown-insert es key n)
      ]

  shown-lookup : (es : List (String Y × ℕ)) (term : List ℕ)
      → unwrap_or (lookup (is_at (λ k. slice_cmp nat_cmp term (string_bytes k))) es) 0
      ≡ total_among (shown es) term
  shown-lookup [] term = refl
  shown-lookup (e ∷ es) term = elim (cases_Bool (bytes_eq term (string_bytes e.0))) [
    | inl is ↦ rw (is_eq-slice_cmp term (string_bytes e.0), is) refl
    | inr isnt ↦ rw (is_eq-slice_cmp term (string_bytes e.0), isnt) (shown-lookup es term)
  ]

  -- the entry of a term takes so many times more
  pub shown-count : (es new : List (String Y × ℕ)) (key : String Y) (n : ℕ)
      → new ≡ insert_entry string_cmp es key
      (capped (unwrap_or (lookup (is_at (string_cmp key)) es) 0 + n))
      → shown new ≡ counted (shown es) (string_bytes key) n
  shown-count es new key n is =
      ap shown is ∙ shown-insert es key _
      ∙ ap (λ total. with_total (shown es) (string_bytes key) (capped (total + n)))
      (shown-lookup es (string_bytes key))

  terms-shown : (es : List (String Y × ℕ))
      → map (λ e. e.term) (shown es) ≡ map string_bytes (keys_of es)
  terms-shown [] = refl
  terms-shown (e ∷ es) = ap (λ ts. string_bytes e.0 ∷ ts) (terms-shown es)

  pub ascend-shown : (es : List (String Y × ℕ)) → IsStrictlySortedBy string_cmp (keys_of es)
      → Ascend (map (λ e. e.term) (shown es))
  ascend-shown es sorted = subst Ascend (sym (terms-shown es)) (ascend-texts (keys_of es) sorted)
