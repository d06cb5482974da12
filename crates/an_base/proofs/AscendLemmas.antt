-- Texts in the order of their bytes, and where a text stands among them.
use Rattle.std.proofs.Common.{◌≡◌, ℕ, suc, ◌+◌, ◌<◌, ◌≤◌, List, [], ◌∷◌, ◌++◌, Bool, true, false, cond, ◌&&◌, ◌||◌, bytes_eq, filter, fold, get_or, length, inl, inr, refl, sym, ap, ap₂, ◌∙◌, subst, arith, Ordering, Less, Equal, Greater}
use Rattle.std.specs.BTreeSet.{insert_key}
use Rattle.std.specs.Cmp.Lexicographic.{slice_cmp}
use Rattle.std.specs.List.{AllByRecursion, prefix_len}
use Rattle.std.specs.List.Sorted.{IsStrictlySortedBy}
use Rattle.std.specs.Ordering.{nat_cmp, is_eq, is_lt, match_ordering, ordering_reverse}
use Rattle.std.proofs.lemmas.Bool.{both_ways, cases_lt, false_from_ne_true}
use Rattle.std.proofs.lemmas.Cmp.{nat_list_cmp_total}
use Rattle.std.proofs.lemmas.List.Sums.{prefix_len_passes, prefix_len_stops}
use Rattle.std.proofs.lemmas.Map.Keys.{Less-from_sorted}
use Rattle.std.proofs.lemmas.Map.Lookups.{exact_bytes}
use Rattle.std.proofs.lemmas.Map.Text.{is_eq-slice_cmp}
use Rattle.std.proofs.lemmas.Slice.Eq.{bytes_eq-Decides}
use Rattle.an_base.specs.TextSet.{Ascend, ascending, has_text, is_below}

abbrev pub by_bytes : List ℕ → List ℕ → Ordering
by_bytes = slice_cmp nat_cmp

-- a text stands before each of these
abbrev pub Above : List ℕ → List (List ℕ) → Type 0
Above text us = AllByRecursion (λ u. by_bytes text u ≡ Less) us

-- ---- two texts

-- what is behind a text has it before
turned : (a b : List ℕ) → by_bytes a b ≡ Greater → by_bytes b a ≡ Less
turned a b is = nat_list_cmp_total.antisymm b a ∙ ap ordering_reverse is

-- a text before another is another
pub before-other : (a b : List ℕ) → by_bytes a b ≡ Less → bytes_eq b a ≡ false
before-other a b is =
    sym (is_eq-slice_cmp b a) ∙ ap is_eq (nat_list_cmp_total.antisymm b a ∙ ap ordering_reverse is)

before-differs : (a b : List ℕ) → by_bytes a b ≡ Less → bytes_eq a b ≡ false
before-differs a b is = sym (is_eq-slice_cmp a b) ∙ ap is_eq is

pub bytes_eq-turned : (a b : List ℕ) → bytes_eq a b ≡ bytes_eq b a
bytes_eq-turned a b =
    sym (is_eq-slice_cmp a b) ∙ ap is_eq (nat_list_cmp_total.antisymm a b) ∙ reversed (by_bytes b a)
    ∙ is_eq-slice_cmp b a
  where
    reversed : (o : Ordering) → is_eq (ordering_reverse o) ≡ is_eq o
    reversed Less = refl
    reversed Equal = refl
    reversed Greater = refl

less-from : (o : Ordering) → is_lt o ≡ true → o ≡ Less
less-from Less is = refl
less-from Equal is = absurd (both_ways false refl is)
less-from Greater is = absurd (both_ways false refl is)

-- ---- texts in their order

above-through : (text u : List ℕ) (us : List (List ℕ)) → by_bytes text u ≡ Less → Above u us
    → Above text us
above-through text u [] first above = tt
above-through text u (w ∷ ws) first above =
    (nat_list_cmp_total.trans text u w first above.0, above-through text u ws first above.1)

above-insert : (u text : List ℕ) (us : List (List ℕ)) → by_bytes u text ≡ Less → Above u us
    → Above u (insert_key by_bytes us text)
above-insert u text [] first above = (first, tt)
above-insert u text (w ∷ ws) first above =
    elim (by_bytes text w) as (λ o.
    Above u (match_ordering o (text ∷ w ∷ ws) (w ∷ ws) (w ∷ insert_key by_bytes ws text))) [
      | Less ↦ (first, above)
      | Equal ↦ above
      | Greater ↦ (above.0, above-insert u text ws first above.1)
    ]

pub ascend-insert : (text : List ℕ) (us : List (List ℕ)) → Ascend us
    → Ascend (insert_key by_bytes us text)
unfolding IsStrictlySortedBy
ascend-insert text [] ascends = (tt, tt)
ascend-insert text (w ∷ ws) ascends = by (ascend-insert text ws ascends.1) (by_bytes text w) refl
  where
    by : Ascend (insert_key by_bytes ws text) → (o : Ordering) → by_bytes text w ≡ o
        → Ascend (match_ordering o (text ∷ w ∷ ws) (w ∷ ws) (w ∷ insert_key by_bytes ws text))
    by rest Less is = ((is, above-through text w ws is ascends.0), ascends)
    by rest Equal is = ascends
    by rest Greater is = (above-insert w text ws (turned text w is) ascends.0, rest)

pub ascend-all : (us texts : List (List ℕ)) → Ascend us
    → Ascend (fold (insert_key by_bytes) us texts)
ascend-all us [] ascends = ascends
ascend-all us (text ∷ texts) ascends =
    ascend-all (insert_key by_bytes us text) texts (ascend-insert text us ascends)

pub ascend-ascending : (texts : List (List ℕ)) → Ascend (ascending texts)
unfolding IsStrictlySortedBy
ascend-ascending texts = ascend-all [] texts tt

above-front : (u : List ℕ) (us vs : List (List ℕ)) → Above u (us ++ vs) → Above u us
above-front u [] vs above = tt
above-front u (w ∷ ws) vs above = (above.0, above-front u ws vs above.1)

pub ascend-front : (us vs : List (List ℕ)) → Ascend (us ++ vs) → Ascend us
unfolding IsStrictlySortedBy
ascend-front [] vs ascends = tt
ascend-front (u ∷ us) vs ascends = (above-front u us vs ascends.0, ascend-front us vs ascends.1)

-- ---- which texts are among them

pub none-above : (q : List ℕ) (us : List (List ℕ)) → Above q us → has_text q us ≡ false
none-above q [] above = refl
none-above q (u ∷ us) above = rw (before-other q u above.0) (none-above q us above.1)

or_swap : (a b c : Bool) → (a || (b || c)) ≡ (b || (a || c))
or_swap true true c = refl
or_swap true false c = refl
or_swap false b c = refl

or_again : (a b c : Bool) → a ≡ b → (a || c) ≡ (b || (a || c))
or_again true true c is = refl
or_again false false c is = refl
or_again true false c is = absurd (both_ways true is refl)
or_again false true c is = absurd (both_ways false refl is)

or_assoc : (a b c : Bool) → ((a || b) || c) ≡ (b || (a || c))
or_assoc true true c = refl
or_assoc true false c = refl
or_assoc false b c = refl

or_nothing : (b : Bool) → b ≡ (b || false)
or_nothing true = refl
or_nothing false = refl

pub has_text-insert : (q text : List ℕ) (us : List (List ℕ))
    → has_text q (insert_key by_bytes us text) ≡ (bytes_eq text q || has_text q us)
has_text-insert q text [] = refl
has_text-insert q text (w ∷ ws) = by (has_text-insert q text ws) (by_bytes text w) refl
  where
    by : has_text q (insert_key by_bytes ws text) ≡ (bytes_eq text q || has_text q ws)
        → (o : Ordering) → by_bytes text w ≡ o
        → has_text q (match_ordering o (text ∷ w ∷ ws) (w ∷ ws) (w ∷ insert_key by_bytes ws text))
        ≡ (bytes_eq text q || (bytes_eq w q || has_text q ws))
    by later Less is = refl
    by later Equal is =
        or_again (bytes_eq w q) (bytes_eq text q) (has_text q ws)
        (ap (λ t. bytes_eq t q) (sym (exact_bytes text w is)))
    by later Greater is =
        ap (λ b. bytes_eq w q || b) later ∙ or_swap (bytes_eq w q) (bytes_eq text q) (has_text q ws)

pub has_text-all : (q : List ℕ) (us texts : List (List ℕ))
    → has_text q (fold (insert_key by_bytes) us texts) ≡ (has_text q us || has_text q texts)
has_text-all q us [] = or_nothing (has_text q us)
has_text-all q us (text ∷ texts) =
    has_text-all q (insert_key by_bytes us text) texts
    ∙ ap (λ b. b || has_text q texts) (has_text-insert q text us)
    ∙ or_assoc (bytes_eq text q) (has_text q us) (has_text q texts)

pub has_text-ascending : (q : List ℕ) (texts : List (List ℕ))
    → has_text q (ascending texts) ≡ has_text q texts
has_text-ascending q texts = has_text-all q [] texts

and_or : (a b p : Bool) → a ≡ p → (a || (b && p)) ≡ ((a || b) && p)
and_or true b true is = refl
and_or false b p is = refl
and_or true b false is = absurd (both_ways true is refl)

and_none : (a b p : Bool) → (a ≡ true → p ≡ false) → (b && p) ≡ ((a || b) && p)
and_none true true p none = refl
and_none true false true none = absurd (both_ways true (none refl) refl)
and_none true false false none = refl
and_none false b p none = refl

pub has_text-filter : (p : List ℕ → Bool) (q : List ℕ) (us : List (List ℕ))
    → has_text q (filter p us) ≡ (has_text q us && p q)
has_text-filter p q [] = refl
has_text-filter p q (u ∷ us) = by (p u) refl (has_text-filter p q us)
  where
    by : (b : Bool) → p u ≡ b → has_text q (filter p us) ≡ (has_text q us && p q)
        → has_text q (cond b (u ∷ filter p us) (filter p us))
        ≡ ((bytes_eq u q || has_text q us) && p q)
    by true is later = ap (λ b. bytes_eq u q || b) later ∙ both (bytes_eq u q) refl
      where
        both : (a : Bool) → bytes_eq u q ≡ a
            → (a || (has_text q us && p q)) ≡ ((a || has_text q us) && p q)
        both true same =
            and_or true (has_text q us) (p q)
            (sym (ap p (sym ((bytes_eq-Decides u q).0 same)) ∙ is))
        both false same = refl
    by false is later =
        later
        ∙ and_none (bytes_eq u q) (has_text q us) (p q)
        (λ same. ap p (sym ((bytes_eq-Decides u q).0 same)) ∙ is)

-- ---- texts in order are told by what is among them

itself : (u : List ℕ) (us : List (List ℕ)) → has_text u (u ∷ us) ≡ true
itself u us = rw ((bytes_eq-Decides u u).1 refl) refl

same-rest : (u : List ℕ) (us vs : List (List ℕ)) → Above u us → Above u vs
    → ((q : List ℕ) → has_text q (u ∷ us) ≡ has_text q (u ∷ vs)) → (q : List ℕ)
    → has_text q us ≡ has_text q vs
same-rest u us vs above over same q = by (bytes_eq u q) refl
  where
    by : (b : Bool) → bytes_eq u q ≡ b → has_text q us ≡ has_text q vs
    by true is =
        let equal : u ≡ q = (bytes_eq-Decides u q).0 is in
        ap (λ t. has_text t us) (sym equal) ∙ none-above u us above ∙ sym (none-above u vs over)
        ∙ ap (λ t. has_text t vs) equal
    by false is = let both : has_text q (u ∷ us) ≡ has_text q (u ∷ vs) = same q in rw is at both

first-none : (u v : List ℕ) (vs : List (List ℕ)) → by_bytes u v ≡ Less → Above v vs
    → has_text u (v ∷ vs) ≡ false
first-none u v vs is above = none-above u (v ∷ vs) (is, above-through u v vs is above)

pub same-ascend : (us vs : List (List ℕ)) → Ascend us → Ascend vs
    → ((q : List ℕ) → has_text q us ≡ has_text q vs) → us ≡ vs
unfolding IsStrictlySortedBy
same-ascend [] [] up over same = refl
same-ascend [] (v ∷ vs) up over same =
    absurd (both_ways (has_text v (v ∷ vs)) (sym (same v)) (itself v vs))
same-ascend (u ∷ us) [] up over same =
    absurd (both_ways (has_text u (u ∷ us)) (same u) (itself u us))
same-ascend (u ∷ us) (v ∷ vs) up over same = by (by_bytes u v) refl (same-ascend us vs up.1 over.1)
  where
    by : (o : Ordering) → by_bytes u v ≡ o
        → (((q : List ℕ) → has_text q us ≡ has_text q vs) → us ≡ vs) → (u ∷ us) ≡ (v ∷ vs)
    by Less is later =
        absurd
        (both_ways (has_text u (u ∷ us)) (same u ∙ first-none u v vs is over.0) (itself u us))
    by Equal is later =
        let equal : u ≡ v = exact_bytes u v is in
        ap₂ (λ t ts. t ∷ ts) equal
        (later (same-rest u us vs up.0 (subst (λ t. Above t vs) (sym equal) over.0)
        (λ q. same q ∙ ap (λ t. has_text q (t ∷ vs)) (sym equal))))
    by Greater is later =
        absurd (both_ways (has_text v (v ∷ vs))
        (sym (same v) ∙ first-none v u us (turned u v is) up.0) (itself v vs))

-- ---- the place of a text

module _ (text : List ℕ) (us : List (List ℕ)) (ascends : Ascend us) where
  -- what stands before the text stands before its place
  pub below-place : (i : ℕ) → i < length us → is_below text (get_or us i []) ≡ true
      → i < prefix_len (is_below text) us
  below-place i within is = elim (cases_lt i (prefix_len (is_below text) us)) [
    | inl before ↦ before
    | inr behind ↦ absurd (none behind)
  ]
    where
      none : prefix_len (is_below text) us ≤ i → ⊥
      none behind =
          let stops : is_below text (get_or us (prefix_len (is_below text) us) []) ≡ false =
          prefix_len_stops (is_below text) us [] (omega arith) in
          elim (cases_lt (prefix_len (is_below text) us) i) [
            | inl less ↦
                let rises : by_bytes (get_or us (prefix_len (is_below text) us) []) (get_or us i [])
                ≡ Less =
                Less-from_sorted by_bytes us
                (prefix_len (is_below text) us) i [] ascends less within in
                both_ways _ stops
                (ap is_lt (nat_list_cmp_total.trans _ _ text rises (less-from _ is)))
            | inr more ↦
                let here : prefix_len (is_below text) us ≡ i = omega arith in
                both_ways _ (ap (λ k. is_below text (get_or us k [])) (sym here) ∙ stops) is
          ]

  -- what doesn't stands from its place on
  pub from-place : (i : ℕ) → is_below text (get_or us i []) ≡ false
      → prefix_len (is_below text) us ≤ i
  from-place i isnt = elim (cases_lt i (prefix_len (is_below text) us)) [
    | inl before ↦ absurd (both_ways _ isnt (prefix_len_passes (is_below text) us i [] before))
    | inr behind ↦ behind
  ]

  pub behind-place : (i : ℕ) → i < length us → prefix_len (is_below text) us ≤ i
      → is_below text (get_or us i []) ≡ false
  behind-place i within behind =
      false_from_ne_true _ (λ is.
      let before : i < prefix_len (is_below text) us = below-place i within is in omega arith)

more-than : (n : ℕ) → 1 + n ≡ suc n
more-than n = omega arith

behind-all : (text u : List ℕ) (us : List (List ℕ)) → is_below text u ≡ false
    → bytes_eq u text ≡ false → Above u us → has_text text us ≡ false
behind-all text u us isnt other above = by (by_bytes u text) refl
  where
    by : (o : Ordering) → by_bytes u text ≡ o → has_text text us ≡ false
    by Less is = absurd (both_ways _ isnt (ap is_lt is))
    by Equal is = absurd (both_ways _ other (sym (is_eq-slice_cmp u text) ∙ ap is_eq is))
    by Greater is = none-above text us (above-through text u us (turned u text is) above)

-- a text is among them where it stands at its place
pub at-place : (text : List ℕ) (us : List (List ℕ)) → Ascend us
    → prefix_len (is_below text) us < length us
    → has_text text us ≡ bytes_eq (get_or us (prefix_len (is_below text) us) []) text
unfolding IsStrictlySortedBy
at-place text [] ascends within = absurd (omega arith)
at-place text (u ∷ us) ascends within =
    by (is_below text u) refl (at-place text us ascends.1) within
  where
    by : (b : Bool) → is_below text u ≡ b
        → (prefix_len (is_below text) us < length us
        → has_text text us ≡ bytes_eq (get_or us (prefix_len (is_below text) us) []) text)
        → cond b (1 + prefix_len (is_below text) us) 0 < length (u ∷ us)
        → (bytes_eq u text || has_text text us)
        ≡ bytes_eq (get_or (u ∷ us) (cond b (1 + prefix_len (is_below text) us) 0) []) text
    by true is later in' =
        ap (λ b. b || has_text text us) (before-differs u text (less-from _ is))
        ∙ later (omega arith)
        ∙ ap (λ k. bytes_eq (get_or (u ∷ us) k []) text)
        (sym (more-than (prefix_len (is_below text) us)))
    by false is later in' = found (bytes_eq u text) refl
      where
        found : (b : Bool) → bytes_eq u text ≡ b → (b || has_text text us) ≡ b
        found true same = refl
        found false same = behind-all text u us is same ascends.0

pub past-place : (text : List ℕ) (us : List (List ℕ)) → length us ≤ prefix_len (is_below text) us
    → has_text text us ≡ false
past-place text [] past = refl
past-place text (u ∷ us) past = by (is_below text u) refl (past-place text us) past
  where
    by : (b : Bool) → is_below text u ≡ b
        → (length us ≤ prefix_len (is_below text) us → has_text text us ≡ false)
        → length (u ∷ us) ≤ cond b (1 + prefix_len (is_below text) us) 0
        → (bytes_eq u text || has_text text us) ≡ false
    by true is later over = rw (before-differs u text (less-from _ is)) (later (omega arith))
    by false is later over = absurd (omega arith)
