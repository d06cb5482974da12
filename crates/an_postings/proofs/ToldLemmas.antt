-- What is told of counts that are the sums over rows.
use Rattle.std.proofs.Common.{◌≡◌, ℕ, ◌+◌, ◌<◌, Bool, true, false, cond, eqb, ltb, ◌&&◌, List, [], ◌∷◌, map, Option, Some, None, sym, ap, ◌∙◌, refl, arith, ⊎_elim}
use Rattle.std.specs.Prelude.{bytes_eq}
use Rattle.std.specs.List.{AllByRecursion, starts_with, sum_by}
use Rattle.std.specs.List.Sorted.{IsStrictlySortedBy}
use Rattle.std.specs.Ordering.{nat_cmp, is_eq, ordering_reverse}
use Rattle.std.specs.declared.cmp.Ordering.{Ordering}
use Rattle.std.specs.declared.cmp.Ordering.TheVariants.{Less, Equal, Greater}
use Rattle.std.specs.Cmp.Lexicographic.{slice_cmp}
use Rattle.std.proofs.lemmas.Bool.Decides.{nat_tests}
use Rattle.std.proofs.lemmas.Cmp.{nat_list_cmp_total}
use Rattle.std.proofs.lemmas.List.Sums.{sum_by-cons}
use Rattle.std.proofs.lemmas.Map.Text.{is_eq-slice_cmp}
use Rattle.std.proofs.lemmas.Slice.Eq.{bytes_eq-Decides}
use Rattle.an_base.specs.Totals.{capped, total_among}
use Rattle.an_base.specs.declared.span.TermTotal.{TermTotal}
use Rattle.an_slots.specs.Places.{Rises, has}
use Rattle.an_slots.specs.Rows.{Row, AreCounted, part_at, parts, parts_of, parts_in, parts_at}
use Rattle.an_slots.specs.Slot.{Slot, slot_of}
use Rattle.an_slots.specs.Texts.{under}
use Rattle.an_slots.proofs.ClassedLemmas.{either}
use Rattle.an_postings.specs.declared.class_postings.ClassPostings.{ClassPostings}
use Rattle.an_postings.specs.Lists.{count_at}
use Rattle.an_postings.specs.Postings.{Lists, count_in}
use Rattle.an_postings.specs.Totals.{Climbs, told_from}
use Rattle.an_postings.specs.Told.{number_of_term, number_at, number_in, Tells}
use Rattle.an_postings.proofs.SumsOverClasses.{sum-zero, sum-with, total_none}

-- ---- numbers in 64 bits

pub capped-some : (s : ℕ) → 0 < s → 0 < capped s
unfolding capped
capped-some s h = omega (arith, h)

pub capped-zero : (s : ℕ) → s ≡ 0 → 0 ≡ capped s
unfolding capped
capped-zero s h = omega (arith, h)

-- ---- the order of texts

apart : (a b : List ℕ) → slice_cmp nat_cmp a b ≡ Less → bytes_eq a b ≡ false
apart a b h = sym (is_eq-slice_cmp a b) ∙ ap is_eq h

apart_back : (a b : List ℕ) → slice_cmp nat_cmp a b ≡ Less → bytes_eq b a ≡ false
apart_back a b h =
    sym (is_eq-slice_cmp b a) ∙ ap is_eq (nat_list_cmp_total.antisymm b a ∙ ap ordering_reverse h)

same_text : (a b : List ℕ) → bytes_eq a b ≡ true → a ≡ b
same_text a b h = (bytes_eq-Decides a b).0 h

itself : (a : List ℕ) → bytes_eq a a ≡ true
itself a = (bytes_eq-Decides a a).1 refl

-- the text is before each of these
abbrev IsBefore : List ℕ → List (List ℕ) → Type 0
IsBefore a ks = AllByRecursion (λ y. slice_cmp nat_cmp a y ≡ Less) ks

before-all : (a b : List ℕ) (ks : List (List ℕ)) → slice_cmp nat_cmp a b ≡ Less → IsBefore b ks
    → IsBefore a ks
before-all a b [] h all = tt
before-all a b (k ∷ ks) h all = (nat_list_cmp_total.trans a b k h all.0, before-all a b ks h all.1)

-- ---- what is told of entries in order

abbrev keys : List (List ℕ × List ClassPostings) → List (List ℕ)
keys es = map (λ e. e.0) es

abbrev terms : List TermTotal → List (List ℕ)
terms ts = map (λ t. t.term) ts

-- what is told of one entry, by whether it is
abbrev one_told : Bool → List ℕ × List ClassPostings → List ℕ → Option TermTotal
one_told b e classes =
    cond b (Some (record { term = e.0; total = capped (sum_by (count_at e.1) classes) })) None

module _ (prefix classes : List ℕ) where
  is_told : List ℕ × List ClassPostings → Bool
  is_told e = starts_with eqb e.0 prefix && ltb 0 (sum_by (count_at e.1) classes)

  -- with the first entry's test as a variable
  told_by : Bool → List ℕ × List ClassPostings → List (List ℕ × List ClassPostings) → List TermTotal
  told_by true e es =
      (record { term = e.0; total = capped (sum_by (count_at e.1) classes) })
      ∷ told_from prefix classes es
  told_by false e es = told_from prefix classes es

  told_is : (e : List ℕ × List ClassPostings) (es : List (List ℕ × List ClassPostings))
      → told_from prefix classes (e ∷ es)
      ≡ told_by (starts_with eqb e.0 prefix && ltb 0 (sum_by (count_at e.1) classes)) e es
  unfolding told_by
  told_is e es = step (starts_with eqb e.0 prefix && ltb 0 (sum_by (count_at e.1) classes)) refl
    where
      step : (b : Bool) → (starts_with eqb e.0 prefix && ltb 0 (sum_by (count_at e.1) classes)) ≡ b
          → told_from prefix classes (e ∷ es) ≡ told_by b e es
      step true h = rw h refl
      step false h = rw h refl

  before-told : (a : List ℕ) (es : List (List ℕ × List ClassPostings)) → IsBefore a (keys es)
      → IsBefore a (terms (told_from prefix classes es))
  unfolding told_by
  before-told a [] all = tt
  before-told a (e ∷ es) all =
      rw (told_is e es) (step (starts_with eqb e.0 prefix && ltb 0 (sum_by (count_at e.1) classes))
      (before-told a es all.1))
    where
      step : (b : Bool) → IsBefore a (terms (told_from prefix classes es))
          → IsBefore a (terms (told_by b e es))
      step true h = (all.0, h)
      step false h = h

  told-ascending : (es : List (List ℕ × List ClassPostings)) → Climbs es
      → IsStrictlySortedBy (slice_cmp nat_cmp) (terms (told_from prefix classes es))
  unfolding IsStrictlySortedBy told_by
  told-ascending [] up = tt
  told-ascending (e ∷ es) up =
      rw (told_is e es) (step (starts_with eqb e.0 prefix && ltb 0 (sum_by (count_at e.1) classes))
      (told-ascending es up.1))
    where
      step : (b : Bool)
          → IsStrictlySortedBy (slice_cmp nat_cmp) (terms (told_from prefix classes es))
          → IsStrictlySortedBy (slice_cmp nat_cmp) (terms (told_by b e es))
      step true h = (before-told e.0 es up.0, h)
      step false h = h

  told-some : (es : List (List ℕ × List ClassPostings))
      → AllByRecursion (λ (t : TermTotal). 0 < t.total) (told_from prefix classes es)
  unfolding told_by
  told-some [] = tt
  told-some (e ∷ es) =
      rw (told_is e es) (step (starts_with eqb e.0 prefix)
      (ltb 0 (sum_by (count_at e.1) classes)) refl (told-some es))
    where
      positive : (s : ℕ) → ltb 0 s ≡ true → 0 < capped s
      positive s h = capped-some s (grind (arith, h, nat_tests))

      step : (a b : Bool) → ltb 0 (sum_by (count_at e.1) classes) ≡ b
          → AllByRecursion (λ (t : TermTotal). 0 < t.total) (told_from prefix classes es)
          → AllByRecursion (λ (t : TermTotal). 0 < t.total) (told_by (a && b) e es)
      step true true h more = (positive (sum_by (count_at e.1) classes) h, more)
      step true false h more = more
      step false b h more = more

none-among : (a : List ℕ) (ts : List TermTotal) → IsBefore a (terms ts) → total_among ts a ≡ 0
none-among a [] all = refl
none-among a (t ∷ ts) all = rw (apart a t.term all.0) (none-among a ts all.1)

number-none : (a : List ℕ) (ts : List TermTotal) → IsBefore a (terms ts) → number_of_term a ts ≡ 0
number-none a [] all = refl
number-none a (t ∷ ts) all =
    sum_by-cons (λ (x : TermTotal). cond (bytes_eq a x.term) x.total 0) t ts
    ∙ rw (apart a t.term all.0, number-none a ts all.1) refl

-- of terms that ascend each is there once
pub number-among : (q : List ℕ) (ts : List TermTotal)
    → IsStrictlySortedBy (slice_cmp nat_cmp) (terms ts) → number_of_term q ts ≡ total_among ts q
unfolding IsStrictlySortedBy
number-among q [] up = refl
number-among q (t ∷ ts) up =
    sum_by-cons (λ (x : TermTotal). cond (bytes_eq q x.term) x.total 0) t ts
    ∙ by (bytes_eq q t.term) refl (number-among q ts up.1)
  where
    alone : (n s : ℕ) → s ≡ 0 → n + s ≡ n
    alone n s h = omega arith

    past : (s u : ℕ) → s ≡ u → 0 + s ≡ u
    past s u h = omega arith

    by : (b : Bool) → bytes_eq q t.term ≡ b → number_of_term q ts ≡ total_among ts q
        → cond b t.total 0 + number_of_term q ts ≡ cond b t.total (total_among ts q)
    by true is h =
        alone t.total (number_of_term q ts)
        (ap (λ (x : List ℕ). number_of_term x ts) (same_text q t.term is)
        ∙ number-none t.term ts up.0)
    by false is h = past (number_of_term q ts) (total_among ts q) h

module _ (prefix classes : List ℕ) where
  told-totals : (es : List (List ℕ × List ClassPostings)) → Climbs es → (t : List ℕ)
      → total_among (told_from prefix classes es) t
      ≡ cond (starts_with eqb t prefix) (capped (sum_by (count_at (under t es)) classes)) 0
  unfolding IsStrictlySortedBy told_by
  told-totals [] up t = either_zero (starts_with eqb t prefix)
    where
      either_zero : (b : Bool) → 0 ≡ cond b (capped (sum_by (λ (k : ℕ). 0) classes)) 0
      either_zero true = total_none classes
      either_zero false = refl
  told-totals (e ∷ es) up t = rw (told_is prefix classes e es) (
      ⊎_elim
      (λ (same : bytes_eq t e.0 ≡ true).
      here (starts_with eqb e.0 prefix) (ltb 0 (sum_by (count_at e.1) classes)) refl refl same)
      (λ (other : bytes_eq t e.0 ≡ false). there
      (starts_with eqb e.0 prefix && ltb 0 (sum_by (count_at e.1) classes)) other
      (told-totals es up.1 t))
      (either (bytes_eq t e.0)))
    where
      nothing : (s : ℕ) → ltb 0 s ≡ false → 0 ≡ capped s
      nothing s h = capped-zero s (grind (arith, h, nat_tests))

      rest : bytes_eq t e.0 ≡ true → total_among (told_from prefix classes es) t ≡ 0
      rest same =
          ap (total_among (told_from prefix classes es)) (same_text t e.0 same)
          ∙ none-among e.0 (told_from prefix classes es) (before-told prefix classes e.0 es up.0)

      starts : bytes_eq t e.0 ≡ true → (a : Bool) → starts_with eqb e.0 prefix ≡ a
          → starts_with eqb t prefix ≡ a
      starts same a h = ap (λ (x : List ℕ). starts_with eqb x prefix) (same_text t e.0 same) ∙ h

      here : (a b : Bool) → starts_with eqb e.0 prefix ≡ a
          → ltb 0 (sum_by (count_at e.1) classes) ≡ b → bytes_eq t e.0 ≡ true
          → total_among (told_by prefix classes (a && b) e es) t
          ≡ cond (starts_with eqb t prefix)
          (capped (sum_by (count_at (cond (bytes_eq t e.0) e.1 (under t es))) classes)) 0
      here true true h g same = rw (starts same true h, same) refl
      here true false h g same =
          rw (starts same true h, same) (rest same ∙ nothing (sum_by (count_at e.1) classes) g)
      here false b h g same = rw (starts same false h) (rest same)

      there : (b : Bool) → bytes_eq t e.0 ≡ false
          → total_among (told_from prefix classes es) t
          ≡ cond (starts_with eqb t prefix) (capped (sum_by (count_at (under t es)) classes)) 0
          → total_among (told_by prefix classes b e es) t
          ≡ cond (starts_with eqb t prefix)
          (capped (sum_by (count_at (cond (bytes_eq t e.0) e.1 (under t es))) classes)) 0
      there true other more = rw other more
      there false other more = rw other more

-- ---- the sums over classes are those over the rows of one of them

sum-same : {A : Type 0} (f g : A → ℕ) (xs : List A) → ((x : A) → f x ≡ g x)
    → sum_by f xs ≡ sum_by g xs
sum-same f g xs e = ap (λ (h : _ → ℕ). sum_by h xs) (λ i x. (e x) i)

sum-plus : (f g : ℕ → ℕ) (ks : List ℕ) → sum_by (λ k. f k + g k) ks ≡ sum_by f ks + sum_by g ks
sum-plus f g [] = refl
sum-plus f g (k ∷ ks) =
    let a = sum_by-cons (λ k. f k + g k) k ks in
    let b = sum_by-cons f k ks in
    let d = sum_by-cons g k ks in
    let e = sum-plus f g ks in
    omega (arith, a, b, d, e)

part-row : (m m' t : List ℕ) (c c' : ℕ) (ts : List TermTotal)
    → parts_at (parts m' c' ts) (slot_of m t c)
    ≡ cond (bytes_eq m m' && eqb c c') (number_of_term t ts) 0
part-row m m' t c c' [] = none (bytes_eq m m' && eqb c c') 0
  where
    none : (b : Bool) (n : ℕ) → n ≡ cond b n n
    none true n = refl
    none false n = refl
part-row m m' t c c' (x ∷ ts) =
    sum_by-cons (part_at (slot_of m t c)) (slot_of m' x.term c', x.total) (parts m' c' ts)
    ∙ ap (λ (s : ℕ). cond (bytes_eq m m' && (bytes_eq t x.term && eqb c c')) x.total 0 + s)
    (part-row m m' t c c' ts)
    ∙ step (bytes_eq m m') (bytes_eq t x.term) (eqb c c') x.total (number_of_term t ts)
    ∙ ap (λ (s : ℕ). cond (bytes_eq m m' && eqb c c') s 0)
    (sym (sum_by-cons (λ (y : TermTotal). cond (bytes_eq t y.term) y.total 0) x ts))
  where
    step : (a b d : Bool) (n s : ℕ)
        → cond (a && (b && d)) n 0 + cond (a && d) s 0 ≡ cond (a && d) (cond b n 0 + s) 0
    step true true true n s = refl
    step true true false n s = refl
    step true false true n s = omega arith
    step true false false n s = refl
    step false b d n s = refl

over-classes : (a : Bool) (c' n : ℕ) (classes : List ℕ) → Rises 0 classes
    → sum_by (λ c. cond (a && eqb c c') n 0) classes ≡ cond (a && has c' classes) n 0
over-classes true c' n classes r =
    let e = sum-with c' n (λ k. 0) 0 classes r refl in
    let z = sum-zero classes in
    omega (arith, e, z)
over-classes false c' n classes r = sum-zero classes

-- what one row has in all of the classes
row-classes : (m t : List ℕ) (classes : List ℕ) → Rises 0 classes → (row : Option Row)
    → sum_by (λ c. parts_at (parts_in row) (slot_of m t c)) classes ≡ number_at m classes t row
row-classes m t classes r None = sum-zero classes
row-classes m t classes r (Some row) =
    sum-same (λ c. parts_at (parts_of row) (slot_of m t c))
    (λ c. cond (bytes_eq m row.manifest && eqb c row.class) (number_of_term t row.terms) 0) classes
    (λ c. part-row m row.manifest t c row.class row.terms)
    ∙ over-classes (bytes_eq m row.manifest) row.class (number_of_term t row.terms) classes r

over-rows : (m t : List ℕ) (classes : List ℕ) → Rises 0 classes → (rows : List (Option Row))
    → sum_by (λ c. sum_by (λ row. parts_at (parts_in row) (slot_of m t c)) rows) classes
    ≡ number_in m classes rows t
over-rows m t classes r [] = sum-zero classes
over-rows m t classes r (row ∷ rows) =
    sum-same
    (λ c. sum_by (λ (row : Option Row). parts_at (parts_in row) (slot_of m t c)) (row ∷ rows))
    (λ c. parts_at (parts_in row) (slot_of m t c)
    + sum_by (λ (row : Option Row). parts_at (parts_in row) (slot_of m t c)) rows) classes
    (λ c. sum_by-cons (λ (row : Option Row). parts_at (parts_in row) (slot_of m t c)) row rows)
    ∙ sum-plus (λ c. parts_at (parts_in row) (slot_of m t c))
    (λ c. sum_by (λ (row : Option Row). parts_at (parts_in row) (slot_of m t c)) rows) classes
    ∙ ap (λ (s : ℕ). s
    + sum_by
    (λ c. sum_by (λ (row : Option Row). parts_at (parts_in row) (slot_of m t c)) rows) classes)
    (row-classes m t classes r row)
    ∙ ap (λ (s : ℕ). number_at m classes t row + s) (over-rows m t classes r rows)
    ∙ sym (sum_by-cons (number_at m classes t) row rows)

pub told-Tells : (counts : Lists) (rows : List (Option Row))
    → AreCounted parts_in (count_in counts) rows → (manifest prefix : List ℕ) (classes : List ℕ)
    → Rises 0 classes → Climbs (under manifest counts)
    → Tells prefix (number_in manifest classes rows)
    (told_from prefix classes (under manifest counts))
told-Tells counts rows sums manifest prefix classes rises climbs =
    record {
      ascending = told-ascending prefix classes (under manifest counts) climbs;
      some = told-some prefix classes (under manifest counts);
      totals = λ t.
          told-totals prefix classes (under manifest counts) climbs t
          ∙ ap (λ (s : ℕ). cond (starts_with eqb t prefix) (capped s) 0) (
          ap (λ (f : Slot → ℕ). sum_by (λ c. f (slot_of manifest t c)) classes) sums
          ∙ over-rows manifest t classes rises rows);
    }

-- ---- no two lists are told

tail-totals : (x y : List ℕ) (n m : ℕ) (xs ys : List TermTotal) → x ≡ y → IsBefore x (terms xs)
    → IsBefore y (terms ys)
    → ((t : List ℕ)
    → cond (bytes_eq t x) n (total_among xs t) ≡ cond (bytes_eq t y) m (total_among ys t))
    → (t : List ℕ) → total_among xs t ≡ total_among ys t
tail-totals x y n m xs ys e bx by same t =
    ⊎_elim
    (λ (yes : bytes_eq t x ≡ true).
    let tx : t ≡ x = same_text t x yes in
    ap (total_among xs) tx ∙ none-among x xs bx
    ∙ sym (ap (total_among ys) (tx ∙ e) ∙ none-among y ys by))
    (λ (no : bytes_eq t x ≡ false).
    let no' : bytes_eq t y ≡ false = ap (bytes_eq t) (sym e) ∙ no in
    let h : total_among xs t ≡ cond (bytes_eq t y) m (total_among ys t) = rw no at (same t) in
    rw no' at h)
    (either (bytes_eq t x))

same-told : (xs ys : List TermTotal) → IsStrictlySortedBy (slice_cmp nat_cmp) (terms xs)
    → IsStrictlySortedBy (slice_cmp nat_cmp) (terms ys)
    → AllByRecursion (λ (t : TermTotal). 0 < t.total) xs
    → AllByRecursion (λ (t : TermTotal). 0 < t.total) ys
    → ((t : List ℕ) → total_among xs t ≡ total_among ys t) → xs ≡ ys
unfolding IsStrictlySortedBy
same-told [] [] sx sy px py same = refl
same-told [] (y ∷ ys) sx sy px py same =
    let h : 0 ≡ y.total = rw (itself y.term) at (same y.term) in
    absurd (omega (arith, h, py.0))
same-told (x ∷ xs) [] sx sy px py same =
    let h : x.total ≡ 0 = rw (itself x.term) at (same x.term) in
    absurd (omega (arith, h, px.0))
same-told (x ∷ xs) (y ∷ ys) sx sy px py same =
    step (slice_cmp nat_cmp x.term y.term) refl
    (λ e. same-told xs ys sx.1 sy.1 px.1 py.1
    (tail-totals x.term y.term x.total y.total xs ys e sx.0 sy.0 same))
  where
    step : (o : Ordering) → slice_cmp nat_cmp x.term y.term ≡ o → (x.term ≡ y.term → xs ≡ ys)
        → x ∷ xs ≡ y ∷ ys
    step Less h more =
        let none : total_among (y ∷ ys) x.term ≡ 0 =
        none-among x.term (y ∷ ys) (h, before-all x.term y.term (terms ys) h sy.0) in
        let some : x.total ≡ total_among (y ∷ ys) x.term = rw (itself x.term) at (same x.term) in
        absurd (omega (arith, none, some, px.0))
    step Greater h more =
        let back : slice_cmp nat_cmp y.term x.term ≡ Less =
        nat_list_cmp_total.antisymm y.term x.term ∙ ap ordering_reverse h in
        let none : total_among (x ∷ xs) y.term ≡ 0 =
        none-among y.term (x ∷ xs) (back, before-all y.term x.term (terms xs) back sx.0) in
        let some : total_among (x ∷ xs) y.term ≡ y.total =
        same y.term ∙ ap (λ (b : Bool). cond b y.total (total_among ys y.term)) (itself y.term) in
        absurd (omega (arith, none, some, py.0))
    step Equal h more =
        let yes : bytes_eq x.term y.term ≡ true =
        sym (is_eq-slice_cmp x.term y.term) ∙ ap is_eq h in
        let e : x.term ≡ y.term = same_text x.term y.term yes in
        let n : x.total ≡ y.total =
        sym (ap (λ (b : Bool). cond b x.total (total_among xs x.term)) (itself x.term))
        ∙ same x.term ∙ ap (λ (b : Bool). cond b y.total (total_among ys x.term)) yes in
        λ i. (record { term = e i; total = n i }) ∷ (more e) i

pub Tells-one : (prefix : List ℕ) (number : List ℕ → ℕ) (xs ys : List TermTotal)
    → Tells prefix number xs → Tells prefix number ys → xs ≡ ys
Tells-one prefix number xs ys a b =
    same-told xs ys a.ascending b.ascending a.some b.some (λ t. a.totals t ∙ sym (b.totals t))
