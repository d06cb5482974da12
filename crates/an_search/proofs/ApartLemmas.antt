-- An annotation is on one manifest at most: sums over manifests are those over annotations.
use Rattle.std.proofs.Common.{◌≡◌, ℕ, ◌+◌, List, [], ◌∷◌, Bool, true, false, cond, ◌&&◌, ◌||◌, bytes_eq, filter, length, Some, None, refl, sym, ap, ap₂, ◌∙◌, arith, zero-add}
use Rattle.std.specs.Prelude.{not}
use Rattle.std.specs.List.{list_any, sum_by}
use Rattle.std.proofs.lemmas.Bool.{both_ways}
use Rattle.std.proofs.lemmas.List.Sums.{sum_by-cons}
use Rattle.std.proofs.lemmas.Slice.Eq.{bytes_eq-Decides}
use Rattle.an_base.specs.TextSet.{has_text}
use Rattle.an_base.proofs.AscendLemmas.{bytes_eq-turned}
use Rattle.an_state.specs.State.{NoteState}
use Rattle.an_state.specs.View.{is_on}
use Rattle.an_list.proofs.ListedLemmas.{filter_same}
use Rattle.an_list.proofs.ReadableLemmas.{filter_both}
use Rattle.an_search.specs.Gathered.{each_once, is_on_one}

-- ---- classes apart

-- a row is of at most one of the classes
abbrev pub IsApart : {A C : Type 0} → (C → A → Bool) → List C → A → Type 0
IsApart test cs row =
    sum_by (λ c. cond (test c row) 1 0) cs ≡ cond (list_any (λ c. test c row) cs) 1 0

pub sum-none : {C : Type 0} (cs : List C) → sum_by (λ c. 0) cs ≡ 0
sum-none [] = refl
sum-none {C = C} (c ∷ cs) =
    sum_by-cons (λ (c : C). 0) c cs ∙ zero-add (sum_by (λ (c : C). 0) cs) ∙ sum-none cs

sum-both : {C : Type 0} (f g : C → ℕ) (cs : List C)
    → sum_by (λ c. f c + g c) cs ≡ sum_by f cs + sum_by g cs
sum-both f g [] = refl
sum-both f g (c ∷ cs) =
    let a = sum_by-cons (λ c. f c + g c) c cs in
    let b = sum_by-cons f c cs in
    let d = sum_by-cons g c cs in
    let e = sum-both f g cs in
    omega (arith, a, b, d, e)

pub sum-same : {C : Type 0} (f g : C → ℕ) → ((c : C) → f c ≡ g c) → (cs : List C)
    → sum_by f cs ≡ sum_by g cs
sum-same f g same [] = refl
sum-same f g same (c ∷ cs) =
    sum_by-cons f c cs ∙ ap₂ (λ n m. n + m) (same c) (sum-same f g same cs)
    ∙ sym (sum_by-cons g c cs)

-- one class at most counts the row
sum-one : {C : Type 0} (test : C → Bool) (n : ℕ) (cs : List C)
    → sum_by (λ c. cond (test c) 1 0) cs ≡ cond (list_any test cs) 1 0
    → sum_by (λ c. cond (test c) n 0) cs ≡ cond (list_any test cs) n 0
sum-one test n [] apart = refl
sum-one {C = C} test n (c ∷ cs) apart = by (test c) refl (list_any test cs) refl (sum-one test n cs)
  where
    count : sum_by (λ c. cond (test c) 1 0) (c ∷ cs)
        ≡ cond (test c) 1 0 + sum_by (λ c. cond (test c) 1 0) cs
    count = sum_by-cons (λ c. cond (test c) 1 0) c cs

    all : sum_by (λ c. cond (test c) n 0) (c ∷ cs)
        ≡ cond (test c) n 0 + sum_by (λ c. cond (test c) n 0) cs
    all = sum_by-cons (λ c. cond (test c) n 0) c cs

    by : (b : Bool) → test c ≡ b → (r : Bool) → list_any test cs ≡ r
        → (sum_by (λ c. cond (test c) 1 0) cs ≡ cond (list_any test cs) 1 0
        → sum_by (λ c. cond (test c) n 0) cs ≡ cond (list_any test cs) n 0)
        → sum_by (λ c. cond (test c) n 0) (c ∷ cs) ≡ cond (test c || list_any test cs) n 0
    by false is r rest later =
        let own : sum_by (λ c. cond (test c) 1 0) cs ≡ cond (list_any test cs) 1 0 =
        sym (count ∙ ap (λ b. cond b 1 0 + sum_by (λ c. cond (test c) 1 0) cs) is ∙ zero-add _)
        ∙ apart ∙ ap (λ b. cond (b || list_any test cs) 1 0) is in
        all ∙ ap (λ b. cond b n 0 + sum_by (λ c. cond (test c) n 0) cs) is ∙ zero-add _ ∙ later own
        ∙ ap (λ b. cond (b || list_any test cs) n 0) (sym is)
    by true is r rest later =
        let whole : 1 + sum_by (λ c. cond (test c) 1 0) cs ≡ 1 =
        sym (count ∙ ap (λ b. cond b 1 0 + sum_by (λ c. cond (test c) 1 0) cs) is) ∙ apart
        ∙ ap (λ b. cond (b || list_any test cs) 1 0) is in
        let none : sum_by (λ c. cond (test c) 1 0) cs ≡ 0 = omega (arith, whole) in
        all ∙ ap (λ b. cond b n 0 + sum_by (λ c. cond (test c) n 0) cs) is
        ∙ ap (λ m. n + m) (nowhere cs none) ∙ nothing n
        ∙ ap (λ b. cond (b || list_any test cs) n 0) (sym is)
      where
        nothing : (n : ℕ) → n + 0 ≡ n
        nothing n = omega arith

        nowhere : (cs : List C) → sum_by (λ c. cond (test c) 1 0) cs ≡ 0
            → sum_by (λ c. cond (test c) n 0) cs ≡ 0
        nowhere [] none = refl
        nowhere (d ∷ ds) none = here (test d) refl (nowhere ds)
          where
            here : (b : Bool) → test d ≡ b
                → (sum_by (λ c. cond (test c) 1 0) ds ≡ 0 → sum_by (λ c. cond (test c) n 0) ds ≡ 0)
                → sum_by (λ c. cond (test c) n 0) (d ∷ ds) ≡ 0
            here true e later =
                let m =
                sum_by-cons (λ c. cond (test c) 1 0) d ds
                ∙ ap (λ b. cond b 1 0 + sum_by (λ c. cond (test c) 1 0) ds) e in
                absurd (omega (arith, m, none))
            here false e later =
                let m =
                sum_by-cons (λ c. cond (test c) 1 0) d ds
                ∙ ap (λ b. cond b 1 0 + sum_by (λ c. cond (test c) 1 0) ds) e in
                let rest : sum_by (λ c. cond (test c) 1 0) ds ≡ 0 = omega (arith, m, none) in
                sum_by-cons (λ c. cond (test c) n 0) d ds
                ∙ ap (λ b. cond b n 0 + sum_by (λ c. cond (test c) n 0) ds) e ∙ zero-add _
                ∙ later rest

sum-filter : {A : Type 0} (p : A → Bool) (g : A → ℕ) (row : A) (rows : List A)
    → sum_by g (filter p (row ∷ rows)) ≡ cond (p row) (g row) 0 + sum_by g (filter p rows)
sum-filter p g row rows =
    elim (p row) as (λ b. sum_by g (cond b (row ∷ filter p rows) (filter p rows))
    ≡ cond b (g row) 0 + sum_by g (filter p rows)) [
      | true ↦ sum_by-cons g row (filter p rows)
      | false ↦ sym (zero-add (sum_by g (filter p rows)))
    ]

-- the sums of the classes together are the sum of the rows of any of them
pub sum-gathered : {A C : Type 0} (test : C → A → Bool) (g : A → ℕ) (cs : List C)
    → ((row : A) → IsApart test cs row) → (rows : List A)
    → sum_by (λ c. sum_by g (filter (test c) rows)) cs
    ≡ sum_by g (filter (λ row. list_any (λ c. test c row) cs) rows)
sum-gathered test g cs apart [] = sum-none cs
sum-gathered test g cs apart (row ∷ rows) =
    sum-same (λ c. sum_by g (filter (test c) (row ∷ rows)))
    (λ c. cond (test c row) (g row) 0 + sum_by g (filter (test c) rows))
    (λ c. sum-filter (test c) g row rows) cs
    ∙ sum-both (λ c. cond (test c row) (g row) 0) (λ c. sum_by g (filter (test c) rows)) cs
    ∙ ap₂ (λ n m. n + m) (sum-one (λ c. test c row) (g row) cs (apart row))
    (sum-gathered test g cs apart rows)
    ∙ sym (sum-filter (λ row. list_any (λ c. test c row) cs) g row rows)

-- ---- names

any-none : (x : List ℕ) (b : Bool) (ms : List (List ℕ)) → has_text x ms ≡ false
    → list_any (λ m. bytes_eq x m && b) ms ≡ false
any-none x b [] none = refl
any-none x b (m ∷ ms) none = by (bytes_eq m x) refl (any-none x b ms)
  where
    by : (e : Bool) → bytes_eq m x ≡ e
        → (has_text x ms ≡ false → list_any (λ m. bytes_eq x m && b) ms ≡ false)
        → ((bytes_eq x m && b) || list_any (λ m. bytes_eq x m && b) ms) ≡ false
    by true is later =
        absurd (both_ways (has_text x (m ∷ ms)) none (ap (λ t. t || has_text x ms) is))
    by false is later =
        ap (λ t. (t && b) || list_any (λ m. bytes_eq x m && b) ms) (bytes_eq-turned x m ∙ is)
        ∙ later (sym (ap (λ t. t || has_text x ms) is) ∙ none)

sum-any-none : (x : List ℕ) (b : Bool) (ms : List (List ℕ)) → has_text x ms ≡ false
    → sum_by (λ m. cond (bytes_eq x m && b) 1 0) ms ≡ 0
sum-any-none x b [] none = refl
sum-any-none x b (m ∷ ms) none = by (bytes_eq m x) refl (sum-any-none x b ms)
  where
    by : (e : Bool) → bytes_eq m x ≡ e
        → (has_text x ms ≡ false → sum_by (λ m. cond (bytes_eq x m && b) 1 0) ms ≡ 0)
        → sum_by (λ m. cond (bytes_eq x m && b) 1 0) (m ∷ ms) ≡ 0
    by true is later =
        absurd (both_ways (has_text x (m ∷ ms)) none (ap (λ t. t || has_text x ms) is))
    by false is later =
        sum_by-cons (λ m. cond (bytes_eq x m && b) 1 0) m ms
        ∙ ap (λ t. cond (t && b) 1 0 + sum_by (λ m. cond (bytes_eq x m && b) 1 0) ms)
        (bytes_eq-turned x m ∙ is)
        ∙ zero-add (sum_by (λ m. cond (bytes_eq x m && b) 1 0) ms)
        ∙ later (sym (ap (λ t. t || has_text x ms) is) ∙ none)

-- what has one name is of at most one of names that each stand once
pub names-apart : (x : List ℕ) (b : Bool) (ms : List (List ℕ)) → each_once ms ≡ true
    → sum_by (λ m. cond (bytes_eq x m && b) 1 0) ms
    ≡ cond (list_any (λ m. bytes_eq x m && b) ms) 1 0
names-apart x b [] once = refl
names-apart x b (m ∷ ms) once = by (has_text m ms) refl (bytes_eq x m) refl (names-apart x b ms)
  where
    count : sum_by (λ m. cond (bytes_eq x m && b) 1 0) (m ∷ ms)
        ≡ cond (bytes_eq x m && b) 1 0 + sum_by (λ m. cond (bytes_eq x m && b) 1 0) ms
    count = sum_by-cons (λ m. cond (bytes_eq x m && b) 1 0) m ms

    by : (h : Bool) → has_text m ms ≡ h → (e : Bool) → bytes_eq x m ≡ e
        → (each_once ms ≡ true
        → sum_by (λ m. cond (bytes_eq x m && b) 1 0) ms
        ≡ cond (list_any (λ m. bytes_eq x m && b) ms) 1 0)
        → sum_by (λ m. cond (bytes_eq x m && b) 1 0) (m ∷ ms)
        ≡ cond ((bytes_eq x m && b) || list_any (λ m. bytes_eq x m && b) ms) 1 0
    by true there e is later =
        absurd (both_ways false refl (sym (ap (λ t. not t && each_once ms) there) ∙ once))
    by false nowhere false is later =
        count ∙ ap (λ t. cond (t && b) 1 0 + sum_by (λ m. cond (bytes_eq x m && b) 1 0) ms) is
        ∙ zero-add (sum_by (λ m. cond (bytes_eq x m && b) 1 0) ms)
        ∙ later (sym (ap (λ t. not t && each_once ms) nowhere) ∙ once)
        ∙ ap (λ t. cond ((t && b) || list_any (λ m. bytes_eq x m && b) ms) 1 0) (sym is)
    by false nowhere true is later =
        let same : x ≡ m = (bytes_eq-Decides x m).0 is in
        let none : has_text x ms ≡ false = ap (λ t. has_text t ms) same ∙ nowhere in
        count ∙ ap (λ n. cond (bytes_eq x m && b) 1 0 + n) (sum-any-none x b ms none)
        ∙ nothing (cond (bytes_eq x m && b) 1 0)
        ∙ ap (λ t. cond t 1 0) (alone (bytes_eq x m && b))
        ∙ ap (λ t. cond ((bytes_eq x m && b) || t) 1 0) (sym (any-none x b ms none))
      where
        nothing : (n : ℕ) → n + 0 ≡ n
        nothing n = omega arith

        alone : (t : Bool) → t ≡ (t || false)
        alone true = refl
        alone false = refl

-- ---- an annotation is on one manifest

and-true : (b : Bool) → (b && true) ≡ b
and-true true = refl
and-true false = refl

pub and-turned : (a b : Bool) → (a && b) ≡ (b && a)
and-turned true true = refl
and-turned true false = refl
and-turned false true = refl
and-turned false false = refl

pub none-any : {C : Type 0} (cs : List C) → list_any (λ c. false) cs ≡ false
none-any [] = refl
none-any (c ∷ cs) = none-any cs

pub any-same : {C : Type 0} (p q : C → Bool) → ((c : C) → p c ≡ q c) → (cs : List C)
    → list_any p cs ≡ list_any q cs
any-same p q same [] = refl
any-same p q same (c ∷ cs) = rw (same c, any-same p q same cs) refl

pub on-apart : (ms : List (List ℕ)) → each_once ms ≡ true → (row : NoteState) → IsApart is_on ms row
on-apart ms once row = elim row.live as (λ live. IsApart is_on ms (record row { live = live })) [
  | None ↦ sum-none ms ∙ ap (λ b. cond b 1 0) (sym (none-any ms))
  | Some live ↦
      sum-same (λ m. cond (bytes_eq live.manifest m) 1 0)
      (λ m. cond (bytes_eq live.manifest m && true) 1 0)
      (λ m. ap (λ b. cond b 1 0) (sym (and-true (bytes_eq live.manifest m)))) ms
      ∙ names-apart live.manifest true ms once
      ∙ ap (λ b. cond b 1 0) (any-same (λ m. bytes_eq live.manifest m && true)
      (λ m. bytes_eq live.manifest m) (λ m. and-true (bytes_eq live.manifest m)) ms)
]

pub swapped : {A : Type 0} (p q : A → Bool) (rows : List A)
    → filter p (filter q rows) ≡ filter q (filter p rows)
swapped p q rows =
    filter_both p q rows
    ∙ filter_same (λ row. p row && q row) (λ row. q row && p row)
    (λ row. and-turned (p row) (q row)) rows
    ∙ sym (filter_both q p rows)

length-sum : {A : Type 0} (rows : List A) → length rows ≡ sum_by (λ row. 1) rows
length-sum [] = refl
length-sum {A = A} (row ∷ rows) =
    let step = sum_by-cons (λ (row : A). 1) row rows in
    omega (arith, length-sum rows, step)

-- those on each manifest are together as many as those on one of them
pub on-counted : (ms : List (List ℕ)) → each_once ms ≡ true → (rows : List NoteState)
    → sum_by (λ m. length (filter (is_on m) rows)) ms ≡ length (filter (is_on_one ms) rows)
on-counted ms once rows =
    sum-same (λ m. length (filter (is_on m) rows)) (λ m. sum_by (λ row. 1) (filter (is_on m) rows))
    (λ m. length-sum (filter (is_on m) rows)) ms
    ∙ sum-gathered is_on (λ row. 1) ms (on-apart ms once) rows
    ∙ sym (length-sum (filter (is_on_one ms) rows))
