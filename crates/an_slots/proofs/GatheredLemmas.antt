-- The places of the classes that pass are those of the rows that do.
use Rattle.std.proofs.Common.{◌≡◌, ◌≢◌, ℕ, ◌+◌, Bool, true, false, cond, eqb, ◌||◌, ◌&&◌, List, [], ◌∷◌, Option, Some, None, sym, ap, ◌∙◌, refl, arith, ⊎_elim}
use Rattle.std.specs.Prelude.{bytes_eq}
use Rattle.std.specs.List.{AllByRecursion, filter, flat_map, list_any}
use Rattle.std.specs.Prelude.{map}
use Rattle.std.proofs.lemmas.Bool.{cases_eq}
use Rattle.an_base.specs.declared.span.TermTotal.{TermTotal}
use Rattle.an_slots.specs.Places.{Rises, ascending, has, places_from}
use Rattle.an_slots.specs.Rows.{Row, AreListed, is_in, is_posted, parts, parts_in}
use Rattle.an_slots.specs.Slot.{Slot, slot_of}
use Rattle.an_slots.proofs.MergedLemmas.{merged}
use Rattle.an_slots.proofs.ShownLemmas.{AreListed-map, places_from-map}
use Rattle.an_slots.proofs.PlacesLemmas.{Rises-weaken}

posted-row : (m m' t : List ℕ) (c c' : ℕ) (ts : List TermTotal)
    → is_posted (slot_of m t c) (parts m' c' ts)
    ≡ ((bytes_eq m m' && eqb c c') && list_any (λ x. bytes_eq t x.term) ts)
posted-row m m' t c c' [] = none (bytes_eq m m' && eqb c c')
  where
    none : (b : Bool) → false ≡ (b && false)
    none true = refl
    none false = refl
posted-row m m' t c c' (x ∷ ts) =
    ap (λ (b : Bool). (bytes_eq m m' && (bytes_eq t x.term && eqb c c')) || b)
    (posted-row m m' t c c' ts)
    ∙ step (bytes_eq m m') (bytes_eq t x.term) (eqb c c')
    (list_any (λ (x : TermTotal). bytes_eq t x.term) ts)
  where
    step : (a b d r : Bool) → ((a && (b && d)) || ((a && d) && r)) ≡ ((a && d) && (b || r))
    step true true true r = refl
    step true true false r = refl
    step true false true r = refl
    step true false false r = refl
    step false b d r = refl

eqb_back : (x y : ℕ) → eqb x y ≡ eqb y x
eqb_back x y =
    ⊎_elim
    (λ (e : x ≡ y). ap (λ (z : ℕ). eqb z y) e ∙ ap (λ (z : ℕ). eqb y z) (sym e))
    (λ (ne : x ≢ y).
    let a : eqb x y ≡ false = grind arith in let b : eqb y x ≡ false = grind arith in a ∙ sym b)
    (cases_eq x y)

any-class : (a r : Bool) (c' : ℕ) (kept : List ℕ)
    → list_any (λ c. (a && eqb c c') && r) kept ≡ ((a && has c' kept) && r)
any-class true r c' [] = refl
any-class false r c' [] = refl
any-class a r c' (c ∷ kept) =
    ap (λ (b : Bool). ((a && b) && r) || list_any (λ c. (a && eqb c c') && r) kept) (eqb_back c c')
    ∙ ap (λ (b : Bool). ((a && eqb c' c) && r) || b) (any-class a r c' kept)
    ∙ step a (eqb c' c) (has c' kept) r
  where
    step : (a b h r : Bool) → (((a && b) && r) || ((a && h) && r)) ≡ ((a && (b || h)) && r)
    step true true true true = refl
    step true true true false = refl
    step true true false true = refl
    step true true false false = refl
    step true false h r = refl
    step false b h r = refl

any_same : (p q : ℕ → Bool) (cs : List ℕ) → ((c : ℕ) → p c ≡ q c) → list_any p cs ≡ list_any q cs
any_same p q cs e = ap (λ (f : ℕ → Bool). list_any f cs) (λ i c. (e c) i)

-- whether one row is in a class that is kept
row-kept : (m t : List ℕ) (kept : List ℕ) (row : Option Row)
    → list_any (λ c. is_posted (slot_of m t c) (parts_in row)) kept
    ≡ is_in m t (λ c. has c kept) row
row-kept m t kept None = nowhere kept
  where
    nowhere : (cs : List ℕ) → list_any (λ c. false) cs ≡ false
    nowhere [] = refl
    nowhere (c ∷ cs) = nowhere cs
row-kept m t kept (Some row) =
    any_same (λ c. is_posted (slot_of m t c) (parts row.manifest row.class row.terms))
    (λ c.
    (bytes_eq m row.manifest && eqb c row.class) && list_any (λ x. bytes_eq t x.term) row.terms)
    kept (λ c. posted-row m row.manifest t c row.class row.terms)
    ∙ any-class (bytes_eq m row.manifest)
    (list_any (λ x. bytes_eq t x.term) row.terms) row.class kept

module _ (m t : List ℕ) (passes : ℕ → Bool) (kept : List ℕ)
    (some : (c : ℕ) → has c kept ≡ true → passes c ≡ true) where
  -- one row is in a class that is kept, where it passes
  one_row : (row : Option Row)
      → ((c : ℕ) → passes c ≡ true → has c kept ≡ false
      → is_posted (slot_of m t c) (parts_in row) ≡ false)
      → list_any (λ c. is_posted (slot_of m t c) (parts_in row)) kept ≡ is_in m t passes row
  one_row None none = row-kept m t kept None
  one_row (Some row) none =
      row-kept m t kept (Some row)
      ∙ by (has row.class kept) (passes row.class) refl refl
    where
      itself : eqb row.class row.class ≡ true
      itself = grind arith

      by : (h p : Bool) → has row.class kept ≡ h → passes row.class ≡ p
          → ((bytes_eq m row.manifest && h) && list_any (λ x. bytes_eq t x.term) row.terms)
          ≡ ((bytes_eq m row.manifest && p) && list_any (λ x. bytes_eq t x.term) row.terms)
      by true true is pass = refl
      by true false is pass = let e : true ≡ false = sym (some row.class is) ∙ pass in cc
      by false false is pass = refl
      by false true is pass =
          let e =
          sym (none row.class pass is) ∙ posted-row m row.manifest t row.class row.class row.terms
          ∙ ap (λ (b : Bool). (bytes_eq m row.manifest && b)
          && list_any (λ (x : TermTotal). bytes_eq t x.term) row.terms) itself in
          shut (bytes_eq m row.manifest) (list_any (λ (x : TermTotal). bytes_eq t x.term) row.terms)
          ∙ e
        where
          shut : (a r : Bool) → ((a && false) && r) ≡ false
          shut true r = refl
          shut false r = refl

  each_row : (place : ℕ) (rows : List (Option Row))
      → ((c : ℕ) → passes c ≡ true → has c kept ≡ false
      → places_from (λ row. is_posted (slot_of m t c) (parts_in row)) place rows ≡ [])
      → AllByRecursion
      (λ row. list_any (λ c. is_posted (slot_of m t c) (parts_in row)) kept ≡ is_in m t passes row)
      rows
  each_row place [] none = tt
  each_row place (row ∷ rows) none = (
    one_row row (λ c pass out. (first (is_posted (slot_of m t c) (parts_in row)) place
        (places_from (λ (row : Option Row). is_posted (slot_of m t c) (parts_in row))
        (place + 1) rows)
        (none c pass out)).0),
    each_row (place + 1) rows
        (λ c pass out. (first (is_posted (slot_of m t c) (parts_in row)) place
        (places_from (λ (row : Option Row). is_posted (slot_of m t c) (parts_in row))
        (place + 1) rows)
        (none c pass out)).1),
  )
    where
      first : (b : Bool) (p : ℕ) (xs : List ℕ) → cond b (p ∷ xs) xs ≡ [] → (b ≡ false) × (xs ≡ [])
      first true p xs h = cc
      first false p xs h = (refl, h)

places-same : {A : Type 0} (p q : A → Bool) (place : ℕ) (rows : List A)
    → AllByRecursion (λ row. p row ≡ q row) rows
    → places_from p place rows ≡ places_from q place rows
places-same p q place [] all = refl
places-same p q place (row ∷ rows) all =
    ap
    (λ (b : Bool). cond b (place ∷ places_from p (place + 1) rows) (places_from p (place + 1) rows))
    all.0
    ∙ ap (λ (xs : List ℕ). cond (q row) (place ∷ xs) xs) (places-same p q (place + 1) rows all.1)

pub gathered : (lists : Slot → List ℕ) (rows : List (Option Row)) → AreListed parts_in lists rows
    → (m t : List ℕ) (passes : ℕ → Bool) (kept : List ℕ)
    → ((c : ℕ) → has c kept ≡ true → passes c ≡ true)
    → ((c : ℕ) → passes c ≡ true → has c kept ≡ false → lists (slot_of m t c) ≡ [])
    → ascending (flat_map (λ c. lists (slot_of m t c)) kept) ≡ places_from (is_in m t passes) 0 rows
gathered lists rows listed m t passes kept some none =
    ap (λ (f : Slot → List ℕ). ascending (flat_map (λ c. f (slot_of m t c)) kept)) listed
    ∙ merged (λ c row. is_posted (slot_of m t c) (parts_in row)) rows kept
    ∙ places-same (λ row. list_any (λ c. is_posted (slot_of m t c) (parts_in row)) kept)
    (is_in m t passes) 0 rows
    (each_row m t passes kept some 0 rows
    (λ c pass out. ap (λ (f : Slot → List ℕ). f (slot_of m t c)) (sym listed) ∙ none c pass out))

-- a row of the term is in a class that is kept, where it passes
pub kept-passes : (lists : Slot → List ℕ) (rows : List (Option Row)) → AreListed parts_in lists rows
    → (m t : List ℕ) (passes : ℕ → Bool) (kept : List ℕ)
    → ((c : ℕ) → has c kept ≡ true → passes c ≡ true)
    → ((c : ℕ) → passes c ≡ true → has c kept ≡ false → lists (slot_of m t c) ≡ [])
    → AllByRecursion (λ row. is_in m t (λ c. has c kept) row ≡ is_in m t passes row) rows
kept-passes lists rows listed m t passes kept some none =
    each rows (each_row m t passes kept some 0 rows
    (λ c pass out. ap (λ (f : Slot → List ℕ). f (slot_of m t c)) (sym listed) ∙ none c pass out))
  where
    each : (rs : List (Option Row))
        → AllByRecursion (λ row.
        list_any (λ c. is_posted (slot_of m t c) (parts_in row)) kept ≡ is_in m t passes row) rs
        → AllByRecursion (λ row. is_in m t (λ c. has c kept) row ≡ is_in m t passes row) rs
    each [] all = tt
    each (row ∷ rs) all = (sym (row-kept m t kept row) ∙ all.0, each rs all.1)

-- ---- rows of another type, each of which is shown as one of these

module _ {A : Type 0} (shown : A → Option Row) where
  pub gathered-shown : (lists : Slot → List ℕ) (rows : List A)
      → AreListed (λ row. parts_in (shown row)) lists rows
      → (m t : List ℕ) (passes : ℕ → Bool) (kept : List ℕ)
      → ((c : ℕ) → has c kept ≡ true → passes c ≡ true)
      → ((c : ℕ) → passes c ≡ true → has c kept ≡ false → lists (slot_of m t c) ≡ [])
      → ascending (flat_map (λ c. lists (slot_of m t c)) kept)
      ≡ places_from (λ row. is_in m t passes (shown row)) 0 rows
  gathered-shown lists rows listed m t passes kept some none =
      gathered lists (map shown rows) (AreListed-map shown parts_in lists rows listed) m t passes
      kept some none
      ∙ places_from-map shown (is_in m t passes) 0 rows

  pub kept-shown : (lists : Slot → List ℕ) (rows : List A)
      → AreListed (λ row. parts_in (shown row)) lists rows
      → (m t : List ℕ) (passes : ℕ → Bool) (kept : List ℕ)
      → ((c : ℕ) → has c kept ≡ true → passes c ≡ true)
      → ((c : ℕ) → passes c ≡ true → has c kept ≡ false → lists (slot_of m t c) ≡ [])
      → AllByRecursion
      (λ row. is_in m t (λ c. has c kept) (shown row) ≡ is_in m t passes (shown row)) rows
  kept-shown lists rows listed m t passes kept some none =
      each rows (kept-passes lists (map shown rows)
      (AreListed-map shown parts_in lists rows listed) m t passes kept some none)
    where
      each : (rs : List A)
          → AllByRecursion (λ row. is_in m t (λ c. has c kept) row ≡ is_in m t passes row)
          (map shown rs)
          → AllByRecursion
          (λ row. is_in m t (λ c. has c kept) (shown row) ≡ is_in m t passes (shown row)) rs
      each [] all = tt
      each (row ∷ rs) all = (all.0, each rs all.1)

-- ---- classes that are kept

pub has-kept : (p : ℕ → Bool) (x : ℕ) (cs : List ℕ) → has x (filter p cs) ≡ (has x cs && p x)
has-kept p x [] = refl
has-kept p x (c ∷ cs) = by (eqb x c) refl (p c) refl (has-kept p x cs)
  where
    by : (e : Bool) → eqb x c ≡ e → (b : Bool) → p c ≡ b → has x (filter p cs) ≡ (has x cs && p x)
        → has x (cond b (c ∷ filter p cs) (filter p cs)) ≡ ((e || has x cs) && p x)
    by true is true pass h =
        let s : x ≡ c = grind (arith, is) in
        let px : p x ≡ true = ap p s ∙ pass in
        rw (is, px) refl
    by true is false pass h =
        let s : x ≡ c = grind (arith, is) in
        let px : p x ≡ false = ap p s ∙ pass in
        h ∙ rw px (shut (has x cs))
      where
        shut : (a : Bool) → (a && false) ≡ false
        shut true = refl
        shut false = refl
    by false is true pass h = rw is h
    by false is false pass h = h

pub Rises-kept : (p : ℕ → Bool) (from : ℕ) (cs : List ℕ) → Rises from cs → Rises from (filter p cs)
Rises-kept p from [] r = tt
Rises-kept p from (c ∷ cs) r = by (p c) (Rises-kept p (c + 1) cs r.1)
  where
    by : (b : Bool) → Rises (c + 1) (filter p cs)
        → Rises from (cond b (c ∷ filter p cs) (filter p cs))
    by true h = (r.0, h)
    by false h = Rises-weaken (c + 1) from (filter p cs) (omega (arith, r.0)) h
