-- The first place of a mark, and the walk along the entries of its hash.
use Rattle.std.proofs.Common.{◌≡◌, ◌≢◌, ℕ, ◌+◌, ◌-◌, ◌<◌, ◌≤◌, zero, suc, Bool, true, false, nat_lt, List, [], ◌∷◌, ◌++◌, length, take, drop, map, get_or, Option, Some, None, option_map, slice_get, ◌⊎◌, sym, ap, ◌∙◌, ⊎_elim, inl, inr, refl, arith, length-append}
use Rattle.std.specs.Prelude.{nat_le, ◌&&◌, min, option_and_then, unwrap_or, IfSome}
use Rattle.std.specs.List.{position_or_len, position}
use Rattle.std.proofs.lemmas.Bool.{and_parts, and_from, cases_eq, cases_lt, cond_both, ltb-false, false_from_ne_true, leb-true, le-leb}
use Rattle.std.proofs.lemmas.List.{length-map, map-append, map-set}
use Rattle.std.proofs.lemmas.List.Folds.{find_at}
use Rattle.std.proofs.lemmas.List.Quantifiers.{position-Some}
use Rattle.std.proofs.lemmas.List.Sums.{position_or_len_is}
use Rattle.std.proofs.Math.ListN.{set}
use Rattle.std.proofs.lemmas.Slice.Eq.{bytes_eq-Decides}
use Rattle.an_keyed.proofs.HashesLemmas.{slice_get-push-within, slice_get-push-last}
use Rattle.std.proofs.lemmas.Option.{none-some, same_Some, slice_get-get_or, slice_get_within, slice_get-map, slice_get_past, get_or_from_slice_get}
use Rattle.an_base.specs.Outcome.{passes}
use Rattle.an_keyed.specs.Hashes.{IsLast}
use Rattle.an_keyed.specs.MarkIndex.{Entries, mark_hash, IsEntered, IsKept, IsMarkIndex, with_place}
use Rattle.an_keyed.specs.Key.{Key, same_key}
use Rattle.an_keyed.specs.Marks.{is_mark, marked_place, marked_row}
use Rattle.an_keyed.specs.Rows.{place_of, put_at, put_row}
use Rattle.an_keyed.proofs.WalkLemmas.{IsWalk, walk_starts, walk_goes, walk_weakened}

-- ---- the first of the places that count

-- found is the first place that counts, if any does
pub record IsFirst (counts : ℕ → Bool) (found : Option ℕ) : Type 0 where
  pub that_counts : (p : ℕ) → found ≡ Some p → counts p ≡ true
  pub first : (q : ℕ) → counts q ≡ true → (p : ℕ) × (found ≡ Some p) × (p ≤ q)

-- what was found is at or before the place, if that counts
abbrev pub IsSettled : (ℕ → Bool) → Option ℕ → ℕ → Type 0
IsSettled counts found q = counts q ≡ true → (p : ℕ) × (found ≡ Some p) × (p ≤ q)

with_place-from : (b : Bool) (place : ℕ) (found : Option ℕ) (p : ℕ)
    → with_place b place found ≡ Some p → (found ≡ Some p) ⊎ ((b ≡ true) × (place ≡ p))
with_place-from false place found p e = inl e
with_place-from true place None p e = inr (refl, same_Some place p e)
with_place-from true place (Some f) p e =
    let is : min f place ≡ p = same_Some (min f place) p e in
    ⊎_elim
    (λ (below : f < place). let same : f ≡ p = omega arith in inl (ap (λ (x : ℕ). Some x) same))
    (λ (above : place ≤ f). inr (refl, omega arith)) (cases_lt f place)

with_place-at : (b : Bool) (place : ℕ) (found : Option ℕ) → b ≡ true
    → (x : ℕ) × (with_place b place found ≡ Some x) × (x ≤ place)
with_place-at false place found c = cc
with_place-at true place None c = (place, refl, omega arith)
with_place-at true place (Some f) c = (min f place, refl, omega arith)

with_place-earlier : (b : Bool) (place : ℕ) (found : Option ℕ) (p q : ℕ) → found ≡ Some p → p ≤ q
    → (x : ℕ) × (with_place b place found ≡ Some x) × (x ≤ q)
with_place-earlier false place found p q e below = (p, e, below)
with_place-earlier true place None p q e below = cc
with_place-earlier true place (Some f) p q e below =
    let same : f ≡ p = same_Some f p e in (min f place, refl, omega arith)

module _ (counts : ℕ → Bool) where
  -- what is found with one place more counts
  pub with_place-counts : (place : ℕ) (found : Option ℕ)
      → ((p : ℕ) → found ≡ Some p → counts p ≡ true) → (p : ℕ)
      → with_place (counts place) place found ≡ Some p → counts p ≡ true
  with_place-counts place found was p e =
      ⊎_elim (λ (h : found ≡ Some p). was p h)
      (λ (h : (counts place ≡ true) × (place ≡ p)). rw (← h.1) h.0)
      (with_place-from (counts place) place found p e)

  -- the place is settled then
  pub with_place-here : (place : ℕ) (found : Option ℕ)
      → IsSettled counts (with_place (counts place) place found) place
  with_place-here place found c = with_place-at (counts place) place found c

  -- and what was settled stays so
  pub with_place-kept : (place : ℕ) (found : Option ℕ) (q : ℕ) → IsSettled counts found q
      → IsSettled counts (with_place (counts place) place found) q
  with_place-kept place found q settled c =
      let was = settled c in with_place-earlier (counts place) place found was.0 q was.1 was.2

-- ---- the walk

-- of the entries that the walk has passed the first place that counts is found
pub record IsMarkWalk (counts : ℕ → Bool) (entries : Entries) (hash : ℕ)
    (found next : Option ℕ) : Type 0 where
  pub that_counts : (p : ℕ) → found ≡ Some p → counts p ≡ true
  pub walk : IsWalk entries.hashes hash
      (λ entry. IsSettled counts found (get_or entries.places entry 0)) next

module _ (counts : ℕ → Bool) (entries : Entries) (hash : ℕ) where
  pub mark_walk-starts : (next : Option ℕ) → IsLast hash entries.hashes next
      → IsMarkWalk counts entries hash None next
  mark_walk-starts next last =
      record { that_counts = λ p e. cc; walk = walk_starts entries.hashes hash _ next last }

  pub mark_walk-goes : (found : Option ℕ) (entry place : ℕ) (next : Option ℕ)
      → IsMarkWalk counts entries hash found (Some entry) → place ≡ get_or entries.places entry 0
      → IsLast (get_or entries.hashes entry 0) (take entry entries.hashes) next
      → IsMarkWalk counts entries hash (with_place (counts place) place found) next
  mark_walk-goes found entry place next walk at last = record {
    that_counts = with_place-counts counts place found walk.that_counts;
    walk =
        walk_goes entries.hashes hash _ entry next
        (walk_weakened entries.hashes hash _ _ (Some entry)
        (λ e. with_place-kept counts place found (get_or entries.places e 0)) walk.walk)
        (rw (← at) (with_place-here counts place found))
        last;
  }

  pub mark_walk-ends : (found : Option ℕ) → ((q : ℕ) → counts q ≡ true → IsEntered hash q entries)
      → IsMarkWalk counts entries hash found None → IsFirst counts found
  mark_walk-ends found entered walk = record {
    that_counts = walk.that_counts;
    first =
        λ q c.
        let e = entered q c in rw e.3 at (walk.walk.passed e.0 (omega arith) e.1 e.2 (rw e.3 c));
  }

-- ---- the first place from a start on

slice_get-drop : {A : Type 0} (n : ℕ) (xs : List A) (k : ℕ)
    → slice_get (drop n xs) k ≡ slice_get xs (n + k)
slice_get-drop zero xs k = let e : 0 + k ≡ k = omega arith in rw e refl
slice_get-drop (suc n) [] k = refl
slice_get-drop (suc n) (x ∷ xs) k =
    let e : suc n + k ≡ suc (n + k) = omega arith in rw e (slice_get-drop n xs k)

module _ {A : Type 0} (test : A → Bool) where
  position-nowhere : (xs : List A) → ((k : ℕ) → passes test (slice_get xs k) ≡ false)
      → position test xs ≡ None
  position-nowhere [] none = refl
  position-nowhere (x ∷ xs) none =
      let past : position_or_len test (x ∷ xs) ≡ length (x ∷ xs) =
      position_or_len_is test (x ∷ xs) (length (x ∷ xs)) x (omega arith)
      (λ k h. rw (slice_get-get_or (x ∷ xs) k x h) at (none k)) (λ h. absurd (omega arith)) in
      rw past (grind arith)

  position-first : (xs : List A) (i : ℕ) (x : A) → slice_get xs i ≡ Some x → test x ≡ true
      → ((k : ℕ) → k < i → passes test (slice_get xs k) ≡ false) → position test xs ≡ Some i
  position-first xs i x there here before =
      let within : i < length xs = slice_get_within xs i x there in
      let at : position_or_len test xs ≡ i =
      position_or_len_is test xs i x (omega arith)
      (λ k h.
      let inside : k < length xs = omega arith in
      rw (slice_get-get_or xs k x inside) at (before k h))
      (λ h. rw (get_or_from_slice_get xs i x x there) here) in
      rw at (grind arith)

  -- whether the place isn't before the start, and its element passes
  abbrev pub passes_from : ℕ → List A → ℕ → Bool
  passes_from start xs q = nat_le start q && passes test (slice_get xs q)

  passes-Some : (o : Option A) → passes test o ≡ true → (x : A) × (o ≡ Some x) × (test x ≡ true)
  passes-Some None h = cc
  passes-Some (Some x) h = (x, refl, h)

  passes-drop : (start : ℕ) (xs : List A) (k : ℕ) → passes test (slice_get (drop start xs) k) ≡ true
      → passes_from start xs (start + k) ≡ true
  passes-drop start xs k h =
      and_from (nat_le start (start + k)) _ (le-leb start (start + k) (omega arith))
      (rw (← slice_get-drop start xs k) h)

  pub position-from_first : (start : ℕ) (xs : List A) (found : Option ℕ)
      → IsFirst (passes_from start xs) found
      → option_map (λ k. start + k) (position test (drop start xs)) ≡ found
  position-from_first start xs None first =
      let none : position test (drop start xs) ≡ None =
      position-nowhere (drop start xs)
      (λ k. false_from_ne_true _
      (λ h. let f = first.first (start + k) (passes-drop start xs k h) in none-some f.0 f.1)) in
      rw none refl
  position-from_first start xs (Some p) first =
      let parts = and_parts (nat_le start p) _ (first.that_counts p refl) in
      let past : start ≤ p = leb-true start p parts.0 in
      let here = passes-Some (slice_get xs p) parts.1 in
      let same : start + (p - start) ≡ p = omega arith in
      let there : slice_get (drop start xs) (p - start) ≡ Some here.0 =
      rw (slice_get-drop start xs (p - start), same) here.1 in
      let at : position test (drop start xs) ≡ Some (p - start) =
      position-first (drop start xs) (p - start) here.0 there here.2
      (λ k below. false_from_ne_true _ (λ h.
      let f = first.first (start + k) (passes-drop start xs k h) in
      let again : p ≡ f.0 = same_Some p f.0 f.1 in
      absurd (omega (arith, f.2)))) in
      rw (at, same) refl

  pub from-first : (start : ℕ) (xs : List A) (found : Option ℕ)
      → IsFirst (passes_from start xs) found → IfSome found (λ p. start ≤ p)
  from-first start xs None first = tt
  from-first start xs (Some p) first =
      leb-true start p (and_parts (nat_le start p) _ (first.that_counts p refl)).0

  pub within-first : (start : ℕ) (xs : List A) (found : Option ℕ)
      → IsFirst (passes_from start xs) found → IfSome found (λ p. p < length xs)
  within-first start xs None first = tt
  within-first start xs (Some p) first =
      let here =
      passes-Some (slice_get xs p) (and_parts (nat_le start p) _ (first.that_counts p refl)).1 in
      slice_get_within xs p here.0 here.1

-- ---- rows

is_mark-true : (wanted : List ℕ) (mark : Option (List ℕ)) → is_mark wanted mark ≡ true
    → mark ≡ Some wanted
is_mark-true wanted None h = cc
is_mark-true wanted (Some text) h = ap (λ (x : List ℕ). Some x) ((bytes_eq-Decides text wanted).0 h)

slice_get-set-same : {A : Type 0} (xs : List A) (i : ℕ) (y : A) → i < length xs
    → slice_get (set xs i y) i ≡ Some y
slice_get-set-same [] i y h = absurd (omega arith)
slice_get-set-same (x ∷ xs) zero y h = refl
slice_get-set-same (x ∷ xs) (suc i) y h = slice_get-set-same xs i y (omega arith)

slice_get-set-other : {A : Type 0} (xs : List A) (i k : ℕ) (y : A) → k ≢ i
    → slice_get (set xs i y) k ≡ slice_get xs k
slice_get-set-other [] i k y ne = refl
slice_get-set-other (x ∷ xs) zero zero y ne = absurd (ne refl)
slice_get-set-other (x ∷ xs) zero (suc k) y ne = refl
slice_get-set-other (x ∷ xs) (suc i) zero y ne = refl
slice_get-set-other (x ∷ xs) (suc i) (suc k) y ne =
    slice_get-set-other xs i k y (λ e. ne (ap suc e))

module _ {R : Type 0} (mark : R → Option (List ℕ)) where
  -- a row that has the mark stands in a place that was entered under its hash
  pub IsEntered-marked : (rows : List R) (entries : Entries) (wanted : List ℕ) (start place : ℕ)
      → IsMarkIndex (map mark rows) entries
      → passes_from (λ row. is_mark wanted (mark row)) start rows place ≡ true
      → IsEntered (mark_hash wanted) place entries
  IsEntered-marked rows entries wanted start place index counts =
      let parts = and_parts (nat_le start place) _ counts in
      let here = passes-Some (λ row. is_mark wanted (mark row)) (slice_get rows place) parts.1 in
      index place wanted (rw (slice_get-map mark rows place, here.1)
      (ap (λ (x : Option (List ℕ)). Some x) (is_mark-true wanted (mark here.0) here.2)))

  -- the row in the first place of the mark is the first row of the mark
  pub marked_row-place : (wanted : List ℕ) (rows : List R)
      → option_and_then (slice_get rows) (marked_place mark wanted 0 rows)
      ≡ marked_row mark wanted rows
  marked_row-place wanted rows =
      let test : R → Bool = λ row. is_mark wanted (mark row) in
      let at = position_or_len test rows in
      let P : Option ℕ → Type 0 =
      λ o. option_and_then (slice_get rows) (option_map (λ k. 0 + k) o) ≡ slice_get rows at in
      rw (find_at test rows) (cond_both (nat_lt at (length rows))
      (Some at) None P (λ h. let e : 0 + at ≡ at = omega arith in rw e refl)
      (λ h. sym (slice_get_past rows at (ltb-false at (length rows) h))))

  -- a marked place after a put is that of the row, or was marked before
  put_cases : (key : R → Key) (o : Option ℕ) (rows : List R) (row : R) (place : ℕ) (text : List ℕ)
      → ((p : ℕ) → o ≡ Some p → p < length rows)
      → slice_get (map mark (put_at key o row rows)) place ≡ Some (Some text)
      → ((place ≡ unwrap_or o (length rows)) × (mark row ≡ Some text))
      ⊎ (slice_get (map mark rows) place ≡ Some (Some text))
  put_cases key None rows row place text short there =
      let at : slice_get (map mark rows ++ mark row ∷ []) place ≡ Some (Some text) =
      rw map-append at there in
      ⊎_elim
      (λ (within : place < length rows).
      let inside : place < length (map mark rows) = rw (length-map rows mark) within in
      inr (sym (slice_get-push-within (map mark rows) (mark row) place inside) ∙ at))
      (λ (past : length rows ≤ place).
      let inside = slice_get_within (map mark rows ++ mark row ∷ []) place (Some text) at in
      let last : place ≡ length (map mark rows) =
      omega (arith, length-append (map mark rows) (mark row ∷ []), length-map rows mark) in
      inl (
        last ∙ length-map rows mark,
        same_Some (mark row) (Some text)
            (sym (slice_get-push-last (map mark rows) (mark row))
            ∙ ap (λ k. slice_get (map mark rows ++ mark row ∷ []) k) (sym last) ∙ at),
      ))
      (cases_lt place (length rows))
  put_cases key (Some p) rows row place text short there =
      let at : slice_get (set (map mark rows) p (mark row)) place ≡ Some (Some text) =
      rw map-set at there in
      let inside : p < length (map mark rows) = rw (length-map rows mark) (short p refl) in
      ⊎_elim
      (λ (same : place ≡ p). inl (
        same,
        same_Some (mark row) (Some text)
            (sym (slice_get-set-same (map mark rows) p (mark row) inside)
            ∙ ap (λ k. slice_get (set (map mark rows) p (mark row)) k) (sym same) ∙ at),
      ))
      (λ (other : place ≡ p → ⊥).
      inr (sym (slice_get-set-other (map mark rows) p place (mark row) other) ∙ at))
      (cases_eq place p)

  -- a put keeps the index of the marks
  pub IsMarkIndex-put : (key : R → Key) (rows : List R) (row : R) (old new : Entries)
      → IsMarkIndex (map mark rows) old → IsKept old new
      → IfSome (mark row) (λ text.
      IsEntered (mark_hash text) (unwrap_or (place_of key (key row) rows) (length rows)) new)
      → IsMarkIndex (map mark (put_row key row rows)) new
  IsMarkIndex-put key rows row old new index kept entered place text there =
      let at = place_of key (key row) rows in
      ⊎_elim
      (λ (h : (place ≡ unwrap_or at (length rows)) × (mark row ≡ Some text)).
      rw h.0 (rw h.1 at entered))
      (λ (h : slice_get (map mark rows) place ≡ Some (Some text)).
      kept (mark_hash text) place (index place text h))
      (put_cases key at rows row place text
      (λ p e. (position-Some (λ r. same_key (key r) (key row)) rows p row e).0) there)
