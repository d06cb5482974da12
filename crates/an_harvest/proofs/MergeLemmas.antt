-- What a merge of known objects and new ones has, and in which order.
use Rattle.std.proofs.Common.{◌≡◌, Ordering, ℕ, Bool, true, false, cond, List, [], ◌∷◌, ◌++◌, map, Option, Some, None, option_map, refl, sym, ap, ◌∙◌, subst, string_bytes, bytes_eq, String, Less, Equal, Greater, nat_cmp, find}
use Rattle.std.proofs.lemmas.Bool.{cond-true, cond-false, cond_both}
use Rattle.std.proofs.lemmas.Cmp.{nat_list_cmp_total, nat_list_eq_equiv}
use Rattle.std.proofs.lemmas.List.{append-nil, append_assoc}
use Rattle.std.proofs.lemmas.List.Folds.{find-append}
use Rattle.std.proofs.lemmas.Map.Text.{is_eq-slice_cmp}
use Rattle.std.proofs.lemmas.Slice.Eq.{bytes_eq-Decides}
use Rattle.std.specs.Prelude.{filter, string_cmp, unwrap_or}
use Rattle.std.specs.List.{AllByRecursion}
use Rattle.std.specs.List.Sorted.{IsStrictlySortedBy}
use Rattle.std.specs.Option.{option_or, option_to_list}
use Rattle.std.specs.Ordering.{is_eq, is_lt, is_gt, ordering_reverse}
use Rattle.std.specs.Cmp.Lexicographic.{slice_cmp}
use Rattle.std.specs.Map.{lookup, keys_of}
use Rattle.std.specs.declared.alloc.Global.{Global}
use Rattle.an_harvest.specs.Live.{Ascend, object_at, object_of, before, after, merge}
use Rattle.an_harvest.proofs.LatestLemmas.{or-none}
use Rattle.an_harvest.specs.declared.known.KnownObject.{KnownObject}

-- ---- texts above a text

-- a text is below all of these
abbrev pub Above : {K : Type 0} → (K → List ℕ) → List ℕ → List K → Type 0
Above text id ks = AllByRecursion (λ k. slice_cmp nat_cmp id (text k) ≡ Less) ks

abbrev Over : List ℕ → List KnownObject → Type 0
Over id objects = Above (λ k. k) id (map (λ object. object.id) objects)

above-le : {K : Type 0} (text : K → List ℕ) (a b : List ℕ) → is_gt (slice_cmp nat_cmp a b) ≡ false
    → (ks : List K) → Above text b ks → Above text a ks
above-le text a b le [] all = tt
above-le text a b le (k ∷ ks) all = (by (slice_cmp nat_cmp a b) refl, above-le text a b le ks all.1)
  where
    by : (o : Ordering) → slice_cmp nat_cmp a b ≡ o → slice_cmp nat_cmp a (text k) ≡ Less
    by Less is = nat_list_cmp_total.trans a b (text k) is all.0
    by Equal is = nat_list_cmp_total.congr a b (text k) is ∙ all.0
    by Greater is = absurd (cc)

missing-above : (id : List ℕ) (es : List (String Global × Option Bool))
    → Above string_bytes id (keys_of es)
    → lookup (λ k. is_eq (slice_cmp nat_cmp id (string_bytes k))) es ≡ None
missing-above id [] all = refl
missing-above id ((k, left) ∷ es) all =
    cond-false _ _ _ (ap is_eq all.0) ∙ missing-above id es all.1

over-filter : (p : KnownObject → Bool) (id : List ℕ) (os : List KnownObject) → Over id os
    → Over id (filter p os)
over-filter p id [] all = tt
over-filter p id (o ∷ os) all =
    let rest = over-filter p id os all.1 in
    cond_both (p o) (o ∷ filter p os) (filter p os) (Over id) (λ _. (all.0, rest)) (λ _. rest)

over-append : (id : List ℕ) (xs ys : List KnownObject) → Over id xs → Over id ys
    → Over id (xs ++ ys)
over-append id [] ys a b = b
over-append id (o ∷ xs) ys a b = (a.0, over-append id xs ys a.1 b)

less_from : (r : Ordering) → is_lt r ≡ true → r ≡ Less
less_from Less is = refl
less_from Equal is = absurd (cc)
less_from Greater is = absurd (cc)

turned_from : (r : Ordering) → is_gt r ≡ true → ordering_reverse r ≡ Less
turned_from Less is = absurd (cc)
turned_from Equal is = absurd (cc)
turned_from Greater is = refl

over-after : (id : List ℕ) (os : List KnownObject) → Over id (after id os)
over-after id [] = tt
over-after id (o ∷ os) =
    let rest = over-after id os in
    cond_both (is_gt (slice_cmp nat_cmp o.id id)) (o ∷ after id os) (after id os) (Over id)
    (λ is. (nat_list_cmp_total.antisymm id o.id ∙ turned_from (slice_cmp nat_cmp o.id id) is, rest))
    (λ _. rest)

over-merge : (id : List ℕ) (es : List (String Global × Option Bool)) (os : List KnownObject)
    → Above string_bytes id (keys_of es) → Over id os → Over id (merge es os)
over-merge id [] os keys all = all
over-merge id ((k, None) ∷ es) os keys all =
    over-append id (before (string_bytes k) os) _ (over-filter _ id os all)
    (over-merge id es (after (string_bytes k) os) keys.1 (over-filter _ id os all))
over-merge id ((k, Some manifest) ∷ es) os keys all =
    over-append id (before (string_bytes k) os) _ (over-filter _ id os all)
    (keys.0, over-merge id es (after (string_bytes k) os) keys.1 (over-filter _ id os all))

-- ---- a merge ascends

pub ascend-filter : (p : KnownObject → Bool) (os : List KnownObject) → Ascend os
    → Ascend (filter p os)
unfolding IsStrictlySortedBy
ascend-filter p [] up = tt
ascend-filter p (o ∷ os) up =
    let rest = ascend-filter p os up.1 in
    cond_both (p o) (o ∷ filter p os) (filter p os) Ascend
    (λ _. (over-filter p o.id os up.0, rest)) (λ _. rest)

ascend-before : (id : List ℕ) (os more : List KnownObject) → Ascend os → Ascend more
    → ((a : List ℕ) → slice_cmp nat_cmp a id ≡ Less → Over a more) → Ascend (before id os ++ more)
unfolding IsStrictlySortedBy
ascend-before id [] more up above far = above
ascend-before id (o ∷ os) more up above far =
    let rest = ascend-before id os more up.1 above far in
    cond_both (is_lt (slice_cmp nat_cmp o.id id)) (o ∷ before id os) (before id os)
    (λ xs. Ascend (xs ++ more))
    (λ is. (
      over-append o.id (before id os) more (over-filter _ o.id os up.0)
          (far o.id (less_from (slice_cmp nat_cmp o.id id) is)),
      rest,
    )) (λ _. rest)

ascend-entry : (k : String Global) (left : Option Bool) (os more : List KnownObject) → Ascend os
    → Over (string_bytes k) more → Ascend more
    → Ascend (before (string_bytes k) os ++ (option_to_list (object_of (k, left)) ++ more))
unfolding IsStrictlySortedBy
ascend-entry k None os more up over tail =
    ascend-before (string_bytes k) os more up tail
    (λ a less.
    above-le (λ x. x) a (string_bytes k) (ap is_gt less) (map (λ object. object.id) more) over)
ascend-entry k (Some manifest) os more up over tail =
    ascend-before (string_bytes k) os _ up (over, tail)
    (λ a less. (
      less,
      above-le (λ x. x) a (string_bytes k) (ap is_gt less) (map (λ object. object.id) more) over,
    ))

pub ascend-merge : (es : List (String Global × Option Bool)) (os : List KnownObject)
    → IsStrictlySortedBy string_cmp (keys_of es) → Ascend os → Ascend (merge es os)
unfolding IsStrictlySortedBy
ascend-merge [] os sorted up = up
ascend-merge ((k, left) ∷ es) os sorted up =
    ascend-entry k left os (merge es (after (string_bytes k) os)) up
    (over-merge (string_bytes k) es (after (string_bytes k) os) sorted.0
    (over-after (string_bytes k) os))
    (ascend-merge es (after (string_bytes k) os) sorted.1 (ascend-filter _ os up))

-- ---- what a merge has

find-filter : {X : Type 0} (test p : X → Bool) (b : Bool) → ((x : X) → test x ≡ true → p x ≡ b)
    → (xs : List X) → find test (filter p xs) ≡ cond b (find test xs) None
find-filter test p true same [] = refl
find-filter test p false same [] = refl
find-filter test p b same (x ∷ xs) =
    by (test x) (p x) b refl refl refl (find-filter test p b same xs)
  where
    by : (t q c : Bool) → test x ≡ t → p x ≡ q → b ≡ c
        → find test (filter p xs) ≡ cond b (find test xs) None
        → find test (cond q (x ∷ filter p xs) (filter p xs))
        ≡ cond c (cond t (Some x) (find test xs)) None
    by true true true tx px is rest = cond-true _ _ _ tx
    by true false false tx px is rest = rest ∙ cond-false _ _ _ is
    by true true false tx px is rest =
        absurd (let no : true ≡ false = sym px ∙ same x tx ∙ is in cc)
    by true false true tx px is rest =
        absurd (let no : false ≡ true = sym px ∙ same x tx ∙ is in cc)
    by false true c tx px is rest =
        cond-false _ _ _ tx ∙ rest ∙ ap (λ d. cond d (find test xs) None) is
    by false false c tx px is rest = rest ∙ ap (λ d. cond d (find test xs) None) is

found-filter : (p : List ℕ → Bool) (os : List KnownObject) (id : List ℕ)
    → object_at (filter (λ o. p o.id) os) id ≡ cond (p id) (object_at os id) None
found-filter p os id =
    ap (option_map (λ object. object.manifest))
    (find-filter (λ o. bytes_eq o.id id) (λ o. p o.id) (p id)
    (λ o same. ap p ((bytes_eq-Decides o.id id).0 same)) os)
    ∙ by (p id)
  where
    by : (b : Bool)
        → option_map (λ (object : KnownObject). object.manifest)
        (cond b (find (λ o. bytes_eq o.id id) os) None) ≡ cond b (object_at os id) None
    by true = refl
    by false = refl

found-append : (xs ys : List KnownObject) (id : List ℕ)
    → object_at (xs ++ ys) id ≡ option_or (object_at xs id) (object_at ys id)
found-append xs ys id =
    ap (option_map (λ object. object.manifest)) (find-append (λ o. bytes_eq o.id id) xs ys)
    ∙ by (find (λ o. bytes_eq o.id id) xs)
  where
    by : (o : Option KnownObject)
        → option_map (λ (object : KnownObject). object.manifest)
        (option_or o (find (λ o. bytes_eq o.id id) ys))
        ≡ option_or (option_map (λ object. object.manifest) o) (object_at ys id)
    by None = refl
    by (Some o) = refl

found-entry : (k : String Global) (left : Option Bool) (id : List ℕ)
    → object_at (option_to_list (object_of (k, left))) id
    ≡ cond (bytes_eq (string_bytes k) id) left None
found-entry k None id = by (bytes_eq (string_bytes k) id)
  where
    by : (b : Bool) → object_at [] id ≡ cond b None None
    by true = refl
    by false = refl
found-entry k (Some manifest) id = by (bytes_eq (string_bytes k) id)
  where
    own : KnownObject
    own = record { id = string_bytes k; manifest = manifest }

    by : (b : Bool)
        → option_map (λ (object : KnownObject). object.manifest) (cond b (Some own) None)
        ≡ cond b (Some manifest) None
    by true = refl
    by false = refl

-- by the order of the id that is looked for and that of the entry
found-by : (r : Ordering) (left known : Option Bool) (found : Option (Option Bool))
    → (is_gt r ≡ false → found ≡ None)
    → option_or (cond (is_lt r) known None)
    (option_or (cond (is_eq r) left None) (unwrap_or found (cond (is_gt r) known None)))
    ≡ unwrap_or (cond (is_eq r) (Some left) found) known
found-by Less left known found none =
    ap (λ f. option_or known (unwrap_or f None)) (none refl) ∙ or-none known
    ∙ ap (λ f. unwrap_or f known) (sym (none refl))
found-by Equal left known found none =
    ap (λ f. option_or left (unwrap_or f None)) (none refl) ∙ or-none left
found-by Greater left known found none = refl

found-parts : (r : Ordering) (left known : Option Bool) (found : Option (Option Bool))
    (front own more : Option Bool) → (is_gt r ≡ false → found ≡ None)
    → front ≡ cond (is_lt r) known None → own ≡ cond (is_eq r) left None
    → more ≡ unwrap_or found (cond (is_gt r) known None)
    → option_or front (option_or own more) ≡ unwrap_or (cond (is_eq r) (Some left) found) known
found-parts r left known found front own more none of-front of-own of-more =
    rw (of-front, of-own, of-more) (found-by r left known found none)

pub found-merge : (es : List (String Global × Option Bool)) (os : List KnownObject) (id : List ℕ)
    → IsStrictlySortedBy string_cmp (keys_of es)
    → object_at (merge es os) id
    ≡ unwrap_or (lookup (λ k. is_eq (slice_cmp nat_cmp id (string_bytes k))) es) (object_at os id)
unfolding IsStrictlySortedBy
found-merge [] os id sorted = refl
found-merge ((k, left) ∷ es) os id sorted =
    let found : Option (Option Bool) =
    lookup (λ k. is_eq (slice_cmp nat_cmp id (string_bytes k))) es in
    let front : List KnownObject = before (string_bytes k) os in
    let own : List KnownObject = option_to_list (object_of (k, left)) in
    let more : List KnownObject = merge es (after (string_bytes k) os) in
    let same : bytes_eq (string_bytes k) id ≡ is_eq (slice_cmp nat_cmp id (string_bytes k)) =
    nat_list_eq_equiv.symm (string_bytes k) id ∙ sym (is_eq-slice_cmp id (string_bytes k)) in
    found-append front (own ++ more) id
    ∙ ap (option_or (object_at front id)) (found-append own more id)
    ∙ found-parts (slice_cmp nat_cmp id (string_bytes k)) left (object_at os id) found
    (object_at front id) (object_at own id) (object_at more id)
    (λ le. missing-above id es (above-le string_bytes id (string_bytes k) le (keys_of es) sorted.0))
    (found-filter (λ a. is_lt (slice_cmp nat_cmp a (string_bytes k))) os id)
    (found-entry k left id ∙ ap (λ b. cond b left None) same)
    (found-merge es (after (string_bytes k) os) id sorted.1
    ∙ ap (unwrap_or found) (found-filter (λ a. is_gt (slice_cmp nat_cmp a (string_bytes k))) os id))

-- ---- along known objects

-- where all are above an id, none comes before it, and all come after it
pub all-after : (id : List ℕ) (os : List KnownObject) → Over id os
    → (before id os ≡ []) × (after id os ≡ os)
all-after id [] all = (refl, refl)
all-after id (o ∷ os) all =
    let turn : slice_cmp nat_cmp o.id id ≡ Greater =
    nat_list_cmp_total.antisymm o.id id ∙ ap ordering_reverse all.0 in
    let rest : (before id os ≡ []) × (after id os ≡ os) = all-after id os all.1 in (
      cond-false _ _ _ (ap is_lt turn) ∙ rest.0,
      cond-true _ _ _ (ap is_gt turn) ∙ ap (λ xs. o ∷ xs) rest.1,
    )

-- how far the objects that are left go before an id, by the order of the first of them and that id
pub along : (id : List ℕ) (o : KnownObject) (os rest : List KnownObject) → rest ≡ o ∷ os
    → Ascend rest → (r : Ordering) → r ≡ slice_cmp nat_cmp o.id id
    → (before id rest ≡ elim r [ Less ↦ o ∷ before id os | Equal ↦ [] | Greater ↦ [] ])
    × (after id rest ≡ elim r [ Less ↦ after id os | Equal ↦ os | Greater ↦ rest ])
unfolding IsStrictlySortedBy
along id o os rest first up Less is = (
  ap (before id) first ∙ cond-true _ _ _ (ap is_lt (sym is)),
  ap (after id) first ∙ cond-false _ _ _ (ap is_gt (sym is)),
)
along id o os rest first up Equal is =
    let le : is_gt (slice_cmp nat_cmp id o.id) ≡ false =
    ap is_gt (nat_list_cmp_total.antisymm id o.id ∙ ap ordering_reverse (sym is)) in
    let over : Over o.id os = (subst Ascend first up).0 in
    let all : (before id os ≡ []) × (after id os ≡ os) =
    all-after id os (above-le (λ x. x) id o.id le (map (λ object. object.id) os) over) in (
      ap (before id) first ∙ cond-false _ _ _ (ap is_lt (sym is)) ∙ all.0,
      ap (after id) first ∙ cond-false _ _ _ (ap is_gt (sym is)) ∙ all.1,
    )
along id o os rest first up Greater is =
    let less : slice_cmp nat_cmp id o.id ≡ Less =
    nat_list_cmp_total.antisymm id o.id ∙ ap ordering_reverse (sym is) in
    let over : Over o.id os = (subst Ascend first up).0 in
    let all : (before id (o ∷ os) ≡ []) × (after id (o ∷ os) ≡ o ∷ os) =
    all-after id (o ∷ os)
    (less, above-le (λ x. x) id o.id (ap is_gt less) (map (λ object. object.id) os) over) in
    (ap (before id) first ∙ all.0, ap (after id) first ∙ all.1 ∙ sym first)

-- where none of what is left comes before an id, all before it is copied
pub all-copied : (id : List ℕ) (copied rest all : List KnownObject) → before id rest ≡ []
    → copied ++ before id rest ≡ all → copied ≡ all
all-copied id copied rest all none same =
    sym (append-nil copied) ∙ ap (λ xs. copied ++ xs) (sym none) ∙ same

-- what is merged so far and what is left, an entry further
pub merge-step : (e : String Global × Option Bool) (es left : List (String Global × Option Bool))
    (done copied new rest behind all : List KnownObject)
    → left ≡ e ∷ es → copied ≡ done ++ before (string_bytes e.0) rest
    → behind ≡ after (string_bytes e.0) rest → new ≡ copied ++ option_to_list (object_of e)
    → done ++ merge left rest ≡ all → new ++ merge es behind ≡ all
merge-step e es left done copied new rest behind all of-left of-copied of-behind of-new same =
    let front : List KnownObject = before (string_bytes e.0) rest in
    let here : List KnownObject = option_to_list (object_of e) in
    let more : List KnownObject = merge es (after (string_bytes e.0) rest) in
    ap (λ xs. xs ++ merge es behind) (of-new ∙ ap (λ xs. xs ++ here) of-copied)
    ∙ ap (λ xs. ((done ++ front) ++ here) ++ merge es xs) of-behind
    ∙ append_assoc (done ++ front) here more ∙ append_assoc done front (here ++ more)
    ∙ ap (λ xs. done ++ merge xs rest) (sym of-left) ∙ same
