-- Places that are filed by pairs, and how many of them stand below a place.
use Rattle.std.proofs.Common.{◌≡◌, ◌≢◌, ℕ, suc, ◌+◌, ◌-◌, ◌<◌, Bool, true, false, cond, eqb, List, [], ◌∷◌, ◌++◌, Vec, Global, map, Result, Ok, Err, OnErr, All, length, length-append, get_or, inl, inr, refl, sym, ap, ◌∙◌, arith}
use Rattle.std.proofs.lemmas.Bool.{cases_eq}
use Rattle.std.proofs.lemmas.List.{append-nil, get_or-append_right, get_or-set_same, get_or-set_other, get_or_append_left, get_or-map, length-set, map-set}
use Rattle.std.proofs.lemmas.List.Elements.{All-head, All-push, All-tail}
use Rattle.std.proofs.Math.ListN.{set}
use Rattle.std.proofs.Math.Seq.{map-set_same}
use Rattle.an_slots.specs.Places.{places_from}
use Rattle.an_slots.proofs.ClassedLemmas.{if_other, if_same}
use Rattle.an_snapshot.specs.PairLists.{AreFiled, Filed, places_of, with_next}

-- ---- places

-- a row behind all
places-push : {A : Type 0} (test : A → Bool) (place : ℕ) (rows : List A) (row : A)
    → places_from test place (rows ++ row ∷ [])
    ≡ places_from test place rows ++ cond (test row) ((place + length rows) ∷ []) []
places-push test place [] row = ap (λ (p : ℕ). cond (test row) (p ∷ []) []) (omega arith)
places-push test place (first ∷ rows) row =
    let at : (place + 1) + length rows ≡ place + suc (length rows) = omega arith in
    ap (λ (ps : List ℕ). cond (test first) (place ∷ ps) ps)
    (places-push test (place + 1) rows row
    ∙ ap (λ (p : ℕ). places_from test (place + 1) rows ++ cond (test row) (p ∷ []) []) at)
    ∙ later (test first) place (places_from test (place + 1) rows)
    (cond (test row) ((place + suc (length rows)) ∷ []) [])
  where
    later : (b : Bool) (p : ℕ) (xs ys : List ℕ)
        → cond b (p ∷ xs ++ ys) (xs ++ ys) ≡ cond b (p ∷ xs) xs ++ ys
    later true p xs ys = refl
    later false p xs ys = refl

-- one number more
places-more : (number : ℕ) (numbers : List ℕ) (next : ℕ) → next ≡ number
    → places_of number (numbers ++ next ∷ []) ≡ places_of number numbers ++ length numbers ∷ []
places-more number numbers next is =
    places-push (λ n. eqb n number) 0 numbers next
    ∙ ap (λ (ps : List ℕ). places_of number numbers ++ ps)
    (if_same next number _ _ is ∙ ap (λ (p : ℕ). p ∷ []) (omega arith))

places-other : (number : ℕ) (numbers : List ℕ) (next : ℕ) → next ≢ number
    → places_of number (numbers ++ next ∷ []) ≡ places_of number numbers
places-other number numbers next isnt =
    places-push (λ n. eqb n number) 0 numbers next
    ∙ ap (λ (ps : List ℕ). places_of number numbers ++ ps) (if_other next number _ _ isnt)
    ∙ append-nil (places_of number numbers)

-- a number that none has has no places
places-none : (number place : ℕ) (numbers : List ℕ) → All (λ n. n < number) numbers
    → places_from (λ n. eqb n number) place numbers ≡ []
places-none number place [] all = refl
places-none number place (n ∷ numbers) all =
    let less : n < number = All-head (λ n. n < number) n numbers all in
    if_other n number _ _ (λ e. absurd (omega (arith, e, less)))
    ∙ places-none number (place + 1) numbers (All-tail (λ n. n < number) n numbers all)

-- ---- what is filed

-- one list more, which is empty
pub filed-longer : (numbers : List ℕ) (filed : Filed) → AreFiled numbers filed
    → AreFiled numbers (record { lists = filed.lists ++ [] ∷ []; count = filed.count })
filed-longer numbers filed are = record {
  all = are.all;
  within =
      λ k d h.
      let low = are.within k d h in
      let long = length-append filed.lists ([] ∷ []) in omega (arith, low, long);
  each = λ number h. elim (cases_eq number (length filed.lists)) [
    | inl same ↦
        get_or-append_right filed.lists ([] ∷ []) (length filed.lists) number [] refl
        (omega (arith, same))
        ∙ (let at : number - length filed.lists ≡ 0 = omega (arith, same) in
        ap (λ (n : ℕ). get_or ([] ∷ []) n []) at)
        ∙ sym
        (places-none number 0 numbers (λ k d within. omega (arith, same, are.within k d within)))
    | inr other ↦
        let long = length-append filed.lists ([] ∷ []) in
        let low : number < length filed.lists = omega (arith, other, h, long) in
        get_or_append_left filed.lists ([] ∷ []) [] number low ∙ are.each number low
  ];
}

-- the next place
pub filed-next : (numbers : List ℕ) (filed : Filed) (number : ℕ) → number < length filed.lists
    → AreFiled numbers filed → AreFiled (numbers ++ number ∷ []) (with_next number filed)
filed-next numbers filed number low are =
    let list : List ℕ = get_or filed.lists number [] ++ filed.count ∷ [] in
    let long = length-set filed.lists number list in
    record {
      all = omega (arith, are.all, length-append numbers (number ∷ []));
      within =
          All-push (λ n. n < length (set filed.lists number list)) numbers number
          (λ k d h. omega (arith, long, are.within k d h)) (omega (arith, long, low));
      each = λ q h. elim (cases_eq q number) [
        | inl same ↦
            ap (λ (n : ℕ). get_or (set filed.lists number list) n []) same
            ∙ get_or-set_same filed.lists number list [] low
            ∙ ap (λ (l : List ℕ). l ++ filed.count ∷ []) (are.each number low)
            ∙ ap (λ (n : ℕ). places_of number numbers ++ n ∷ []) are.all
            ∙ sym (places-more number numbers number refl)
            ∙ ap (λ (n : ℕ). places_of n (numbers ++ number ∷ [])) (sym same)
        | inr other ↦
            get_or-set_other filed.lists number q list [] other
            ∙ are.each q (omega (arith, long, h))
            ∙ sym (places-other q numbers number (λ e. other (sym e)))
      ];
    }

-- ---- a vector of vectors

abbrev items : Vec ℕ Global → List ℕ
items v = v.items

-- more behind the items of one
pub items-put : (lists : List (Vec ℕ Global)) (number : ℕ) (old new : Vec ℕ Global) (added : List ℕ)
    → number < length lists → old ≡ get_or lists number old → new.items ≡ old.items ++ added
    → map (λ (v : Vec ℕ Global). v.items) (set lists number new)
    ≡ set (map (λ (v : Vec ℕ Global). v.items) lists) number
    (get_or (map (λ (v : Vec ℕ Global). v.items) lists) number [] ++ added)
items-put lists number old new added low is more =
    map-set items lists number new
    ∙ ap (set (map items lists) number)
    (more
    ∙ ap (λ (l : List ℕ). l ++ added)
    (ap items is ∙ sym (get_or-map items lists number old [] low)))

-- the same items
pub items-same : (lists : List (Vec ℕ Global)) (number : ℕ) (old new : Vec ℕ Global)
    → old ≡ get_or lists number old → new.items ≡ old.items
    → map (λ (v : Vec ℕ Global). v.items) (set lists number new)
    ≡ map (λ (v : Vec ℕ Global). v.items) lists
items-same lists number old new is same =
    map-set_same items lists number new old (same ∙ ap items is)

pub on_err-given : {T E P : Type 0} (r : Result T E) → P → OnErr r P
on_err-given (Ok x) given = tt
on_err-given (Err e) given = given
