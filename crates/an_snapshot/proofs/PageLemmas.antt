-- How many changes a caller sees, and where a page of them begins.
use Rattle.std.proofs.Common.{◌≡◌, ℕ, ◌+◌, ◌-◌, ◌<◌, ◌≤◌, Bool, true, false, cond, is_some, List, [], ◌∷◌, ◌++◌, Option, Some, None, suc, add-one, drop, drop-cons, get_or, slice_get, length, length-append, take, refl, sym, ap, ◌∙◌, arith}
use Rattle.std.specs.List.{count_by, cons_option, sum_by}
use Rattle.std.proofs.lemmas.List.{drop-drop, drop-take, get_or-map, length-drop, length-map, length-take-le, take-append-drop, take-map, take-take, take_all}
use Rattle.std.proofs.lemmas.List.Elements.{filter_map-append}
use Rattle.std.proofs.lemmas.List.Sums.{count_by-le-length, sum_by-cons}
use Rattle.std.proofs.Math.Seq.{drop-append-add}
use Rattle.an_policy.specs.Audience.{Identity}
use Rattle.an_policy.specs.declared.group.Audience.{Audience}
use Rattle.an_policy.specs.declared.kind.Kind.{Kind}
use Rattle.an_state.specs.declared.activity.Activity.{Activity}
use Rattle.an_state.specs.declared.activity.Seen.{Seen}
use Rattle.an_snapshot.specs.Changes.{kind_in, kinds_in, numbers_in, seen_by_kinds, seen_of}
use Rattle.an_snapshot.specs.PairLists.{AreFiled, Filed, all_below, kind_at, lists_seen}
use Rattle.an_snapshot.specs.declared.change.ClassChange.{ClassChange}
use Rattle.an_snapshot.specs.declared.change.FiledChange.{FiledChange}
use Rattle.an_snapshot.proofs.SeenListLemmas.{count-cons, one, seen-all, seen-below, seen-more}

-- ---- one change more

pub length-numbers : (changes : List FiledChange) → length (numbers_in changes) ≡ length changes
length-numbers changes = length-map changes (λ (change : FiledChange). change.pair)

-- how many of the rest pass, with one more
pub count-more : (p : ℕ → Bool) (changes : List FiledChange) (at : ℕ) (change : FiledChange)
    → change ≡ get_or changes at change → at < length changes
    → count_by p (numbers_in (drop at changes))
    ≡ one (p change.pair) + count_by p (numbers_in (drop (at + 1) changes))
count-more p changes at change here within =
    rw (add-one, drop-cons changes at change within, sym here)
    (count-cons p change.pair (numbers_in (drop (suc at) changes)))

-- ---- what is seen

pub seen-some : (activity : Activity) (kind : Option Kind)
    → is_some (seen_of activity kind) ≡ is_some kind
seen-some activity None = refl
seen-some activity (Some kind) = refl

cons-length : (seen : Option Seen) (others : List Seen)
    → length (cons_option seen others) ≡ one (is_some seen) + length others
cons-length None others = omega arith
cons-length (Some first) others = omega arith

-- as many are seen as have pairs that are
pub seen-length : (kinds : List (Option Kind)) (changes : List FiledChange)
    → length (seen_by_kinds kinds changes)
    ≡ count_by (λ number. is_some (kind_at kinds number)) (numbers_in changes)
seen-length kinds [] = refl
seen-length kinds (change ∷ changes) =
    let more =
    cons-length (seen_of change.activity (kind_at kinds change.pair))
    (seen_by_kinds kinds changes) in
    let some = ap one (seen-some change.activity (kind_at kinds change.pair)) in
    let count =
    count-cons (λ number. is_some (kind_at kinds number)) change.pair (numbers_in changes) in
    let rest = seen-length kinds changes in
    omega (arith, more, some, count, rest)

-- what is seen is what is seen of the first changes, and then of the rest
seen-parts : (kinds : List (Option Kind)) (place : ℕ) (changes : List FiledChange)
    → seen_by_kinds kinds changes
    ≡ seen_by_kinds kinds (take place changes) ++ seen_by_kinds kinds (drop place changes)
seen-parts kinds place changes =
    ap (seen_by_kinds kinds) (sym (take-append-drop place changes))
    ∙ filter_map-append
    (λ (change : FiledChange). seen_of change.activity (kind_at kinds change.pair))
    (take place changes) (drop place changes)

drop-past : {A : Type 0} (xs ys : List A) (count : ℕ) → length xs ≤ count
    → drop (count - length xs) ys ≡ drop count (xs ++ ys)
drop-past xs ys count long =
    let at : length xs + (count - length xs) ≡ count = omega (arith, long) in
    sym (drop-append-add xs ys (count - length xs)) ∙ ap (λ (n : ℕ). drop n (xs ++ ys)) at

-- ---- what is filed

module _ (kinds : List (Option Kind)) (changes : List FiledChange)
    (filed : Filed) (within : filed.count ≤ length changes)
    (are : AreFiled (numbers_in (take filed.count changes)) filed) where
  abbrev sees : ℕ → Bool
  sees number = is_some (kind_at kinds number)

  numbers-below : (place : ℕ) → place ≤ filed.count
      → take place (numbers_in (take filed.count changes)) ≡ numbers_in (take place changes)
  numbers-below place low =
      take-map (λ (change : FiledChange). change.pair) place (take filed.count changes)
      ∙ ap numbers_in (take-take place filed.count changes low)

  -- as many changes before a place are seen as places in lists stand below it
  below-seen : (place : ℕ) → place ≤ filed.count
      → all_below place (lists_seen kinds filed.lists)
      ≡ length (seen_by_kinds kinds (take place changes))
  below-seen place low =
      seen-below kinds (numbers_in (take filed.count changes)) filed are place
      ∙ ap (count_by sees) (numbers-below place low) ∙ sym (seen-length kinds (take place changes))

  -- no more places stand below one than there are changes
  pub below-few : (place : ℕ) → all_below place (lists_seen kinds filed.lists) ≤ length changes
  below-few place =
      let numbers : List ℕ = numbers_in (take filed.count changes) in
      let is = seen-below kinds numbers filed are place in
      let least = count_by-le-length sees (take place numbers) in
      let part = length-append (take place numbers) (drop place numbers) in
      let whole = ap (λ (l : List ℕ). length l) (take-append-drop place numbers) in
      let all = length-numbers (take filed.count changes) in
      let some = length-take-le filed.count changes within in
      omega (arith, is, least, part, whole, all, some, within)

  -- what follows the first of what is seen is found behind a place that no more stand below
  pub page-begins : (place walked count : ℕ) → place ≤ filed.count
      → all_below place (lists_seen kinds filed.lists) ≤ count
      → seen_by_kinds kinds (drop walked (drop place changes))
      ≡ drop (count - all_below place (lists_seen kinds filed.lists))
      (seen_by_kinds kinds (drop place changes))
      → seen_by_kinds kinds (drop (place + walked) changes)
      ≡ drop count (seen_by_kinds kinds changes)
  page-begins place walked count low few behind =
      let is = below-seen place low in
      ap (seen_by_kinds kinds) (sym (drop-drop walked place changes))
      ∙ behind
      ∙ ap (λ (n : ℕ). drop (count - n) (seen_by_kinds kinds (drop place changes))) is
      ∙ drop-past (seen_by_kinds kinds (take place changes))
      (seen_by_kinds kinds (drop place changes)) count (omega (arith, is, few))
      ∙ ap (drop count) (sym (seen-parts kinds place changes))

  -- the lists' places and what is seen of the rest are what is seen of all
  pub whole-count : sum_by (λ (l : List ℕ). length l) (lists_seen kinds filed.lists)
      + count_by sees (numbers_in (drop filed.count changes)) ≡ length (seen_by_kinds kinds changes)
  whole-count =
      let listed = seen-all kinds (numbers_in (take filed.count changes)) filed are in
      let first = seen-length kinds (take filed.count changes) in
      let rest = seen-length kinds (drop filed.count changes) in
      let parts = ap (λ (l : List Seen). length l) (seen-parts kinds filed.count changes) in
      let both =
      length-append (seen_by_kinds kinds (take filed.count changes))
      (seen_by_kinds kinds (drop filed.count changes)) in
      omega (arith, listed, first, rest, parts, both)

  pub listed-few : sum_by (λ (l : List ℕ). length l) (lists_seen kinds filed.lists) ≤ length changes
  listed-few =
      let listed = seen-all kinds (numbers_in (take filed.count changes)) filed are in
      let least = count_by-le-length sees (numbers_in (take filed.count changes)) in
      let all = length-numbers (take filed.count changes) in
      let some = length-take-le filed.count changes within in
      omega (arith, listed, least, all, some, within)

pub rest-few : (kinds : List (Option Kind)) (changes : List FiledChange)
    → length (seen_by_kinds kinds changes) ≤ length changes
rest-few kinds changes =
    let is = seen-length kinds changes in
    let least =
    count_by-le-length (λ number. is_some (kind_at kinds number)) (numbers_in changes) in
    let all = length-numbers changes in
    omega (arith, is, least, all)

-- ---- the lists

-- the places of one list more
pub listed-more : (who : Identity) (classes : List Audience) (pairs : List ClassChange)
    (lists : List (List ℕ)) (at : ℕ) (list : List ℕ) → at < length pairs
    → slice_get lists at ≡ Some list
    → (seen : Bool)
    → seen
    ≡ is_some (kind_in who classes (get_or pairs at (record { before = None; after = None })))
    → sum_by (λ (l : List ℕ). length l)
    (lists_seen (drop at (kinds_in who classes pairs)) (drop at lists))
    ≡ cond seen (length list) 0
    + sum_by (λ (l : List ℕ). length l)
    (lists_seen (drop (at + 1) (kinds_in who classes pairs)) (drop (at + 1) lists))
listed-more who classes pairs lists at list within there seen is =
    let kinds = kinds_in who classes pairs in
    let long = length-map pairs (kind_in who classes) in
    let kind : get_or kinds at None
    ≡ kind_in who classes (get_or pairs at (record { before = None; after = None })) =
    get_or-map (kind_in who classes) pairs at
    (record { before = None; after = None }) None within in
    let more = seen-more kinds lists at list (omega (arith, long, within)) there in
    let some : is_some (get_or kinds at None) ≡ seen =
    ap (λ (o : Option Kind). is_some o) kind ∙ sym is in
    let rest = lists_seen (drop (at + 1) kinds) (drop (at + 1) lists) in
    ap (sum_by (λ (l : List ℕ). length l))
    (more ∙ ap (λ (b : Bool). cond b (list ∷ rest) rest) some)
    ∙ either seen rest
  where
    either : (b : Bool) (rest : List (List ℕ))
        → sum_by (λ (l : List ℕ). length l) (cond b (list ∷ rest) rest)
        ≡ cond b (length list) 0 + sum_by (λ (l : List ℕ). length l) rest
    either true rest = sum_by-cons (λ (l : List ℕ). length l) list rest
    either false rest = omega arith

-- what `changes[place..]` is
pub all-from : {A : Type 0} (xs whole : List A) (place from : ℕ) → xs ≡ whole → place ≡ from
    → take (length xs - place) (drop place xs) ≡ drop from whole
all-from xs whole place from is at =
    take_all (length xs - place) (drop place xs)
    (let long = length-drop place xs in omega (arith, long))
    ∙ ap (drop place) is ∙ ap (λ (n : ℕ). drop n whole) at

-- between a place and the next that no more places stand below nothing is seen
pub none-between : (kinds : List (Option Kind)) (changes : List FiledChange) (filed : Filed)
    → filed.count ≤ length changes → AreFiled (numbers_in (take filed.count changes)) filed
    → (place next : ℕ) → place ≤ next → next ≤ filed.count
    → all_below next (lists_seen kinds filed.lists) ≤ all_below place (lists_seen kinds filed.lists)
    → seen_by_kinds kinds (drop next changes) ≡ seen_by_kinds kinds (drop place changes)
none-between kinds changes filed within are place next after low few =
    let more : ℕ = next - place in
    let at : place + more ≡ next = omega (arith, after) in
    let middle : List FiledChange = take more (drop place changes) in
    let first = below-seen kinds changes filed within are place (omega (arith, after, low)) in
    let second = below-seen kinds changes filed within are next low in
    let parts = ap (λ (l : List Seen). length l) (seen-parts kinds place (take next changes)) in
    let both =
    length-append (seen_by_kinds kinds (take place (take next changes)))
    (seen_by_kinds kinds (drop place (take next changes))) in
    let front =
    ap (λ (l : List FiledChange). length (seen_by_kinds kinds l))
    (take-take place next changes after) in
    let back =
    ap (λ (l : List FiledChange). length (seen_by_kinds kinds l))
    (ap (λ (n : ℕ). drop place (take n changes)) (sym at) ∙ drop-take place more changes) in
    let none : length (seen_by_kinds kinds middle) ≡ 0 =
    omega (arith, first, second, parts, both, front, back, few) in
    sym (
    seen-parts kinds more (drop place changes)
    ∙ ap (λ (l : List Seen). l ++ seen_by_kinds kinds (drop more (drop place changes)))
    (no-length (seen_by_kinds kinds middle) none)
    ∙ ap (seen_by_kinds kinds) (drop-drop more place changes ∙ ap (λ (n : ℕ). drop n changes) at)
    )
  where
    no-length : (l : List Seen) → length l ≡ 0 → l ≡ []
    no-length [] none = refl
    no-length (one ∷ others) none = absurd (omega (arith, none))
