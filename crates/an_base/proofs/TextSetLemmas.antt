-- Texts one behind the other, and what is among distinct texts.
use Rattle.std.proofs.Common.{◌≡◌, ℕ, zero, suc, ◌-◌, ◌<◌, ◌≤◌, List, [], ◌∷◌, ◌++◌, true, get_or, length, map, nat_le, take, slice_range, refl, sym, subst, ap, ap₂, ◌∙◌, arith, append_assoc, length-append, IsUtf8, Less, Equal, Greater, String, string_bytes, string_cmp}
use Rattle.std.specs.BTreeSet.{insert_key}
use Rattle.std.specs.Cmp.Lexicographic.{slice_cmp}
use Rattle.std.specs.List.{AllByRecursion, list_all}
use Rattle.std.specs.List.Sorted.{IsStrictlySortedBy}
use Rattle.std.specs.Ordering.{match_ordering, nat_cmp}
use Rattle.std.specs.Str.{is_utf8}
use Rattle.std.proofs.lemmas.Bool.{and_from, and_parts, leb-true}
use Rattle.std.proofs.lemmas.Bool.Decides.{nat_tests, Decides-eqb}
use Rattle.std.proofs.lemmas.List.{drop_at, take_all}
use Rattle.std.proofs.lemmas.List.Folds.{list_all-append}
use Rattle.std.proofs.lemmas.List.Sums.{AllPass-from_list_all}
use Rattle.std.proofs.lemmas.Str.{is_utf8-from_IsUtf8}
use Rattle.an_base.specs.TextSet.{Ascend, ArePacked, are_ends, pieces, start_of}
use Rattle.an_base.proofs.AscendLemmas.{ascend-front}
use Rattle.an_base.proofs.KeptLemmas.{prefix_range}

-- ---- pieces

ends_within : (start : ℕ) (ends : List ℕ) (total : ℕ) → are_ends start ends total ≡ true
    → start ≤ total
ends_within start [] total h =
    let same : start ≡ total = (Decides-eqb start total).0 h in omega arith
ends_within start (end ∷ ends) total h =
    let parts = and_parts (nat_le start end) _ h in
    let here : start ≤ end = leb-true _ _ parts.0 in
    let later : end ≤ total = ends_within end ends total parts.1 in
    omega arith

pub record IsNext (start end : ℕ) (ends : List ℕ) (total : ℕ) : Type 0 where
  pub up : start ≤ end
  pub within : end ≤ total
  pub rest : are_ends end ends total ≡ true

pub next_end : (start end : ℕ) (ends : List ℕ) (total : ℕ)
    → are_ends start (end ∷ ends) total ≡ true → IsNext start end ends total
next_end start end ends total h =
    let parts = and_parts (nat_le start end) _ h in
    record {
      up = leb-true _ _ parts.0;
      within = ends_within end ends total parts.1;
      rest = parts.1;
    }

last_piece : (bytes text : List ℕ) (start end : ℕ) → start ≡ length bytes
    → end ≡ length (bytes ++ text) → slice_range (bytes ++ text) start end ≡ text
last_piece bytes text start end s e =
    let long : length text ≤ end - start = omega (arith, length-append bytes text) in
    ap (take (end - start)) (drop_at bytes text start (sym s)) ∙ take_all (end - start) text long

pub pieces_followed : (start : ℕ) (ends bytes text : List ℕ) (end : ℕ)
    → are_ends start ends (length bytes) ≡ true → end ≡ length (bytes ++ text)
    → pieces start (ends ++ end ∷ []) (bytes ++ text) ≡ pieces start ends bytes ++ text ∷ []
pieces_followed start [] bytes text end h e =
    ap (λ piece. piece ∷ [])
    (last_piece bytes text start end ((Decides-eqb start (length bytes)).0 h) e)
pieces_followed start (next ∷ ends) bytes text end h e =
    let here = next_end start next ends (length bytes) h in
    ap₂ (λ piece later. piece ∷ later) (prefix_range bytes text start next here.up here.within)
    (pieces_followed next ends bytes text end here.rest e)

pub ends_followed : (start : ℕ) (ends : List ℕ) (total end later : ℕ)
    → are_ends start ends total ≡ true → total ≤ end → end ≡ later
    → are_ends start (ends ++ end ∷ []) later ≡ true
ends_followed start [] total end later h up e =
    let same : start ≡ total = (Decides-eqb start total).0 h in
    and_from _ _ (up_to start end (omega arith)) ((Decides-eqb end later).1 e)
  where
    up_to : (a b : ℕ) → a ≤ b → nat_le a b ≡ true
    up_to a b h = grind (arith, nat_tests)
ends_followed start (next ∷ ends) total end later h up e =
    let parts = and_parts (nat_le start next) _ h in
    and_from _ _ parts.0 (ends_followed next ends total end later parts.1 up e)

-- ---- the piece at a place

pub length-pieces : (start : ℕ) (ends bytes : List ℕ)
    → length (pieces start ends bytes) ≡ length ends
length-pieces start [] bytes = refl
length-pieces start (end ∷ ends) bytes = ap (λ n. suc n) (length-pieces end ends bytes)

pub record IsPiece (places bytes : List ℕ) (start place : ℕ) (text : List ℕ) : Type 0 where
  pub up : start ≤ get_or places place 0
  pub inside : get_or places place 0 ≤ length bytes
  pub is : slice_range bytes start (get_or places place 0) ≡ text

piece-later : (start : ℕ) (ends bytes : List ℕ) (before : ℕ)
    → are_ends start ends (length bytes) ≡ true → suc before < length ends
    → IsPiece ends bytes (get_or ends before 0) (suc before)
    (get_or (pieces start ends bytes) (suc before) [])
piece-later start [] bytes before h within = absurd (omega arith)
piece-later start (end ∷ []) bytes before h within = absurd (omega arith)
piece-later start (end ∷ next ∷ ends) bytes zero h within =
    let here =
    next_end end next ends (length bytes)
    (next_end start end (next ∷ ends) (length bytes) h).rest in
    record { up = here.up; inside = here.within; is = refl }
piece-later start (end ∷ next ∷ ends) bytes (suc before) h within =
    let rest =
    piece-later end (next ∷ ends) bytes before
    (next_end start end (next ∷ ends) (length bytes) h).rest (omega arith) in
    record { up = rest.up; inside = rest.inside; is = rest.is }

pub piece_at : (ends bytes : List ℕ) (place : ℕ) → are_ends 0 ends (length bytes) ≡ true
    → place < length ends
    → IsPiece ends bytes (start_of ends place) place (get_or (pieces 0 ends bytes) place [])
piece_at [] bytes place h within = absurd (omega arith)
piece_at (end ∷ ends) bytes zero h within =
    let here = next_end 0 end ends (length bytes) h in
    record { up = here.up; inside = here.within; is = refl }
piece_at (end ∷ ends) bytes (suc before) h within = piece-later 0 (end ∷ ends) bytes before h within

pub start-later : (ends : List ℕ) (place : ℕ) → ¬ (place ≡ 0)
    → get_or ends (place - 1) 0 ≡ start_of ends place
start-later ends zero h = absurd (h refl)
start-later ends (suc before) h =
    let one : suc before - 1 ≡ before = omega arith in ap (λ k. get_or ends k 0) one

-- ---- one text more behind the others

pub record IsFollowed (old_ends old_bytes text new_ends new_bytes : List ℕ) : Type 0 where
  pub ends : are_ends 0 new_ends (length new_bytes) ≡ true
  pub texts : pieces 0 new_ends new_bytes ≡ pieces 0 old_ends old_bytes ++ text ∷ []

pub followed : (old_ends old_bytes text ends bytes : List ℕ) (end : ℕ)
    → are_ends 0 old_ends (length old_bytes) ≡ true → bytes ≡ old_bytes ++ text
    → ends ≡ old_ends ++ end ∷ []
    → end ≡ length bytes → IsFollowed old_ends old_bytes text ends bytes
followed old_ends old_bytes text ends bytes end h b e l =
    let last : end ≡ length (old_bytes ++ text) = l ∙ ap length b in
    record {
      ends =
          ap (λ places. are_ends 0 places (length bytes)) e
          ∙ ends_followed 0 old_ends (length old_bytes) end (length bytes) h
          (omega (arith, length-append old_bytes text)) l;
      texts = ap₂ (pieces 0) e b ∙ pieces_followed 0 old_ends old_bytes text end h last;
    }

-- ---- packed texts

pub packed-none : ArePacked [] []
unfolding IsStrictlySortedBy
packed-none = record { ends = refl; order = tt; utf8 = refl }

pub utf8-at : (texts : List (List ℕ)) (place : ℕ) → list_all is_utf8 texts ≡ true
    → place < length texts → is_utf8 (get_or texts place []) ≡ true
utf8-at texts place all within = AllPass-from_list_all is_utf8 texts all place [] within

pub packed-followed : (old_ends old_bytes text ends bytes : List ℕ) (value : List (List ℕ))
    → ArePacked old_ends old_bytes → IsFollowed old_ends old_bytes text ends bytes
    → pieces 0 old_ends old_bytes ≡ value → Ascend (value ++ text ∷ []) → IsUtf8 text
    → ArePacked ends bytes
packed-followed old_ends old_bytes text ends bytes value packed follows same order utf8 = record {
  ends = follows.ends;
  order = subst Ascend (sym (follows.texts ∙ ap (λ texts. texts ++ text ∷ []) same)) order;
  utf8 =
      ap (list_all is_utf8) follows.texts
      ∙ list_all-append is_utf8 (pieces 0 old_ends old_bytes) (text ∷ [])
      ∙ and_from _ _ packed.utf8 (and_from _ _ (is_utf8-from_IsUtf8 text utf8) refl);
}

-- ---- as a set keeps them

below-texts : {Y : Type 0} (key : String Y) (keys : List (String Y))
    → AllByRecursion (λ k. string_cmp key k ≡ Less) keys
    → AllByRecursion (λ t. slice_cmp nat_cmp (string_bytes key) t ≡ Less) (map string_bytes keys)
below-texts key [] all = tt
below-texts key (k ∷ ks) all = (all.0, below-texts key ks all.1)

pub ascend-texts : {Y : Type 0} (keys : List (String Y)) → IsStrictlySortedBy string_cmp keys
    → Ascend (map string_bytes keys)
unfolding IsStrictlySortedBy
ascend-texts [] sorted = tt
ascend-texts (k ∷ ks) sorted = (below-texts k ks sorted.0, ascend-texts ks sorted.1)

pub texts-insert : {Y : Type 0} (keys : List (String Y)) (key : String Y)
    → map string_bytes (insert_key string_cmp keys key)
    ≡ insert_key (slice_cmp nat_cmp) (map string_bytes keys) (string_bytes key)
texts-insert [] key = refl
texts-insert (k ∷ ks) key =
    elim (string_cmp key k) as (λ o.
    map string_bytes (match_ordering o (key ∷ k ∷ ks) (k ∷ ks) (k ∷ insert_key string_cmp ks key))
    ≡ match_ordering o (string_bytes key ∷ string_bytes k ∷ map string_bytes ks)
    (string_bytes k ∷ map string_bytes ks)
    (string_bytes k ∷ insert_key (slice_cmp nat_cmp) (map string_bytes ks) (string_bytes key))) [
      | Less ↦ refl
      | Equal ↦ refl
      | Greater ↦ ap (λ ts. string_bytes k ∷ ts) (texts-insert ks key)
    ]

-- the first of what is left stands behind those so far
pub ascend-next : (front : List (List ℕ)) (text : List ℕ) (rest : List (List ℕ))
    → Ascend (front ++ text ∷ rest) → Ascend (front ++ text ∷ [])
ascend-next front text rest ascends =
    ascend-front (front ++ text ∷ []) rest
    (subst Ascend (sym (append_assoc front (text ∷ []) rest)) ascends)
