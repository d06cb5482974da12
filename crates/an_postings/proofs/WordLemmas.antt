-- What is told of counts that stand for rows, by the words of the rows.
use Rattle.std.proofs.Common.{◌≡◌, ℕ, ◌+◌, Bool, true, false, cond, ◌&&◌, List, [], ◌∷◌, map, filter, Option, Some, None, sym, ap, ◌∙◌, refl, arith}
use Rattle.std.specs.Prelude.{bytes_eq, count_by}
use Rattle.std.specs.List.{AllByRecursion, flat_map}
use Rattle.std.proofs.lemmas.List.Concat.{flat_map-cons}
use Rattle.std.proofs.lemmas.List.Sums.{sum_by-append, sum_by-cons}
use Rattle.an_base.specs.Totals.{capped, totals_of, with_prefix}
use Rattle.an_slots.specs.Places.{Rises, has}
use Rattle.an_slots.specs.Rows.{AreCounted, Row, parts_in}
use Rattle.an_slots.specs.Texts.{under}
use Rattle.an_slots.proofs.ShownLemmas.{AreCounted-map}
use Rattle.an_postings.specs.Postings.{Lists, count_in}
use Rattle.an_postings.specs.Totals.{Climbs, told_from}
use Rattle.an_postings.specs.Told.{number_at, number_in, number_of_term}
use Rattle.an_postings.proofs.ListedLemmas.{listed-Tells, listed-number}
use Rattle.an_postings.proofs.ToldLemmas.{capped-zero, told-Tells, Tells-one}

capped-joined : (n s t : ℕ) → capped s ≡ capped t → capped (capped n + s) ≡ capped (n + t)
unfolding capped
capped-joined n s t h = omega (arith, h)

capped-nothing : (s t : ℕ) → capped s ≡ capped t → capped (0 + s) ≡ capped t
unfolding capped
capped-nothing s t h = omega (arith, h)

-- rows of any type, each of which is shown as a row with terms, and has words
module _ {A : Type 0} (shown : A → Option Row) (words : A → List (List ℕ)) (passes : A → Bool)
    (manifest classes : List ℕ) where
  -- the row counts its words where it passes, and nothing else
  abbrev pub CountsWords : A → Type 0
  CountsWords row =
      (term : List ℕ)
      → number_at manifest classes term (shown row)
      ≡ cond (passes row) (capped (count_by (bytes_eq term) (words row))) 0

  -- a live row does, whose terms are the totals of its words
  pub live-counts : (row : A) (kept : Row) → shown row ≡ Some kept
      → kept.terms ≡ totals_of (words row)
      → (bytes_eq manifest kept.manifest && has kept.class classes) ≡ passes row → CountsWords row
  live-counts row kept is terms pass term =
      ap (number_at manifest classes term) is
      ∙ ap (λ (b : Bool). cond b (number_of_term term kept.terms) 0) pass
      ∙ ap (λ (n : ℕ). cond (passes row) n 0)
      (ap (number_of_term term) terms ∙ listed-number (words row) term)

  -- a tombstone does
  pub tombstone-counts : (row : A) → shown row ≡ None → words row ≡ [] → CountsWords row
  tombstone-counts row is none term =
      ap (number_at manifest classes term) is ∙ nothing (passes row)
      ∙ ap (λ (ws : List (List ℕ)). cond (passes row) (capped (count_by (bytes_eq term) ws)) 0)
      (sym none)
    where
      nothing : (b : Bool) → 0 ≡ cond b (capped 0) 0
      nothing true = capped-zero 0 refl
      nothing false = refl

  -- how often a term occurs in the rows is how often it is among the words of those that pass
  pub number-words : (rows : List A) → AllByRecursion CountsWords rows → (term : List ℕ)
      → capped (number_in manifest classes (map shown rows) term)
      ≡ capped (count_by (bytes_eq term) (flat_map words (filter passes rows)))
  number-words [] all term = refl
  number-words (row ∷ rows) all term =
      ap capped (sum_by-cons (number_at manifest classes term) (shown row) (map shown rows)
      ∙ ap (λ (n : ℕ). n + number_in manifest classes (map shown rows) term) (all.0 term))
      ∙ step (passes row) (number_in manifest classes (map shown rows) term)
      (number-words rows all.1 term)
    where
      step : (b : Bool) (s : ℕ)
          → capped s ≡ capped (count_by (bytes_eq term) (flat_map words (filter passes rows)))
          → capped (cond b (capped (count_by (bytes_eq term) (words row))) 0 + s)
          ≡ capped (count_by (bytes_eq term)
          (flat_map words (cond b (row ∷ filter passes rows) (filter passes rows))))
      step true s h =
          capped-joined (count_by (bytes_eq term) (words row)) s
          (count_by (bytes_eq term) (flat_map words (filter passes rows))) h
          ∙ ap capped (sym (ap (count_by (bytes_eq term))
          (flat_map-cons words row (filter passes rows))
          ∙ sum_by-append (λ t. cond (bytes_eq term t) 1 0) (words row)
          (flat_map words (filter passes rows))))
      step false s h =
          capped-nothing s (count_by (bytes_eq term) (flat_map words (filter passes rows))) h

  -- what is told is the totals of these words
  pub words-told : (counts : Lists) (rows : List A)
      → AreCounted (λ row. parts_in (shown row)) (count_in counts) rows → Rises 0 classes
      → Climbs (under manifest counts) → AllByRecursion CountsWords rows → (prefix : List ℕ)
      → told_from prefix classes (under manifest counts)
      ≡ totals_of (with_prefix prefix (flat_map words (filter passes rows)))
  words-told counts rows sums rises climbs all prefix =
      Tells-one prefix (number_in manifest classes (map shown rows)) _ _
      (told-Tells counts (map shown rows)
      (AreCounted-map shown parts_in (count_in counts) rows sums) manifest prefix classes
      rises climbs)
      (listed-Tells prefix (number_in manifest classes (map shown rows))
      (flat_map words (filter passes rows)) (number-words rows all))
