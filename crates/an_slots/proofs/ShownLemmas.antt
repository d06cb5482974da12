-- Rows of one type that are shown as rows of another: what stands for these stands for those.
use Rattle.std.proofs.Common.{◌≡◌, ℕ, ◌+◌, Bool, cond, List, [], ◌∷◌, map, sym, ap, ◌∙◌, refl}
use Rattle.std.specs.List.{sum_by}
use Rattle.std.proofs.lemmas.List.Sums.{sum_by-cons}
use Rattle.an_slots.specs.Places.{places_from}
use Rattle.an_slots.specs.Rows.{AreCounted, AreListed, is_posted, parts_at}
use Rattle.an_slots.specs.Slot.{Slot}

module _ {A B : Type 0} (shown : A → B) where
  pub places_from-map : (test : B → Bool) (place : ℕ) (rows : List A)
      → places_from test place (map shown rows) ≡ places_from (λ row. test (shown row)) place rows
  places_from-map test place [] = refl
  places_from-map test place (row ∷ rows) =
      ap (λ (rest : List ℕ). cond (test (shown row)) (place ∷ rest) rest)
      (places_from-map test (place + 1) rows)

  pub sum_by-map : (number : B → ℕ) (rows : List A)
      → sum_by number (map shown rows) ≡ sum_by (λ row. number (shown row)) rows
  sum_by-map number [] = refl
  sum_by-map number (row ∷ rows) =
      sum_by-cons number (shown row) (map shown rows)
      ∙ ap (λ (rest : ℕ). number (shown row) + rest) (sum_by-map number rows)
      ∙ sym (sum_by-cons (λ row. number (shown row)) row rows)

  module _ (parts : B → List (Slot × ℕ)) where
    pub AreListed-map : (lists : Slot → List ℕ) (rows : List A)
        → AreListed (λ row. parts (shown row)) lists rows → AreListed parts lists (map shown rows)
    AreListed-map lists rows listed =
        listed ∙ (λ i slot. (sym (places_from-map (λ row. is_posted slot (parts row)) 0 rows)) i)

    pub AreCounted-map : (counts : Slot → ℕ) (rows : List A)
        → AreCounted (λ row. parts (shown row)) counts rows
        → AreCounted parts counts (map shown rows)
    AreCounted-map counts rows counted =
        counted ∙ (λ i slot. (sym (sum_by-map (λ row. parts_at (parts row) slot) rows)) i)
