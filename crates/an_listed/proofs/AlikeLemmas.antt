-- A row in place of one that has the same parts changes no list and no count.
use Rattle.std.proofs.Common.{◌≡◌, ℕ, ◌+◌, ◌<◌, List, [], ◌∷◌, ◌++◌, length, get_or, map, take, sym, ap, ap₂, ◌∙◌, arith}
use Rattle.std.proofs.Math.ListN.{set}
use Rattle.std.specs.List.{sum_by}
use Rattle.std.proofs.lemmas.List.{get_or-map, length-set, map-set, set-get_or, take_more}
use Rattle.an_base.specs.declared.span.TermTotal.{TermTotal}
use Rattle.an_postings.specs.Postings.{Lists, count_in, places_in}
use Rattle.an_slots.specs.Places.{places_from}
use Rattle.an_slots.specs.Rows.{AreCounted, AreListed, is_posted, parts_at, parts_in}
use Rattle.an_slots.specs.Slot.{Slot}
use Rattle.an_slots.proofs.ShownLemmas.{places_from-map, sum_by-map}
use Rattle.an_listed.specs.Keys.{empty_term, keys_by, parts_by}
use Rattle.an_listed.specs.Stands.{AreOf, Stands}
use Rattle.an_listed.specs.declared.filed.Filed.{Filed}
use Rattle.an_listed.specs.declared.kind.Kind.{Kind}
use Rattle.an_listed.specs.declared.kind.Kind.TheVariants.{Words, Anywhere, Whole}
use Rattle.an_listed.specs.declared.register.Register.{Register}
use Rattle.an_listed.proofs.KeyLemmas.{keys-alike}

-- ---- lists of terms

-- both begin alike, one term further
pub alike_more : (xs ys : List TermTotal) (i : ℕ) → i < length xs → i < length ys
    → take i xs ≡ take i ys
    → get_or (map (λ e. e.term) xs) i [] ≡ get_or (map (λ e. e.term) ys) i []
    → get_or (map (λ e. e.total) xs) i 0 ≡ get_or (map (λ e. e.total) ys) i 0
    → take (i + 1) xs ≡ take (i + 1) ys
alike_more xs ys i h k same term total =
    let term_is : (get_or xs i empty_term).term ≡ (get_or ys i empty_term).term =
    sym (get_or-map (λ (e : TermTotal). e.term) xs i empty_term [] h) ∙ term
    ∙ get_or-map (λ (e : TermTotal). e.term) ys i empty_term [] k in
    let total_is : (get_or xs i empty_term).total ≡ (get_or ys i empty_term).total =
    sym (get_or-map (λ (e : TermTotal). e.total) xs i empty_term 0 h) ∙ total
    ∙ get_or-map (λ (e : TermTotal). e.total) ys i empty_term 0 k in
    let one : get_or xs i empty_term ≡ get_or ys i empty_term =
    ap₂ (λ (t : List ℕ) (n : ℕ). record { term = t; total = n }) term_is total_is in
    take_more xs i empty_term h ∙ ap₂ (λ (l : List TermTotal) (e : TermTotal). l ++ e ∷ []) same one
    ∙ sym (take_more ys i empty_term k)

-- ---- rows

module _ {A : Type 0} (parts_of : A → List (Slot × ℕ)) (rows : List A) (i : ℕ) (old new : A)
    (h : i < length rows) (is : old ≡ get_or rows i old) (same : parts_of new ≡ parts_of old) where
  map-alike : map parts_of (set rows i new) ≡ map parts_of rows
  map-alike =
      map-set parts_of rows i new
      ∙ ap (set (map parts_of rows) i)
      (same ∙ ap parts_of is ∙ sym (get_or-map parts_of rows i old (parts_of old) h))
      ∙ set-get_or (map parts_of rows) i (parts_of old)

  AreListed-alike : (lists : Slot → List ℕ) → AreListed parts_of lists rows
      → AreListed parts_of lists (set rows i new)
  AreListed-alike lists stands = λ j slot. (
      ap (λ (f : Slot → List ℕ). f slot) stands
      ∙ sym (places_from-map parts_of (is_posted slot) 0 rows)
      ∙ ap (places_from (is_posted slot) 0) (sym map-alike)
      ∙ places_from-map parts_of (is_posted slot) 0 (set rows i new)) j

  AreCounted-alike : (counts : Slot → ℕ) → AreCounted parts_of counts rows
      → AreCounted parts_of counts (set rows i new)
  AreCounted-alike counts stands = λ j slot. (
      ap (λ (f : Slot → ℕ). f slot) stands
      ∙ sym (sum_by-map parts_of (λ ps. parts_at ps slot) rows)
      ∙ ap (sum_by (λ ps. parts_at ps slot)) (sym map-alike)
      ∙ sum_by-map parts_of (λ ps. parts_at ps slot) (set rows i new)) j

module _ (rows : List Filed) (place : ℕ) (old new : Filed) (h : place < length rows)
    (is : old ≡ get_or rows place old) (same : keys_by Words new ≡ keys_by Words old) where
  of-alike : (kind : Kind) (lists : Lists) → AreOf kind lists rows
      → AreOf kind lists (set rows place new)
  of-alike kind lists of =
      let alike = ap parts_in (keys-alike old new same kind) in record {
        places =
            AreListed-alike (parts_by kind) rows place old new h is alike
            (places_in lists) of.places;
        counts =
            AreCounted-alike (parts_by kind) rows place old new h is alike
            (count_in lists) of.counts;
      }

  pub stands-alike : (r : Register) → Stands r rows → Stands r (set rows place new)
  stands-alike r stands = record {
    words = of-alike Words r.words stands.words;
    anywhere = of-alike Anywhere r.anywhere stands.anywhere;
    whole = of-alike Whole r.whole stands.whole;
    few = let e = length-set rows place new in let few = stands.few in omega (arith, e, few);
  }
