-- What a row is found by.
use Rattle.std.proofs.Common.{◌≡◌, ℕ, zero, suc, ◌+◌, ◌<◌, ◌≤◌, Bool, true, false, eqb, ◌&&◌, ◌||◌, List, [], ◌∷◌, length, get_or, drop, map, Option, Some, None, option_map, sym, ap, ◌∙◌, refl}
use Rattle.std.specs.Prelude.{bytes_eq}
use Rattle.std.specs.List.{list_any}
use Rattle.an_base.specs.TextSet.{has_text}
use Rattle.an_base.specs.declared.span.TermTotal.{TermTotal}
use Rattle.an_base.proofs.AscendLemmas.{bytes_eq-turned}
use Rattle.an_slots.specs.Rows.{Row, is_posted, parts, parts_of}
use Rattle.an_slots.specs.Slot.{Slot, same_slot, slot_of}
use Rattle.an_slots.proofs.PartLemmas.{parts-done, parts-listed}
use Rattle.an_slots.proofs.SlotLemmas.{same_slot-refl}
use Rattle.an_listed.specs.Keys.{keyed, keys_by, parts_from, slot_at, total_at, word_keys}
use Rattle.an_listed.specs.declared.filed.Filed.{Filed}
use Rattle.an_listed.specs.declared.kind.Kind.{Kind}
use Rattle.an_listed.specs.declared.kind.Kind.TheVariants.{Words}

-- ---- one term after the other

dropped : (slot : Slot) (m : List ℕ) (c : ℕ) (ts : List TermTotal) (i : ℕ)
    → is_posted slot (parts m c (drop i ts)) ≡ true → is_posted slot (parts m c ts) ≡ true
dropped slot m c [] zero h = h
dropped slot m c [] (suc i) h = h
dropped slot m c (t ∷ ts) zero h = h
dropped slot m c (t ∷ ts) (suc i) h =
    later (same_slot slot (slot_of m t.term c)) (is_posted slot (parts m c ts))
    (dropped slot m c ts i h)
  where
    later : (a b : Bool) → b ≡ true → (a || b) ≡ true
    later true b e = refl
    later false b e = e

module _ (keys : Row) (i : ℕ) where
  pub keys-next : i < length keys.terms
      → parts_from keys i ≡ (slot_at keys i, total_at keys i) ∷ parts_from keys (i + 1)
  keys-next h =
      parts-listed keys.manifest keys.class keys.terms i
      (get_or (map (λ t. t.term) keys.terms) i []) (total_at keys i) h refl refl

  pub keys-done : length keys.terms ≤ i → parts_from keys i ≡ []
  keys-done h = parts-done keys.manifest keys.class keys.terms i h

  -- each is one of all
  pub keys-posted : i < length keys.terms → is_posted (slot_at keys i) (parts_of keys) ≡ true
  keys-posted h =
      let slot = slot_at keys i in
      let first : is_posted slot ((slot, total_at keys i) ∷ parts_from keys (i + 1)) ≡ true =
      ap (λ b. b || is_posted slot (parts_from keys (i + 1))) (same_slot-refl slot) in
      dropped slot keys.manifest keys.class keys.terms i (ap (is_posted slot) (keys-next h) ∙ first)

-- ---- where rows are found

pub any-term : (t : List ℕ) (ts : List TermTotal)
    → list_any (λ x. bytes_eq t x.term) ts ≡ has_text t (map (λ e. e.term) ts)
any-term t [] = refl
any-term t (x ∷ ts) =
    ap (λ (b : Bool). b || list_any (λ x. bytes_eq t x.term) ts) (bytes_eq-turned t x.term)
    ∙ ap (λ (b : Bool). bytes_eq x.term t || b) (any-term t ts)

-- under its manifest and class by each of its terms
pub posted-row : (m t : List ℕ) (c : ℕ) (own : List ℕ) (class : ℕ) (ts : List TermTotal)
    → is_posted (slot_of m t c) (parts own class ts)
    ≡ ((eqb c class && bytes_eq m own) && list_any (λ x. bytes_eq t x.term) ts)
posted-row m t c own class [] = none (eqb c class && bytes_eq m own)
  where
    none : (b : Bool) → false ≡ (b && false)
    none true = refl
    none false = refl
posted-row m t c own class (x ∷ ts) =
    ap (λ b. (bytes_eq m own && (bytes_eq t x.term && eqb c class)) || b)
    (posted-row m t c own class ts)
    ∙ step (bytes_eq m own) (bytes_eq t x.term) (eqb c class)
    (list_any (λ (x : TermTotal). bytes_eq t x.term) ts)
  where
    step : (a b d r : Bool) → ((a && (b && d)) || ((d && a) && r)) ≡ ((d && a) && (b || r))
    step true true true r = refl
    step true true false r = refl
    step true false true r = refl
    step true false false r = refl
    step false b true r = refl
    step false b false r = refl

pub posted-keys : (m t : List ℕ) (c : ℕ) (keys : Row)
    → is_posted (slot_of m t c) (parts_of keys)
    ≡ ((eqb c keys.class && bytes_eq m keys.manifest) && has_text t (map (λ e. e.term) keys.terms))
posted-keys m t c keys =
    posted-row m t c keys.manifest keys.class keys.terms
    ∙ ap (λ b. (eqb c keys.class && bytes_eq m keys.manifest) && b) (any-term t keys.terms)

-- ---- rows that are found alike

again : (kind : Kind) (row : Filed) → keys_by kind row ≡ option_map (keyed kind) (keys_by Words row)
again kind row = by (word_keys row)
  where
    by : (keys : Option Row)
        → option_map (keyed kind) keys ≡ option_map (keyed kind) (option_map (keyed Words) keys)
    by None = refl
    by (Some keys) = refl

-- what is found by the same words is found alike by lists of each kind
pub keys-alike : (old new : Filed) → keys_by Words new ≡ keys_by Words old → (kind : Kind)
    → keys_by kind new ≡ keys_by kind old
keys-alike old new same kind =
    again kind new ∙ ap (option_map (keyed kind)) same ∙ sym (again kind old)
