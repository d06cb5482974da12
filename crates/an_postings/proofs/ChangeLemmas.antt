-- What is changed under a text, and under two texts, one in the other.
use Rattle.std.proofs.Common.{◌≡◌, ℕ, ◌+◌, ◌^◌, ◌<◌, ◌≤◌, Bool, true, false, cond, eqb, not, ◌&&◌, ◌||◌, List, [], sym, ap, ◌∙◌, subst, refl, arith}
use Rattle.std.specs.Prelude.{bytes_eq}
use Rattle.std.proofs.lemmas.Bool.{and_parts, eqb-true}
use Rattle.std.proofs.lemmas.Slice.Eq.{bytes_eq-Decides}
use Rattle.an_slots.specs.Slot.{Slot, at, same_slot, slot_of}
use Rattle.an_slots.specs.Texts.{under}
use Rattle.an_slots.proofs.NestLemmas.{IsWritten, written_here}
use Rattle.an_postings.specs.Change.{IsChangedUnder}
use Rattle.an_postings.specs.Lists.{more_often}
use Rattle.an_postings.specs.Postings.{IsSpentAt}

module _ {A : Type 0} (text : List ℕ) (related : List A → List A → Type 0) where
  pub changed-written : {old new : List (List ℕ × List A)} {v w : List A}
      → IsWritten old new text v w → related v w → IsChangedUnder text related old new
  changed-written {old} {new} {v} {w} wr h = record {
    here =
        subst (λ (x : List A). related x (under text new)) (sym wr.there)
        (subst (related v) (sym (written_here wr)) h);
    others = λ t other. wr.after t ∙ ap (λ (b : Bool). cond b w (under t old)) other;
  }

  -- where nothing stands under the text, and nothing is related to nothing
  pub changed-nothing : (old : List (List ℕ × List A)) → under text old ≡ [] → related [] []
      → IsChangedUnder text related old old
  changed-nothing old none h = record {
    here = subst (λ (x : List A). related x x) (sym none) h;
    others = λ t other. refl;
  }

-- ---- a count that fits in 128 bits

same_slot-is : (a b : Slot) → same_slot a b ≡ true → a ≡ b
same_slot-is a b same =
    let outer =
    and_parts (bytes_eq a.manifest b.manifest)
    (bytes_eq a.term b.term && eqb a.class b.class) same in
    let inner = and_parts (bytes_eq a.term b.term) (eqb a.class b.class) outer.1 in
    let manifest = (bytes_eq-Decides a.manifest b.manifest).0 outer.0 in
    let term = (bytes_eq-Decides a.term b.term).0 inner.0 in
    let class = eqb-true a.class b.class inner.1 in
    λ i. record { manifest = manifest i; term = term i; class = class i }

-- at a slot whose count has room for so many times more it is just the sum
pub more-fits : (slot : Slot) (times : ℕ) (counts : Slot → ℕ) → counts slot + times < 2 ^ 128
    → at slot (more_often times) counts ≡ at slot (λ m. m + times) counts
more-fits slot times counts fits = λ i other. (each other (same_slot other slot) refl) i
  where
    each : (other : Slot) (b : Bool) → same_slot other slot ≡ b
        → cond b (more_often times (counts other)) (counts other)
        ≡ cond b (counts other + times) (counts other)
    each other true is =
        let same = ap counts (same_slot-is other slot is) in omega (arith, same, fits)
    each other false is = refl

-- ---- of each slot: it is on this manifest and of this term, or it is as it was

module _ {A : Type 0} (m t : List ℕ) (related : List A → List A → Type 0)
    (old new : List (List ℕ × List (List ℕ × List A)))
    (changed : IsChangedUnder m (IsChangedUnder t related) old new) where
  nested : (P : Bool → Bool → List A → List A → Type 0) → ((b : Bool) (x : List A) → P false b x x)
      → ((x : List A) → P true false x x)
      → P true true (under t (under m new)) (under t (under m old))
      → (slot : Slot)
      → P (bytes_eq slot.manifest m) (bytes_eq slot.term t)
      (under slot.term (under slot.manifest new)) (under slot.term (under slot.manifest old))
  nested P out past here slot = manifest (bytes_eq slot.manifest m) refl
    where
      term : slot.manifest ≡ m → (b : Bool) → bytes_eq slot.term t ≡ b
          → P true b (under slot.term (under slot.manifest new))
          (under slot.term (under slot.manifest old))
      term e true is =
          subst (λ (x : List ℕ).
          P true true (under x (under slot.manifest new)) (under x (under slot.manifest old)))
          (sym ((bytes_eq-Decides slot.term t).0 is))
          (subst (λ (x : List ℕ). P true true (under t (under x new)) (under t (under x old)))
          (sym e) here)
      term e false is =
          subst (λ (x : List ℕ).
          P true false (under slot.term (under x new)) (under slot.term (under x old)))
          (sym e)
          (subst (λ (n : List A). P true false n (under slot.term (under m old)))
          (sym (changed.here.others slot.term is)) (past (under slot.term (under m old))))

      manifest : (b : Bool) → bytes_eq slot.manifest m ≡ b
          → P b (bytes_eq slot.term t) (under slot.term (under slot.manifest new))
          (under slot.term (under slot.manifest old))
      manifest true is = term ((bytes_eq-Decides slot.manifest m).0 is) (bytes_eq slot.term t) refl
      manifest false is =
          subst (λ (l : List (List ℕ × List A)). P false (bytes_eq slot.term t) (under slot.term l)
          (under slot.term (under slot.manifest old)))
          (sym (changed.others slot.manifest is))
          (out (bytes_eq slot.term t) (under slot.term (under slot.manifest old)))

  module _ {R : Type 0} (read : List A → ℕ → R) where
    abbrev seen : List (List ℕ × List (List ℕ × List A)) → Slot → R
    seen lists slot = read (under slot.term (under slot.manifest lists)) slot.class

    pub nested-same : ((c : ℕ) → read (under t (under m new)) c ≡ read (under t (under m old)) c)
        → seen new ≡ seen old
    nested-same h =
        λ i slot. (nested (λ a b n o. (c : ℕ) → read n c ≡ read o c) (λ b x c. refl)
        (λ x c. refl) h slot slot.class) i

    pub nested-change : (class : ℕ) (change : R → R)
        → ((c : ℕ)
        → read (under t (under m new)) c
        ≡ cond (eqb c class) (change (read (under t (under m old)) c))
        (read (under t (under m old)) c))
        → seen new ≡ at (slot_of m t class) change (seen old)
    nested-change class change h = λ i slot.
        (nested (λ a b n o.
        (c : ℕ) → read n c ≡ cond (a && (b && eqb c class)) (change (read o c)) (read o c))
        (λ b x c. refl) (λ x c. refl) h slot slot.class) i

  module _ (read : List A → ℕ → ℕ) where
    pub nested-least : ((c : ℕ) → read (under t (under m old)) c ≤ read (under t (under m new)) c)
        → (slot : Slot)
        → read (under slot.term (under slot.manifest old)) slot.class
        ≤ read (under slot.term (under slot.manifest new)) slot.class
    nested-least h slot =
        nested (λ a b n o. (c : ℕ) → read o c ≤ read n c) (λ b x c. omega arith)
        (λ x c. omega arith) h slot slot.class

    pub nested-least_but : (stays : Bool) (class : ℕ)
        → ((c : ℕ) → (stays || not (eqb c class)) ≡ true
        → read (under t (under m old)) c ≤ read (under t (under m new)) c)
        → (slot : Slot) → (stays || not (same_slot slot (slot_of m t class))) ≡ true
        → read (under slot.term (under slot.manifest old)) slot.class
        ≤ read (under slot.term (under slot.manifest new)) slot.class
    nested-least_but stays class h slot =
        nested
        (λ a b n o. (c : ℕ) → (stays || not (a && (b && eqb c class))) ≡ true → read o c ≤ read n c)
        (λ b x c k. omega arith) (λ x c k. omega arith) h slot slot.class

    pub nested-spent : (class : ℕ)
        → ((c : ℕ)
        → read (under t (under m old)) c ≤ read (under t (under m new)) c + cond (eqb c class) 1 0)
        → IsSpentAt (slot_of m t class)
        (λ slot. read (under slot.term (under slot.manifest old)) slot.class)
        (λ slot. read (under slot.term (under slot.manifest new)) slot.class)
    nested-spent class h slot =
        nested (λ a b n o. (c : ℕ) → read o c ≤ read n c + cond (a && (b && eqb c class)) 1 0)
        (λ b x c. omega arith) (λ x c. omega arith) h slot slot.class
