-- Lists that are dropped: of a class, of a term, of a manifest.
use Rattle.std.proofs.Common.{◌≡◌, ℕ, zero, suc, ◌+◌, ◌≤◌, Bool, true, false, cond, eqb, not, List, [], ◌∷◌, None, String, string_bytes, get_or, sym, ap, ◌∙◌, refl, arith, ⊎_elim}
use Rattle.std.specs.Prelude.{bytes_eq}
use Rattle.std.specs.List.{remove}
use Rattle.std.specs.Map.{lookup, remove_entry}
use Rattle.std.specs.BTreeMap.{is_at}
use Rattle.std.specs.Cmp.Lexicographic.{slice_cmp}
use Rattle.std.specs.Ordering.{nat_cmp, is_eq}
use Rattle.std.proofs.lemmas.Slice.Eq.{bytes_eq-Decides}
use Rattle.std.proofs.lemmas.Map.Text.{is_eq-slice_cmp, text_cmp}
use Rattle.an_slots.specs.Classed.{Ascends, IsAt, told_at}
use Rattle.an_slots.specs.Texts.{texts, under}
use Rattle.an_slots.proofs.ClassedLemmas.{commute, either, same_at, told_at-at, told_at-below}
use Rattle.an_slots.proofs.NestLemmas.{under-missing}
use Rattle.an_postings.specs.declared.class_postings.ClassPostings.{ClassPostings}
use Rattle.an_postings.specs.Change.{IsChangedUnder, IsLeaner, IsOut}
use Rattle.an_postings.specs.Lists.{EachRises, IsOrdered, class_of, places_of, number_of, room_of, count_at, places_at, room_at}

-- ---- the list of a class

module _ {A : Type 0} (class_of : A → ℕ) where
  Ascends-lower : (a b : ℕ) (xs : List A) → a ≤ b → Ascends class_of b xs → Ascends class_of a xs
  Ascends-lower a b [] low r = tt
  Ascends-lower a b (x ∷ xs) low r = (omega (arith, low, r.0), r.1)

  Ascends-remove : (class b : ℕ) (xs : List A) (i : ℕ) → IsAt class_of class xs i
      → Ascends class_of b xs → Ascends class_of b (remove xs i)
  Ascends-remove class b [] i h r = absurd h
  Ascends-remove class b (x ∷ xs) zero h r =
      Ascends-lower b (class_of x + 1) xs (omega (arith, r.0)) r.1
  Ascends-remove class b (x ∷ xs) (suc i) h r =
      (r.0, Ascends-remove class (class_of x + 1) xs i h.1 r.1)

  module _ {V : Type 0} (told : A → V) (none : V) where
    gone : (p q : Bool) (x r : V) → (q ≡ true → r ≡ none) → p ≡ q → r ≡ cond p none (cond q x r)
    gone true true x r h e = h refl
    gone true false x r h e = cc
    gone false true x r h e = cc
    gone false false x r h e = refl

    -- nothing is told of a class whose item was taken out
    told_at-remove : (class b : ℕ) (xs : List A) (i c : ℕ) → IsAt class_of class xs i
        → Ascends class_of b xs
        → told_at class_of told none (remove xs i) c
        ≡ cond (eqb c class) none (told_at class_of told none xs c)
    told_at-remove class b [] i c h r = absurd h
    told_at-remove class b (x ∷ xs) zero c h r =
        gone (eqb c class) (eqb c (class_of x)) (told x) (told_at class_of told none xs c)
        (λ e. told_at-below class_of told none (class_of x + 1) xs c r.1
        (let s : c ≡ class_of x = grind (arith, e) in omega (arith, s)))
        (ap (λ k. eqb c k) (sym h))
    told_at-remove class b (x ∷ xs) (suc i) c h r =
        rw (told_at-remove class (class_of x + 1) xs i c h.1 r.1)
        (commute (eqb c (class_of x)) (eqb c class) (told x) none (told_at class_of told none xs c)
        (λ e. grind (arith, e, h.0)))

EachRises-remove : (xs : List ClassPostings) (i : ℕ) → EachRises xs → EachRises (remove xs i)
EachRises-remove [] zero e = tt
EachRises-remove [] (suc i) e = tt
EachRises-remove (x ∷ xs) zero e = e.1
EachRises-remove (x ∷ xs) (suc i) e = (e.0, EachRises-remove xs i e.1)

module _ (class : ℕ) (xs : List ClassPostings) (i : ℕ) (old : ClassPostings)
    (here : IsAt class_of class xs i) (is : old ≡ get_or xs i old) (o : IsOrdered xs) where
  pub remove_ordered : IsOrdered (remove xs i)
  remove_ordered = (Ascends-remove class_of class 0 xs i here o.0, EachRises-remove xs i o.1)

  pub remove_leaner : old.places.items ≡ [] → old.count ≡ 0 → IsLeaner xs (remove xs i)
  remove_leaner bare none = record {
    places =
        same_at class (places_at xs) (places_at (remove xs i)) []
        (λ c. told_at-remove class_of places_of [] class 0 xs i c here o.0)
        (sym bare ∙ ap places_of is ∙ sym (told_at-at class_of places_of [] class xs i old here));
    count =
        same_at class (count_at xs) (count_at (remove xs i)) 0
        (λ c. told_at-remove class_of number_of 0 class 0 xs i c here o.0)
        (sym none ∙ ap number_of is ∙ sym (told_at-at class_of number_of 0 class xs i old here));
  }

  -- the room of another class is the same
  pub remove_others : (c : ℕ) → eqb c class ≡ false → room_at xs c ≤ room_at (remove xs i) c
  remove_others c other =
      let e =
      told_at-remove class_of room_of 0 class 0 xs i c here o.0
      ∙ ap (λ (b : Bool). cond b 0 (room_at xs c)) other in
      omega (arith, e)

-- a place is taken out, and then memory is given back
pub out-leaner : (class place times : ℕ) (old kept new : List ClassPostings)
    → IsOut true class place times old kept → IsLeaner kept new
    → ((c : ℕ) → eqb c class ≡ false → room_at kept c ≤ room_at new c)
    → IsOut false class place times old new
out-leaner class place times old kept new out leaner others = record {
  places = λ c. leaner.places c ∙ out.places c;
  count = λ c. leaner.count c ∙ out.count c;
  room = λ c h.
      let a = out.room c refl in
      let b = others c (not-true (eqb c class) h) in
      omega (arith, a, b);
}
  where
    not-true : (b : Bool) → not b ≡ true → b ≡ false
    not-true false h = refl
    not-true true h = cc

pub leaner-nothing : IsLeaner [] []
leaner-nothing = record { places = λ c. refl; count = λ c. refl }

-- ---- what stands under a text that is taken out

module _ {Y A : Type 0} (s : List ℕ) where
  under-others : (es : List (String Y × List A)) (t : List ℕ) → bytes_eq t s ≡ false
      → under t (texts (remove_entry (is_at (text_cmp s)) es)) ≡ under t (texts es)
  under-others [] t other = refl
  under-others (e ∷ es) t other =
      let test = is_eq-slice_cmp s (string_bytes e.0) in
      ⊎_elim
      (λ (same : bytes_eq s (string_bytes e.0) ≡ true).
      let at : is_eq (slice_cmp nat_cmp s (string_bytes e.0)) ≡ true = test ∙ same in
      let is : s ≡ string_bytes e.0 = (bytes_eq-Decides s (string_bytes e.0)).0 same in
      let not : bytes_eq t (string_bytes e.0) ≡ false =
      ap (λ (x : List ℕ). bytes_eq t x) (sym is) ∙ other in
      rw (at, not) refl)
      (λ (apart : bytes_eq s (string_bytes e.0) ≡ false).
      let at : is_eq (slice_cmp nat_cmp s (string_bytes e.0)) ≡ false = test ∙ apart in
      rw (at, under-others es t other) refl)
      (either (bytes_eq s (string_bytes e.0)))

  -- it is the same under each text, where nothing stood under that one
  under-remove : (es es' : List (String Y × List A)) → es' ≡ remove_entry (is_at (text_cmp s)) es
      → lookup (is_at (text_cmp s)) es' ≡ None → under s (texts es) ≡ [] → (t : List ℕ)
      → under t (texts es') ≡ under t (texts es)
  under-remove es es' is none nothing t =
      ⊎_elim
      (λ (same : bytes_eq t s ≡ true).
      let e : t ≡ s = (bytes_eq-Decides t s).0 same in
      rw (e, nothing) (under-missing s es' none))
      (λ (other : bytes_eq t s ≡ false). rw is (under-others es t other))
      (either (bytes_eq t s))

  pub changed-removed : (related : List A → List A → Type 0) (old kept : List (List ℕ × List A))
      (es es' : List (String Y × List A)) → texts es ≡ kept
      → es' ≡ remove_entry (is_at (text_cmp s)) es → lookup (is_at (text_cmp s)) es' ≡ None
      → under s kept ≡ [] → IsChangedUnder s related old kept
      → IsChangedUnder s related old (texts es')
  changed-removed related old kept es es' seen is none nothing changed =
      let same : (t : List ℕ) → under t (texts es') ≡ under t kept =
      λ t. under-remove es es' is none (ap (under s) seen ∙ nothing) t ∙ ap (under t) seen in
      record {
        here = rw (same s) changed.here;
        others = λ t other. same t ∙ changed.others t other;
      }
