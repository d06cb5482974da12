-- Copies of postings have the same places and counts.
use Rattle.std.proofs.Common.{◌≡◌, ℕ, ◌+◌, ◌≤◌, true, false, cond, eqb, List, [], ◌∷◌, String, string_bytes, refl, sym, ap, ap₂, ◌∙◌, subst}
use Rattle.std.specs.List.{AllZip}
use Rattle.std.specs.Prelude.{bytes_eq}
use Rattle.an_slots.specs.Classed.{Ascends, told_at}
use Rattle.an_slots.specs.Places.{Rises}
use Rattle.an_slots.specs.Texts.{texts, under}
use Rattle.an_postings.specs.declared.class_postings.ClassPostings.{ClassPostings}
use Rattle.an_postings.specs.Change.{IsLeaner}
use Rattle.an_postings.specs.Clones.{EachUnder, IsSameClass}
use Rattle.an_postings.specs.Lists.{EachRises, IsOrdered, class_of, number_of, places_of}

-- ---- the lists of a term

ascends : (from : ℕ) (old new : List ClassPostings) → AllZip IsSameClass old new
    → Ascends class_of from old → Ascends class_of from new
ascends from [] [] z a = tt
ascends from [] (y ∷ new) z a = absurd z
ascends from (x ∷ old) [] z a = absurd z
ascends from (x ∷ old) (y ∷ new) z a = (
  subst (λ class. from ≤ class) (sym z.0.class) a.0,
  subst (λ class. Ascends class_of (class + 1) new) (sym z.0.class)
      (ascends (class_of x + 1) old new z.1 a.1),
)

rises : (old new : List ClassPostings) → AllZip IsSameClass old new → EachRises old → EachRises new
rises [] [] z e = tt
rises [] (y ∷ new) z e = absurd z
rises (x ∷ old) [] z e = absurd z
rises (x ∷ old) (y ∷ new) z e = (subst (Rises 0) (sym z.0.places) e.0, rises old new z.1 e.1)

told : {V : Type 0} (tells : ClassPostings → V) (none : V) (old new : List ClassPostings) (c : ℕ)
    → ((x y : ClassPostings) → IsSameClass x y → tells y ≡ tells x)
    → AllZip IsSameClass old new
    → told_at class_of tells none new c ≡ told_at class_of tells none old c
told tells none [] [] c same z = refl
told tells none [] (y ∷ new) c same z = absurd z
told tells none (x ∷ old) [] c same z = absurd z
told tells none (x ∷ old) (y ∷ new) c same z =
    ap (λ class. cond (eqb c class) (tells y) (told_at class_of tells none new c)) z.0.class
    ∙ ap₂ (λ one rest. cond (eqb c (class_of x)) one rest) (same x y z.0)
    (told tells none old new c same z.1)

pub cloned_ordered : (old new : List ClassPostings) → AllZip IsSameClass old new → IsOrdered old
    → IsOrdered new
cloned_ordered old new z o = (ascends 0 old new z o.0, rises old new z o.1)

pub cloned_leaner : (old new : List ClassPostings) → AllZip IsSameClass old new → IsLeaner old new
cloned_leaner old new z = record {
  places = λ c. told places_of [] old new c (λ x y s. s.places) z;
  count = λ c. told number_of 0 old new c (λ x y s. s.count) z;
}

-- ---- what stands under texts

module _ {A : Type 0} (related : List A → List A → Type 0) (nothing : related [] []) where
  pub cloned_under : {Y : Type 0} (old new : List (String Y × List A))
      → AllZip (λ (p : String Y × List A) (q : String Y × List A).
      (string_bytes q.0 ≡ string_bytes p.0) × related p.1 q.1) old new
      → EachUnder related (texts old) (texts new)
  cloned_under [] [] z text = nothing
  cloned_under [] (q ∷ new) z text = absurd z
  cloned_under (p ∷ old) [] z text = absurd z
  cloned_under (p ∷ old) (q ∷ new) z text =
      subst (λ key. related (cond (bytes_eq text (string_bytes p.0)) p.1 (under text (texts old)))
      (cond (bytes_eq text key) q.1 (under text (texts new))))
      (sym z.0.0)
      (elim (bytes_eq text (string_bytes p.0))
      as (λ b.
      related (cond b p.1 (under text (texts old))) (cond b q.1 (under text (texts new)))) [
        | true ↦ z.0.1
        | false ↦ cloned_under old new z.1 text
      ])

pub leaner-empty : IsLeaner [] []
leaner-empty = record { places = λ c. refl; count = λ c. refl }

pub each-empty : {A : Type 0} (related : List A → List A → Type 0) → related [] []
    → EachUnder related [] []
each-empty related nothing text = nothing
