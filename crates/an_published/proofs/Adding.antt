-- The exchange that adds an event to a history keeps its rule.
use Rattle.std.proofs.Common.{◌≡◌, ℕ, ◌+◌, ◌<◌, ◌==◌, Bool, true, false, List, [], ◌∷◌, ◌++◌, length, refl, ap, sym, ◌∙◌, subst, arith, inl, length-append, None}
use Rattle.std.specs.Prelude.{⊤}
use Rattle.std.proofs.lemmas.List.{append-nil}
use Rattle.std.proofs.lemmas.Bool.Decides.{nat_tests}
use mathlib.Core.List.{IsPrefix}
use prog.Atomic.{either}
use Rattle.logbook.specs.Pages.{Cell, cell, keeps, no_nib, step, Moves, Goes}
use Rattle.an_laws.specs.Events.{Event}
use Rattle.an_published.specs.History.{IsKept, Adds}
use Rattle.an_published.proofs.Lists.{prefix_whole}

abbrev pub shown : List Event → List Event
shown log = []

abbrev pub moved : List Event → List Event → ℕ → Type 0
moved before after answer = ⊤

-- the exchange of a word that was `old` to the number behind it
abbrev pub changed : ℕ → ℕ → ℕ
changed old n = either (n == old) (old + 1) n

pub adds_goes : (log v : List Event) (e : Event) (old n : ℕ) → length log ≡ n + 1
    → length v ≡ old + 1 → IsPrefix v log → (b : Bool) → (n == old) ≡ b
    → Goes IsKept shown moved 0 (v, (no_nib, None)) (changed old)
    (Adds (step 0 old (old + 1) e) (v, (no_nib, None))) ((n, true) ∷ []) log
adds_goes log v e old n size len pre true is =
    let here : n ≡ old = grind (arith, nat_tests) in
    let same : v ≡ log = prefix_whole v log pre (omega arith) in (
      keeps,
      e ∷ [],
      None,
      tt,
      record {
        count = n + 1;
        word = ap (λ (k : ℕ). (k, true) ∷ []) (rw is (ap (λ (k : ℕ). k + 1) (sym here)));
        is = omega (arith, length-append log (e ∷ []));
      },
      inl (refl, refl),
      rw is (ap (λ w. w ++ e ∷ []) (sym same)),
    )
adds_goes log v e old n size len pre false is = (
  keeps,
  [],
  None,
  tt,
  record {
    count = n;
    word = ap (λ (k : ℕ). (k, true) ∷ []) (rw is refl);
    is = ap length (append-nil log) ∙ size;
  },
  inl (refl, refl),
  rw is tt,
)

-- whatever the history is, the exchange adds the event to all that was seen, or finds another
-- length
pub adds_moves : (v : List Event) (e : Event) (old new : ℕ) → length v ≡ old + 1 → new ≡ old + 1
    → Moves IsKept shown moved 0 (v, (no_nib, None)) (λ n. either (n == old) new n)
    (Adds (step 0 old new e) (v, (no_nib, None)))
adds_moves v e old new len is cells log kept pre away =
    let P : List Cell → Type 0 =
    λ c. (0 < length c) × ((cell c 0).1 ≡ true)
    × Goes IsKept shown moved 0 (v, (no_nib, None)) (changed old)
    (Adds (step 0 old (old + 1) e) (v, (no_nib, None))) c log in
    let Q : ℕ → Type 0 =
    λ m. (0 < length cells) × ((cell cells 0).1 ≡ true)
    × Goes IsKept shown moved 0 (v, (no_nib, None)) (λ n. either (n == old) m n)
    (Adds (step 0 old m e) (v, (no_nib, None))) cells log in
    subst Q (sym is) (subst P (sym kept.word)
    (omega arith, refl, adds_goes log v e old kept.count kept.is len pre (kept.count == old) refl))
