-- Names of no parameter, each where it first comes.
use Rattle.std.proofs.Common.{◌≡◌, ℕ, ◌+◌, ◌<◌, List, [], ◌∷◌, ◌++◌, map, drop, length, get_or, add-one, drop-cons, Bool, true, false, cond, ◌&&◌, ◌||◌, refl, sym, ap, ◌∙◌}
use Rattle.std.proofs.lemmas.List.Folds.{list_any-append}
use Rattle.std.specs.Cmp.Lexicographic.{bytes_decides}
use Rattle.std.specs.Prelude.{bytes_eq, filter, fold, not}
use Rattle.an_base.specs.TextSet.{has_text, with_text}
use Rattle.an_query.specs.declared.pairs.Pair.{Pair}

either_first : (a b : Bool) → (a || b) ≡ (b || (a || false))
either_first true true = refl
either_first true false = refl
either_first false true = refl
either_first false false = refl

-- the names that are left begin with this one's
pub names_left : (pairs : List Pair) (at : ℕ) (pair : Pair) → at < length pairs
    → pair ≡ get_or pairs at pair
    → map (λ p. p.name) (drop at pairs) ≡ pair.name ∷ map (λ p. p.name) (drop (at + 1) pairs)
names_left pairs at pair within is = rw (add-one, drop-cons pairs at pair within, sym is) refl

-- what comes once more has come already
again : (others : List (List ℕ)) (name other : List ℕ) → has_text name others ≡ true → (b : Bool)
    → bytes_eq name other ≡ b → (b || has_text other others) ≡ has_text other others
again others name other seen true same =
    sym (ap (λ text. has_text text others) (sym ((bytes_decides name other).0 same)) ∙ seen)
again others name other seen false same = refl

module _ (test : List ℕ → Bool) (others rest : List (List ℕ)) (name : List ℕ)
    (old now : List ℕ → Bool)
    (are : (other : List ℕ) → old other ≡ has_text other others)
    (seen : (other : List ℕ) → now other ≡ ((test name && bytes_eq name other) || old other)) where
  pub record IsSeen (texts : List (List ℕ)) : Type 0 where
    pub same : fold with_text texts (filter test rest)
        ≡ fold with_text others (filter test (name ∷ rest))
    pub all : (other : List ℕ) → now other ≡ has_text other texts

  pub seen_new : (test name && not (old name)) ≡ true → IsSeen (others ++ name ∷ [])
  seen_new new = by (test name) (has_text name others) refl (sym (are name)) new
    where
      by : (a b : Bool) → test name ≡ a → b ≡ old name → (test name && not (old name)) ≡ true
          → IsSeen (others ++ name ∷ [])
      by true true is has new = absurd (cc)
      by false b is has new = absurd (cc)
      by true false is has new =
          let absent : has_text name others ≡ false = sym (are name) ∙ sym has in
          record {
            same =
                rw is (ap
                (λ b. fold with_text (cond b others (others ++ name ∷ [])) (filter test rest))
                (sym absent));
            all =
                λ other. seen other
                ∙ rw
                (is, are other, list_any-append (λ text. bytes_eq text other) others (name ∷ []))
                (either_first (bytes_eq name other) (has_text other others));
          }

  pub seen_before : (test name && not (old name)) ≡ false → IsSeen others
  seen_before new = by (test name) (has_text name others) refl (sym (are name)) new
    where
      by : (a b : Bool) → test name ≡ a → b ≡ old name → (test name && not (old name)) ≡ false
          → IsSeen others
      by true false is has new = absurd (cc)
      by false b is has new =
          record { same = rw is refl; all = λ other. seen other ∙ rw is (are other) }
      by true true is has new =
          let present : has_text name others ≡ true = sym (are name) ∙ sym has in
          record {
            same =
                rw is (ap
                (λ b. fold with_text (cond b others (others ++ name ∷ [])) (filter test rest))
                (sym present));
            all =
                λ other. seen other
                ∙ rw (is, are other) (again others name other present (bytes_eq name other) refl);
          }
