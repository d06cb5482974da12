-- The names in the IRI of an annotation.
use Rattle.std.proofs.Common.{◌≡◌, ℕ, ◌+◌, ◌<◌, ◌≤◌, nat_lt, Bool, true, false, List, [], ◌∷◌, ◌++◌, length, take, drop, get_or, inl, inr, codes, if◌then◌else◌, Option, Some, None, option_and_then, option_map, refl, sym, ap, ◌∙◌, ◌==◌, arith}
use Rattle.std.specs.List.{AllByRecursion, before_first, after_first, position_or_len}
use Rattle.std.proofs.lemmas.Bool.{cases_Bool, false≢true}
use Rattle.std.proofs.lemmas.Bool.Decides.{nat_tests}
use Rattle.std.proofs.lemmas.List.{drop_all}
use Rattle.std.proofs.lemmas.List.Sums.{passes_at_first, split_at_first}
use Rattle.std.proofs.Math.Seq.{drop-append-add, take-append_seam}
use Rattle.an_base.specs.Front.{after_front}
use Rattle.an_base.specs.Name.{is_name, is_name_sign}
use Rattle.an_base.proofs.FrontLemmas.{front-there, front-cut}
use Rattle.an_base.proofs.NameLemmas.{name-signs}
use Rattle.an_iri.specs.Iris.{note_iri}
use Rattle.an_iri.specs.Names.{both_names, names_between, names_in}

abbrev is_slash : ℕ → Bool
is_slash b = b == 47

sign-apart : (b : ℕ) → is_name_sign b ≡ true → is_slash b ≡ false
sign-apart b is = grind (arith, nat_tests)

-- a text without a slash stands before the first one
at : (text rest : List ℕ) → AllByRecursion (λ b. is_slash b ≡ false) text
    → position_or_len is_slash (text ++ 47 ∷ rest) ≡ length text
at [] rest h = refl
at (b ∷ text) rest h = rw h.0 (omega (arith, at text rest h.1))

before : (text rest : List ℕ) → AllByRecursion (λ b. is_slash b ≡ false) text
    → before_first is_slash (text ++ 47 ∷ rest) ≡ text
before text rest h =
    ap (λ n. take n (text ++ 47 ∷ rest)) (at text rest h) ∙ take-append_seam text (47 ∷ rest)

after : (text rest : List ℕ) → AllByRecursion (λ b. is_slash b ≡ false) text
    → after_first is_slash (text ++ 47 ∷ rest) ≡ rest
after text rest h =
    ap (λ n. drop (n + 1) (text ++ 47 ∷ rest)) (at text rest h) ∙ drop-append-add text (47 ∷ rest) 1

both : (owner name : List ℕ) → is_name owner ≡ true → is_name name ≡ true
    → both_names owner name ≡ Some (owner, name)
both owner name owned named = rw (owned, named) refl

pub note_iri-read : (base owner name : List ℕ) → is_name owner ≡ true → is_name name ≡ true
    → names_in base (note_iri base owner name) ≡ Some (owner, name)
note_iri-read base owner name owned named =
    let signs = name-signs (λ b. is_slash b ≡ false) sign-apart owner owned in
    let path = owner ++ 47 ∷ name in
    ap (option_and_then
    (λ path. option_and_then names_between (after_front (codes "/annotations/") path)))
    (front-there base (codes "/annotations/" ++ path))
    ∙ ap (option_and_then names_between) (front-there (codes "/annotations/") path)
    ∙ ap (λ t. both_names t (after_first is_slash path)) (before owner name signs)
    ∙ ap (both_names owner) (after owner name signs)
    ∙ both owner name owned named

-- ---- and the other way

-- a text that goes on with a name after its first slash has a slash
split : (text : List ℕ) → is_name (after_first is_slash text) ≡ true
    → text ≡ before_first is_slash text ++ 47 ∷ after_first is_slash text
split text named = elim (cases_Bool (nat_lt (position_or_len is_slash text) (length text))) [
  | inl some ↦
      let there : position_or_len is_slash text < length text = grind (arith, nat_tests, some) in
      let slash : get_or text (position_or_len is_slash text) 0 ≡ 47 =
      by_test (get_or text (position_or_len is_slash text) 0)
      (passes_at_first is_slash text 0 there) in
      split_at_first is_slash text 0 there
      ∙ ap (λ b. before_first is_slash text ++ b ∷ after_first is_slash text) slash
  | inr none ↦
      let past : length text ≤ position_or_len is_slash text + 1 = grind (arith, nat_tests, none) in
      let empty : is_name (after_first is_slash text) ≡ false =
      ap is_name (drop_all (position_or_len is_slash text + 1) text past) in
      absurd (false≢true (sym empty ∙ named))
]
  where
    by_test : (b : ℕ) → is_slash b ≡ true → b ≡ 47
    by_test b is = grind (arith, nat_tests, is)

both-made : (front rest owner name : List ℕ) → both_names front rest ≡ Some (owner, name)
    → (front ≡ owner) × (rest ≡ name) × (is_name rest ≡ true)
both-made front rest owner name is = by (is_name front) (is_name rest) refl is
  where
    by : (owned named : Bool) → is_name rest ≡ named
        → option_and_then {U = List ℕ × List ℕ}
        (λ owner. option_map (λ name. (owner, name)) (if named then Some rest else None))
        (if owned then Some front else None) ≡ Some (owner, name)
        → (front ≡ owner) × (rest ≡ name) × (is_name rest ≡ true)
    by true true named is =
        let pair : ◌≡◌ {A = List ℕ × List ℕ} (front, rest) (owner, name) = cc is in
        (ap (λ (p : List ℕ × List ℕ). p.0) pair, ap (λ (p : List ℕ × List ℕ). p.1) pair, named)
    by true false named is = absurd (cc is)
    by false named _ is = absurd (cc is)

between : (text owner name : List ℕ) → names_between text ≡ Some (owner, name)
    → text ≡ owner ++ 47 ∷ name
between text owner name is =
    let made = both-made (before_first is_slash text) (after_first is_slash text) owner name is in
    split text made.2 ∙ ap (λ t. t ++ 47 ∷ after_first is_slash text) made.0
    ∙ ap (λ t. owner ++ 47 ∷ t) made.1

within : (path : Option (List ℕ)) (owner name : List ℕ)
    → option_and_then names_between path ≡ Some (owner, name) → path ≡ Some (owner ++ 47 ∷ name)
within None owner name is = absurd (cc is)
within (Some path) owner name is = ap Some (between path owner name is)

pub note_iri-made : (base iri owner name : List ℕ) → names_in base iri ≡ Some (owner, name)
    → iri ≡ note_iri base owner name
note_iri-made base iri owner name is = by (after_front base iri) refl is
  where
    by : (path : Option (List ℕ)) → after_front base iri ≡ path
        → option_and_then
        (λ path. option_and_then names_between (after_front (codes "/annotations/") path)) path
        ≡ Some (owner, name)
        → iri ≡ note_iri base owner name
    by None found is = absurd (cc is)
    by (Some path) found is =
        let cut = within (after_front (codes "/annotations/") path) owner name is in
        front-cut base iri path found
        ∙ ap (λ t. base ++ t) (front-cut (codes "/annotations/") path (owner ++ 47 ∷ name) cut)
