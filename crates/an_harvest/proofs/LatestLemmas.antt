-- What the last changes leave, with one change more before them.
use Rattle.std.proofs.Common.{◌≡◌, ℕ, ◌<◌, suc, Bool, true, false, cond, List, [], ◌∷◌, ◌++◌, length, map, drop, Option, Some, None, option_map, refl, sym, ap, ◌∙◌, bytes_eq, zero, get_or, arith}
use Rattle.std.specs.Prelude.{filter, is_some}
use Rattle.std.specs.List.{last_or, cons_option}
use Rattle.std.specs.Option.{option_or}
use Rattle.std.proofs.lemmas.Slice.Eq.{bytes_eq-Decides}
use Rattle.serde_json.specs.View.{view}
use Rattle.serde_json.specs.declared.value.Value.{Value}
use Rattle.an_harvest.specs.Feed.{Change, change_of, changes_of}
use Rattle.an_harvest.specs.Live.{last_of, left_by, left_at, leaving}

pub none_from : {A : Type 0} (o : Option A) → is_some o ≡ false → o ≡ None
none_from None h = refl
none_from (Some x) h = absurd (cc)

pub or-none : {A : Type 0} (o : Option A) → option_or o None ≡ o
or-none None = refl
or-none (Some x) = refl

or-again : {A : Type 0} (x : A) (start o : Option A)
    → option_or o (Some x) ≡ option_or (option_or o (Some x)) start
or-again x start None = refl
or-again x start (Some y) = refl

last_or-or : {A : Type 0} (start : Option A) (xs : List A)
    → last_or start xs ≡ option_or (last_or None xs) start
last_or-or start [] = refl
last_or-or start (x ∷ xs) =
    last_or-or (Some x) xs ∙ or-again x start (last_or None xs)
    ∙ ap (λ o. option_or o start) (sym (last_or-or (Some x) xs))

last-cond : (b : Bool) (c : Change) (xs : List Change)
    → last_or None (cond b (c ∷ xs) xs) ≡ option_or (last_or None xs) (cond b (Some c) None)
last-cond true c xs = last_or-or (Some c) xs
last-cond false c xs = sym (or-none (last_or None xs))

map-or : {A B : Type 0} (f : A → B) (o : Option A) (b : Bool) (x : A)
    → option_map f (option_or o (cond b (Some x) None))
    ≡ option_or (option_map f o) (cond b (Some (f x)) None)
map-or f None true x = refl
map-or f None false x = refl
map-or f (Some y) b x = refl

pub left_at-cons : (c : Change) (cs : List Change) (id : List ℕ)
    → left_at (c ∷ cs) id
    ≡ option_or (left_at cs id) (cond (bytes_eq c.id id) (Some (left_by c)) None)
left_at-cons c cs id =
    ap (option_map left_by)
    (last-cond (bytes_eq c.id id) c (filter (λ change. bytes_eq change.id id) cs))
    ∙ map-or left_by (last_of id cs) (bytes_eq c.id id) c

-- one change more is noted
pub noted : (o : Option Change) (id : List ℕ) (left : Option Bool)
    (f g : List ℕ → Option (Option Bool)) → Some (id, left) ≡ option_map leaving o
    → ((other : List ℕ) → g other ≡ option_or (f other) (cond (bytes_eq id other) (Some left) None))
    → (later : List Change) → ((other : List ℕ) → f other ≡ left_at later other)
    → (other : List ℕ) → g other ≡ left_at (cons_option o [] ++ later) other
noted None id left f g same step later tells other = absurd (cc)
noted (Some c) id left f g same step later tells other =
    let p : (id, left) ≡ leaving c = cc in
    step other
    ∙ ap
    (λ (p : List ℕ × Option Bool). option_or (f other) (cond (bytes_eq p.0 other) (Some p.1) None))
    p
    ∙ ap (λ x. option_or x (cond (bytes_eq c.id other) (Some (left_by c)) None)) (tells other)
    ∙ sym (left_at-cons c later other)

-- what is set is new
pub set_where_new : {A : Type 0} (f : List ℕ → Option A) (id other : List ℕ) (v : A) → f id ≡ None
    → cond (bytes_eq id other) (Some v) (f other)
    ≡ option_or (f other) (cond (bytes_eq id other) (Some v) None)
set_where_new f id other v none = by (bytes_eq id other) refl
  where
    by : (b : Bool) → bytes_eq id other ≡ b
        → cond b (Some v) (f other) ≡ option_or (f other) (cond b (Some v) None)
    by true is =
        ap (λ o. option_or o (Some v)) (sym (ap f (sym ((bytes_eq-Decides id other).0 is)) ∙ none))
    by false is = sym (or-none (f other))

-- ---- items, from a place on

cons-append : (o : Option Change) (ys later : List Change)
    → cons_option o ys ++ later ≡ cons_option o [] ++ (ys ++ later)
cons-append None ys later = refl
cons-append (Some c) ys later = refl

pub from_one : (vs : List Value) (n : ℕ) (d : Value) (later : List Change) → n < length vs
    → changes_of (drop n (map view vs)) ++ later
    ≡ cons_option (change_of (view (get_or vs n d))) []
    ++ (changes_of (drop (suc n) (map view vs)) ++ later)
from_one [] n d later h = absurd (omega (arith, h))
from_one (v ∷ vs) zero d later h = cons-append (change_of (view v)) (changes_of (map view vs)) later
from_one (v ∷ vs) (suc n) d later h = from_one vs n d later (omega (arith, h))
