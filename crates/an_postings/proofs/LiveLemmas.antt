-- Places in order, of which some are gone.
use Rattle.std.proofs.Common.{◌≡◌, ℕ, ◌+◌, ◌-◌, ◌<◌, ◌≤◌, Bool, true, false, cond, eqb, ltb, ◌||◌, ◌&&◌, List, [], ◌∷◌, ◌++◌, length, take, drop, get_or, sym, ap, subst, ◌∙◌, refl, arith, drop-cons, add-one}
use Rattle.std.proofs.lemmas.List.{take-append-drop}
use Rattle.std.specs.Prelude.{IsTrue, not}
use Rattle.an_slots.specs.Places.{Rises, has, with_place, without_place}
use Rattle.an_slots.proofs.PlacesLemmas.{has-with_place, Rises-weaken, Rises-with_place, Rises-without_place, same_rises}
use Rattle.an_postings.specs.Live.{live}
use Rattle.an_postings.proofs.WalkLemmas.{none_later}

pub has-live : (x : ℕ) (all gone : List ℕ) → has x (live all gone) ≡ (has x all && not (has x gone))
has-live x [] gone = refl
has-live x (p ∷ all) gone =
    inside (has p gone)
    ∙ bits (eqb x p) (has p gone) (has x (live all gone)) (has x all) (has x gone) same
    (has-live x all gone)
  where
    same : eqb x p ≡ true → has x gone ≡ has p gone
    same e = let is : x ≡ p = grind (arith, e) in ap (λ n. has n gone) is

    inside : (h : Bool)
        → has x (cond (not h) (p ∷ live all gone) (live all gone))
        ≡ cond (not h) (eqb x p || has x (live all gone)) (has x (live all gone))
    inside true = refl
    inside false = refl

    bits : (e h r a g : Bool) → (e ≡ true → g ≡ h) → r ≡ (a && not g)
        → cond (not h) (e || r) r ≡ ((e || a) && not g)
    bits true true r true g k q = q
    bits true true r false g k q = q ∙ sym (ap not (k refl))
    bits true false r a g k q = sym (ap not (k refl))
    bits false true r a g k q = q
    bits false false r a g k q = q

pub Rises-live : (b : ℕ) (all gone : List ℕ) → Rises b all → Rises b (live all gone)
Rises-live b [] gone r = tt
Rises-live b (p ∷ all) gone r = by (has p gone) (Rises-live (p + 1) all gone r.1)
  where
    by : (h : Bool) → Rises (p + 1) (live all gone)
        → Rises b (cond (not h) (p ∷ live all gone) (live all gone))
    by true next = Rises-weaken (p + 1) b (live all gone) (omega (arith, r.0)) next
    by false next = (r.0, next)

pub live-none : (all : List ℕ) → live all [] ≡ all
live-none [] = refl
live-none (p ∷ all) = ap (λ (l : List ℕ). p ∷ l) (live-none all)

pub live-bare : (all gone : List ℕ) → length gone ≡ 0 → live all gone ≡ all
live-bare all [] none = live-none all
live-bare all (g ∷ gone) none = absurd (omega (arith, none))

has-without_place : (b x y : ℕ) (xs : List ℕ) → Rises b xs
    → has x (without_place y xs) ≡ (has x xs && not (eqb x y))
has-without_place b x y [] r = refl
has-without_place b x y (z ∷ zs) r =
    inside (eqb y z)
    ∙ bits (eqb y z) (eqb x z) (eqb x y) (has x zs) (has x (without_place y zs))
    (has-without_place (z + 1) x y zs r.1) first behind apart
  where
    inside : (t : Bool)
        → has x (cond t zs (z ∷ without_place y zs))
        ≡ cond t (has x zs) (eqb x z || has x (without_place y zs))
    inside true = refl
    inside false = refl

    first : eqb x z ≡ true → has x zs ≡ false
    first e = none_later x (z + 1) zs (grind (arith, e)) r.1

    behind : eqb y z ≡ true → eqb x y ≡ eqb x z
    behind e = let is : y ≡ z = grind (arith, e) in ap (λ n. eqb x n) is

    apart : eqb y z ≡ false → eqb x z ≡ true → eqb x y ≡ false
    apart e f = grind (arith, e, f)

    bits : (t e k h w : Bool) → w ≡ (h && not k) → (e ≡ true → h ≡ false) → (t ≡ true → k ≡ e)
        → (t ≡ false → e ≡ true → k ≡ false)
        → cond t h (e || w) ≡ ((e || h) && not k)
    bits true true k h w q f g a = f refl ∙ sym (ap not (g refl))
    bits true false k true w q f g a = sym (ap not (g refl))
    bits true false k false w q f g a = refl
    bits false true k h w q f g a = sym (ap not (a refl refl))
    bits false false k h w q f g a = q

-- ---- two runs in which they stand

pub Rises-front : (b : ℕ) (front back : List ℕ) → Rises b (front ++ back) → Rises b front
Rises-front b [] back r = tt
Rises-front b (x ∷ front) back r = (r.0, Rises-front (x + 1) front back r.1)

pub Rises-back : (b : ℕ) (front back : List ℕ) → Rises b (front ++ back) → Rises b back
Rises-back b [] back r = r
Rises-back b (x ∷ front) back r =
    Rises-back b front back (Rises-weaken (x + 1) b (front ++ back) (omega (arith, r.0)) r.1)

-- ---- the stretches between two that are gone

-- none need be gone that isn't there
pub live-absent : (g : ℕ) (all gone : List ℕ) → has g all ≡ false
    → live all (g ∷ gone) ≡ live all gone
live-absent g [] gone absent = refl
live-absent g (p ∷ all) gone absent = by (eqb g p) refl absent (live-absent g all gone)
  where
    by : (b : Bool) → eqb g p ≡ b → (b || has g all) ≡ false
        → (has g all ≡ false → live all (g ∷ gone) ≡ live all gone)
        → live (p ∷ all) (g ∷ gone) ≡ live (p ∷ all) gone
    by true is none next = cc
    by false is none next =
        let apart : eqb p g ≡ false = grind (arith, is) in
        ap
        (λ (b : Bool). cond (not (b || has p gone)) (p ∷ live all (g ∷ gone)) (live all (g ∷ gone)))
        apart
        ∙ ap (λ (l : List ℕ). cond (not (has p gone)) (p ∷ l) l) (next none)

least_is : (b g : ℕ) (front back : List ℕ) → Rises b (front ++ g ∷ back) → b ≤ g
least_is b g [] back r = r.0
least_is b g (x ∷ front) back r =
    let next = least_is (x + 1) g front back r.1 in omega (arith, r.0, next)

-- before the first that is gone all are live
live-stretch : (b g : ℕ) (front back gone : List ℕ) → Rises b (front ++ g ∷ back)
    → Rises (g + 1) gone → live (front ++ g ∷ back) (g ∷ gone) ≡ front ++ live back gone
live-stretch b g [] back gone r s =
    let same : eqb g g ≡ true = grind arith in
    ap
    (λ (b : Bool). cond (not (b || has g gone)) (g ∷ live back (g ∷ gone)) (live back (g ∷ gone)))
    same
    ∙ live-absent g back gone (none_later g (g + 1) back (omega arith) r.1)
live-stretch b g (p ∷ front) back gone r s =
    let less : p + 1 ≤ g = least_is (p + 1) g front back r.1 in
    let apart : eqb p g ≡ false = grind (arith, less) in
    let later : has p gone ≡ false = none_later p (g + 1) gone (omega (arith, less)) s in
    ap (λ (b : Bool). cond (not (b || has p gone)) (p ∷ live (front ++ g ∷ back) (g ∷ gone))
    (live (front ++ g ∷ back) (g ∷ gone))) apart
    ∙ ap (λ (b : Bool).
    cond (not b) (p ∷ live (front ++ g ∷ back) (g ∷ gone)) (live (front ++ g ∷ back) (g ∷ gone)))
    later
    ∙ ap (λ (l : List ℕ). p ∷ l) (live-stretch (p + 1) g front back gone r.1 s)

cut_at : (all : List ℕ) (at : ℕ) → at < length all
    → all ≡ take at all ++ get_or all at 0 ∷ drop (at + 1) all
cut_at all at within =
    sym (take-append-drop at all)
    ∙ ap (λ (l : List ℕ). take at all ++ l)
    (drop-cons all at 0 within ∙ ap (λ n. get_or all at 0 ∷ drop n all) (sym (add-one at)))

module _ (all gone : List ℕ) (g : ℕ) (r : Rises 0 all) where
  -- up to the next that is gone, where it stands among these
  pub live-cut : (at : ℕ) → at < length all → get_or all at 0 ≡ g → Rises (g + 1) gone
      → live all (g ∷ gone) ≡ take at all ++ live (drop (at + 1) all) gone
  live-cut at within is s =
      let cut : all ≡ take at all ++ g ∷ drop (at + 1) all =
      cut_at all at within ∙ ap (λ (n : ℕ). take at all ++ n ∷ drop (at + 1) all) is in
      ap (λ (l : List ℕ). live l (g ∷ gone)) cut
      ∙ live-stretch 0 g (take at all) (drop (at + 1) all) gone (subst (Rises 0) cut r) s

pub Rises-cut : (all : List ℕ) (at : ℕ) → Rises 0 all → Rises 0 (drop at all)
Rises-cut all at r =
    Rises-back 0 (take at all) (drop at all) (subst (Rises 0) (sym (take-append-drop at all)) r)

-- one more of those that are gone, and those behind it
module _ (gone : List ℕ) (at g : ℕ) (within : at < length gone) (is : g ≡ get_or gone at g)
    (r : Rises 0 gone) where
  pub next_gone : drop at gone ≡ g ∷ drop (at + 1) gone
  next_gone =
      drop-cons gone at g within ∙ ap (λ n. get_or gone at g ∷ drop n gone) (sym (add-one at))
      ∙ ap (λ n. n ∷ drop (at + 1) gone) (sym is)

  pub next_rise : Rises (g + 1) (drop (at + 1) gone)
  next_rise = (subst (Rises 0) next_gone (Rises-cut gone at r)).1

-- ---- changes

-- where there is room, more are had than there are
some_room : (is : Bool) (length capacity : ℕ) → IsTrue (is || ltb 0 (capacity - length))
    → IsTrue (is || ltb length capacity)
some_room true length capacity h = refl
some_room false length capacity h =
    let some : 0 < capacity - length = grind (arith, h) in
    let more : length < capacity = omega arith in grind (arith, more)

module _ (p : ℕ) (all gone : List ℕ) (r : Rises 0 all) where
  out : (xs : List ℕ) → Rises 0 xs
      → ((x : ℕ) → has x xs ≡ ((has x all && not (has x gone)) && not (eqb x p)))
      → xs ≡ without_place p (live all gone)
  out xs s is =
      same_rises 0 xs (without_place p (live all gone)) s
      (Rises-without_place 0 (live all gone) p (Rises-live 0 all gone r))
      (λ x. is x ∙ ap (λ (b : Bool). b && not (eqb x p)) (sym (has-live x all gone))
      ∙ sym (has-without_place 0 x p (live all gone) (Rises-live 0 all gone r)))

  -- a place more is noted as gone
  pub noted : live all (with_place p gone) ≡ without_place p (live all gone)
  noted = out (live all (with_place p gone)) (Rises-live 0 all (with_place p gone) r)
      (λ x. has-live x all (with_place p gone)
      ∙ ap (λ (b : Bool). has x all && not b) (has-with_place x p gone)
      ∙ bits (has x all) (eqb x p) (has x gone))
    where
      bits : (a e g : Bool) → (a && not (e || g)) ≡ ((a && not g) && not e)
      bits true true true = refl
      bits true true false = refl
      bits true false true = refl
      bits true false false = refl
      bits false e g = refl

  -- a place is taken out where it stands
  pub taken : live (without_place p all) gone ≡ without_place p (live all gone)
  taken =
      out (live (without_place p all) gone)
      (Rises-live 0 (without_place p all) gone (Rises-without_place 0 all p r))
      (λ x. has-live x (without_place p all) gone
      ∙ ap (λ (b : Bool). b && not (has x gone)) (has-without_place 0 x p all r)
      ∙ bits (has x all) (eqb x p) (has x gone))
    where
      bits : (a e g : Bool) → ((a && not e) && not g) ≡ ((a && not g) && not e)
      bits true true true = refl
      bits true true false = refl
      bits true false true = refl
      bits true false false = refl
      bits false e g = refl

  -- a place is put in, and no longer noted
  pub put : Rises 0 gone
      → live (with_place p all) (without_place p gone) ≡ with_place p (live all gone)
  put s =
      same_rises 0 (live (with_place p all) (without_place p gone)) (with_place p (live all gone))
      (Rises-live 0 (with_place p all) (without_place p gone)
      (Rises-with_place 0 all p r (omega arith)))
      (Rises-with_place 0 (live all gone) p (Rises-live 0 all gone r) (omega arith))
      (λ x. has-live x (with_place p all) (without_place p gone)
      ∙ ap (λ (b : Bool). b && not (has x (without_place p gone))) (has-with_place x p all)
      ∙ ap (λ (b : Bool). (eqb x p || has x all) && not b) (has-without_place 0 x p gone s)
      ∙ bits (has x all) (eqb x p) (has x gone)
      ∙ ap (λ (b : Bool). eqb x p || b) (sym (has-live x all gone))
      ∙ sym (has-with_place x p (live all gone)))
    where
      bits : (a e g : Bool) → ((e || a) && not (g && not e)) ≡ (e || (a && not g))
      bits a true true = refl
      bits a true false = refl
      bits true false true = refl
      bits true false false = refl
      bits false false g = refl

  -- a place that isn't gone is there, and where there is room, more are had than there are
  pub room_for : (length capacity : ℕ) → IsTrue (has p (live all gone) || ltb 0 (capacity - length))
      → IsTrue (has p all || ltb length capacity)
  room_for length capacity h =
      step (has p all) (has p gone)
      (ap (λ (b : Bool). b || ltb 0 (capacity - length)) (sym (has-live p all gone)) ∙ h)
    where
      step : (a g : Bool) → ((a && not g) || ltb 0 (capacity - length)) ≡ true
          → (a || ltb length capacity) ≡ true
      step true g h = refl
      step false g h = some_room false length capacity h
