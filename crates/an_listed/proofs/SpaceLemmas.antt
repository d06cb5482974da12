-- Memory for rows, one after the other.
use Rattle.std.proofs.Common.{◌≡◌, ℕ, zero, suc, ◌+◌, ◌<◌, ◌≤◌, Bool, true, false, not, ◌||◌, List, [], ◌∷◌, ◌++◌, ◌⊎◌, inl, inr, length, get_or, drop, sym, ap, ◌∙◌, subst, refl, arith}
use Rattle.std.specs.List.{flat_map}
use Rattle.std.proofs.lemmas.List.{drop_more}
use Rattle.std.proofs.lemmas.List.Concat.{flat_map-cons}
use Rattle.an_postings.specs.Postings.{Lists, room_in}
use Rattle.an_slots.specs.Rows.{is_posted}
use Rattle.an_slots.specs.Slot.{Slot}
use Rattle.an_listed.specs.Keys.{parts_by}
use Rattle.an_listed.specs.Room.{AreSame, HasRoom, HasRowSpace, HasSpace, IsEnough, IsKept, IsKeptBut, IsSame, times}
use Rattle.an_listed.specs.Stands.{Listings}
use Rattle.an_listed.specs.declared.filed.Filed.{Filed}
use Rattle.an_listed.specs.declared.kind.Kind.{Kind}
use Rattle.an_listed.specs.declared.kind.Kind.TheVariants.{Words, Anywhere, Whole}
use Rattle.an_listed.specs.declared.register.Register.{Register}
use Rattle.an_listed.proofs.RoomLemmas.{enough-front, enough-more, is_posted-append, times-append, times-none}

-- ---- the parts of rows, row by row

module _ (p : Filed → List (Slot × ℕ)) (rows : List Filed) where
  pub rows-done : (i : ℕ) (row : Filed) → i < length rows → row ≡ get_or rows i row
      → (P Q : Slot → Type 0) → ((s : Slot) → P s → Q s)
      → ((s : Slot) → is_posted s (p row) ≡ true → Q s)
      → (s : Slot) → P s ⊎ (is_posted s (flat_map p (drop i rows)) ≡ true)
      → Q s ⊎ (is_posted s (flat_map p (drop (i + 1) rows)) ≡ true)
  rows-done i row h is P Q kept here s (inl done) = inl (kept s done)
  rows-done i row h is P Q kept here s (inr left) =
      let next : flat_map p (drop i rows) ≡ p row ++ flat_map p (drop (i + 1) rows) =
      ap (flat_map p) (drop_more rows i row h)
      ∙ flat_map-cons p (get_or rows i row) (drop (i + 1) rows)
      ∙ ap (λ (r : Filed). p r ++ flat_map p (drop (i + 1) rows)) (sym is) in
      split (is_posted s (p row)) (is_posted s (flat_map p (drop (i + 1) rows))) (here s)
      (sym (ap (is_posted s) next ∙ is_posted-append s (p row) (flat_map p (drop (i + 1) rows)))
      ∙ left)
    where
      split : {A : Type 0} (a b : Bool) → (a ≡ true → A) → (a || b) ≡ true → A ⊎ (b ≡ true)
      split true b f e = inl (f refl)
      split false b f e = inr e

  drop-past : (rs : List Filed) (i : ℕ) → length rs ≤ i → drop i rs ≡ []
  drop-past [] zero h = refl
  drop-past [] (suc i) h = refl
  drop-past (r ∷ rs) zero h = absurd (omega arith)
  drop-past (r ∷ rs) (suc i) h = drop-past rs i (omega arith)

  pub rows-end : (i : ℕ) → length rows ≤ i → (P : Slot → Type 0) (s : Slot)
      → P s ⊎ (is_posted s (flat_map p (drop i rows)) ≡ true) → P s
  rows-end i h P s (inl done) = done
  rows-end i h P s (inr left) =
      let e : false ≡ true =
      ap (λ (rs : List Filed). is_posted s (flat_map p rs)) (sym (drop-past rows i h)) ∙ left in
      cc

pub same-trans : (a b d : Lists) → IsSame a b → IsSame b d → IsSame a d
same-trans a b d f s = record {
  places = s.places ∙ f.places;
  counts = s.counts ∙ f.counts;
  room = λ slot. let x = f.room slot in let y = s.room slot in omega (arith, x, y);
}

pub same-itself : (a : Lists) → IsSame a a
same-itself a = record { places = refl; counts = refl; room = λ slot. omega arith }

-- ---- space that is kept

pub space-same : (coming : List Filed) (old new : Register) → AreSame old new → HasSpace coming old
    → HasSpace coming new
space-same coming old new same space = record {
  words =
      enough-more (flat_map (parts_by Words) coming) old.words new.words same.words.room
      space.words;
  anywhere =
      enough-more (flat_map (parts_by Anywhere) coming) old.anywhere new.anywhere same.anywhere.room
      space.anywhere;
  whole =
      enough-more (flat_map (parts_by Whole) coming) old.whole new.whole same.whole.room
      space.whole;
}

-- where rows are to come, all is kept
pub kept-all : (left : List (Slot × ℕ)) (old new : Lists) (stays : Bool) → stays ≡ true
    → IsKeptBut stays left old new → IsKept old new
kept-all left old new stays is kept slot =
    kept slot (ap (λ (b : Bool). b || not (is_posted slot left)) is)

-- what is kept but where a row was taken out is enough for parts elsewhere
module _ (ps left : List (Slot × ℕ)) (old new : Lists) (stays : Bool) where
  or_not : (a b : Bool) → b ≡ false → (a || not b) ≡ true
  or_not true b h = refl
  or_not false true h = cc
  or_not false false h = refl

  pub enough-but : IsKeptBut stays left old new
      → ((slot : Slot) → is_posted slot ps ≡ true → is_posted slot left ≡ false) → IsEnough ps old
      → IsEnough ps new
  enough-but kept apart enough slot = by (is_posted slot ps) refl
    where
      by : (b : Bool) → is_posted slot ps ≡ b → times slot ps ≤ room_in new slot
      by false none = let n = times-none slot ps none in omega (arith, n)
      by true there =
          let e = enough slot in
          let k = kept slot (or_not stays (is_posted slot left) (apart slot there)) in
          omega (arith, e, k)

pub space-none : (r : Register) → HasSpace [] r
space-none r = record {
  words = λ slot. omega arith;
  anywhere = λ slot. omega arith;
  whole = λ slot. omega arith;
}

-- ---- the space of the first row

module _ (kind : Kind) (row : Filed) (rest : List Filed) (lists : Lists) where
  -- it is that of its parts, before that of the others
  pub row-parts : HasRowSpace kind (row ∷ rest) lists
      → IsEnough (parts_by kind row ++ flat_map (parts_by kind) rest) lists
  row-parts space =
      subst (λ (ps : List (Slot × ℕ)). IsEnough ps lists)
      (flat_map-cons (parts_by kind) row rest) space

  pub own-parts : HasRowSpace kind (row ∷ rest) lists → IsEnough (parts_by kind row) lists
  own-parts space =
      enough-front (parts_by kind row) (flat_map (parts_by kind) rest) lists (row-parts space)

  first-enough : HasRowSpace kind (row ∷ rest) lists → HasRowSpace kind (row ∷ []) lists
  first-enough space slot =
      let one =
      ap (times slot) (flat_map-cons (parts_by kind) row [])
      ∙ times-append slot (parts_by kind row) [] in
      let h = own-parts space slot in
      omega (arith, one, h)

pub first-space : (row : Filed) (rest : List Filed) (r : Register) → HasSpace (row ∷ rest) r
    → HasSpace (row ∷ []) r
first-space row rest r space = record {
  words = first-enough Words row rest r.words space.words;
  anywhere = first-enough Anywhere row rest r.anywhere space.anywhere;
  whole = first-enough Whole row rest r.whole space.whole;
}

-- what is enough for a row and others is enough for the row
pub first-room : (row : Filed) (rest : List Filed) (l : Listings) → HasRoom (row ∷ rest) l
    → HasRoom (row ∷ []) l
first-room row rest l room = record {
  space = first-space row rest l.register room.space;
  behind = omega (arith, room.behind);
  few = omega (arith, room.few);
}
