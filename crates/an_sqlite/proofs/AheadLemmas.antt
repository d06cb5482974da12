-- The rows that were read ahead are the next cells behind their place.
use Rattle.std.proofs.Common.{◌≡◌, inl, inr, ℕ, suc, ◌+◌, ◌-◌, ◌<◌, ◌≤◌, ◌^◌, min, Bool, true, false, List, [], ◌∷◌, ◌++◌, map, take, drop, filter, find, slice_get, Option, Some, None, IfSome, IsSome, Result, Ok, Err, IfOk, OnErr, IsTrue, refl, sym, ap, subst, ◌∙◌, arith, add-one, drop-cons, append_assoc, true≢false}
use Rattle.std.specs.List.{list_all}
use Rattle.std.proofs.lemmas.Bool.{and_parts}
use Rattle.std.proofs.lemmas.Bool.Decides.{nat_tests}
use Rattle.std.proofs.lemmas.List.{map-append, take-append-drop}
use Rattle.std.proofs.lemmas.Option.{slice_get_within, get_or_from_slice_get}
use Rattle.sqlite.specs.Held.{Held, state}
use Rattle.sqlite.specs.State.{State, HasCleanDisk}
use Rattle.sqlite_trees.specs.declared.store.Store.{Ghosts}
use Rattle.sqlite_value.specs.Order.{Row}
use Rattle.sqlite_rules.proofs.ListLemmas.{has_found}
use Rattle.an_keep.specs.declared.cell.Cell.{Cell}
use Rattle.an_keep.specs.Cells.{Ascend, is_behind, next_after}
use Rattle.an_keep.proofs.CellLemmas.{before-trans, all-mono, filter-all}
use Rattle.an_sqlite.specs.declared.ahead.Ahead.{Ahead}
use Rattle.an_sqlite.specs.Ahead.{AreNext, Gives, GivesNone, HaveRead, IsReadFor, MayGive}
use Rattle.an_sqlite.specs.Cells.{shown_cell}
use Rattle.an_sqlite.specs.Later.{IsFrontOf, ShowsBehind, ShowsFirst, is_in_later, is_later_in, shown_behind}
use Rattle.an_sqlite.specs.Row.{Shows}
use Rattle.an_sqlite.specs.Tells.{Tells, cells_of}
use Rattle.an_sqlite.proofs.FirstLemmas.{cell_is, cells_still}
use Rattle.an_sqlite.proofs.TableLemmas.{table_ascends}

-- ---- lists

take_none : {X : Type 0} (xs : List X) → take 100 xs ≡ [] → xs ≡ []
take_none [] none = refl
take_none (x ∷ xs) none = absurd cc

none_got : {X : Type 0} (xs : List X) → slice_get xs 0 ≡ None → xs ≡ []
none_got [] none = refl
none_got (x ∷ xs) none = absurd cc

drop_next : {X : Type 0} (xs : List X) (i : ℕ) (x : X) → slice_get xs i ≡ Some x
    → drop i xs ≡ x ∷ drop (i + 1) xs
drop_next xs i x is =
    let within : i < _ = slice_get_within xs i x is in
    rw add-one
    (drop-cons xs i x within ∙ ap (λ y. y ∷ drop (suc i) xs) (get_or_from_slice_get xs i x x is))

map_parts : {X Y : Type 0} (f : X → Y) (xs : List X) (y : Y) (ys : List Y) → map f xs ≡ y ∷ ys
    → (x : X) × (more : List X) × (xs ≡ x ∷ more) × (y ≡ f x) × (ys ≡ map f more)
map_parts f [] y ys is = absurd cc
map_parts f (x ∷ xs) y ys is = (x, xs, refl, cc, cc)

found_first : {X : Type 0} (p : X → Bool) (xs : List X) (x : X) (more : List X)
    → filter p xs ≡ x ∷ more → find p xs ≡ Some x
found_first p [] x more is = absurd cc
found_first p (y ∷ xs) x more is = by (p y) refl is (found_first p xs x more)
  where
    by : (b : Bool) → p y ≡ b → filter p (y ∷ xs) ≡ x ∷ more
        → (filter p xs ≡ x ∷ more → find p xs ≡ Some x) → find p (y ∷ xs) ≡ Some x
    by true e is rest = let at : y ∷ filter p xs ≡ x ∷ more = rw e at is in rw e (ap Some cc)
    by false e is rest = rw e (rest (rw e at is))

found_none : {X : Type 0} (p : X → Bool) (xs : List X) → filter p xs ≡ [] → find p xs ≡ None
found_none p [] is = refl
found_none p (y ∷ xs) is = by (p y) refl is (found_none p xs)
  where
    by : (b : Bool) → p y ≡ b → filter p (y ∷ xs) ≡ [] → (filter p xs ≡ [] → find p xs ≡ None)
        → find p (y ∷ xs) ≡ None
    by true e is rest = let at : y ∷ filter p xs ≡ [] = rw e at is in absurd cc
    by false e is rest = rw e (rest (rw e at is))

-- ---- the cells behind a place

-- behind the first of those behind a place are the others
others : (tab key : ℕ) (cells : List Cell) (c : Cell) (more : List Cell) → Ascend cells
    → filter (is_behind tab key) cells ≡ c ∷ more → filter (is_behind c.tab c.key) cells ≡ more
others tab key [] c more up is = absurd cc
others tab key (x ∷ cells) c more up is =
    by (is_behind tab key x) refl is (λ all. others tab key cells c more parts.1 all)
  where
    parts : IsTrue (list_all (is_behind x.tab x.key) cells) × Ascend cells
    parts = and_parts (list_all (is_behind x.tab x.key) cells) _ up

    itself : is_behind x.tab x.key x ≡ false
    itself = grind (arith, nat_tests)

    before : is_behind tab key c ≡ true → is_behind tab key x ≡ false
        → is_behind c.tab c.key x ≡ false
    before h off = grind (arith, nat_tests)

    by : (b : Bool) → is_behind tab key x ≡ b → filter (is_behind tab key) (x ∷ cells) ≡ c ∷ more
        → (filter (is_behind tab key) cells ≡ c ∷ more
        → filter (is_behind c.tab c.key) cells ≡ more)
        → filter (is_behind c.tab c.key) (x ∷ cells) ≡ more
    by true e is later =
        let all : x ∷ filter (is_behind tab key) cells ≡ c ∷ more = rw e at is in
        let first : x ≡ c = cc in
        let rest : filter (is_behind tab key) cells ≡ more = cc in
        let late : list_all (is_behind tab key) cells ≡ true =
        all-mono (is_behind x.tab x.key) (is_behind tab key) cells
        (λ y h. before-trans tab key x.tab x.key y.tab y.key e h) parts.0 in
        subst (λ (y : Cell). filter (is_behind y.tab y.key) (x ∷ cells) ≡ more) first
        (rw itself (filter-all (is_behind x.tab x.key) cells parts.0
        ∙ sym (filter-all (is_behind tab key) cells late) ∙ rest))
    by false e is later =
        let all : filter (is_behind tab key) cells ≡ c ∷ more = rw e at is in
        let behind : is_behind tab key c ≡ true =
        (has_found (is_behind tab key) cells c
        (found_first (is_behind tab key) cells c more all)).1 in
        rw (before behind e) (later all)

none_later : (tab key : ℕ) (c : Cell) (cells : List Cell) → is_in_later tab c ≡ true
    → list_all (is_behind c.tab c.key) cells ≡ true → filter (is_later_in tab key) cells ≡ []
none_later tab key c [] late up = refl
none_later tab key c (x ∷ cells) late up =
    let parts = and_parts (is_behind c.tab c.key x) _ up in
    let off : is_later_in tab key x ≡ false = elsewhere x parts.0 in
    rw off (none_later tab key c cells late parts.1)
  where
    elsewhere : (x : Cell) → is_behind c.tab c.key x ≡ true → is_later_in tab key x ≡ false
    elsewhere x h = grind (arith, nat_tests)

-- those behind a place are the later ones of its table, and then those of later tables
behind_parts : (tab key : ℕ) (cells : List Cell) → Ascend cells
    → filter (is_behind tab key) cells
    ≡ filter (is_later_in tab key) cells ++ filter (is_in_later tab) cells
behind_parts tab key [] up = refl
behind_parts tab key (c ∷ cells) up =
    let parts = and_parts (list_all (is_behind c.tab c.key) cells) _ up in
    by (is_in_later tab c) (is_later_in tab key c) refl refl parts.0
    (behind_parts tab key cells parts.1)
  where
    is_late : is_in_later tab c ≡ true → is_behind tab key c ≡ true
    is_late h = grind (arith, nat_tests)

    off : is_in_later tab c ≡ true → is_later_in tab key c ≡ false
    off h = grind (arith, nat_tests)

    is_later : is_later_in tab key c ≡ true → is_behind tab key c ≡ true
    is_later h = grind (arith, nat_tests)

    is_not : is_in_later tab c ≡ false → is_later_in tab key c ≡ false → is_behind tab key c ≡ false
    is_not h k = grind (arith, nat_tests)

    by : (late later : Bool) → is_in_later tab c ≡ late → is_later_in tab key c ≡ later
        → list_all (is_behind c.tab c.key) cells ≡ true
        → filter (is_behind tab key) cells
        ≡ filter (is_later_in tab key) cells ++ filter (is_in_later tab) cells
        → filter (is_behind tab key) (c ∷ cells)
        ≡ filter (is_later_in tab key) (c ∷ cells) ++ filter (is_in_later tab) (c ∷ cells)
    by true later e f up rest =
        let none = none_later tab key c cells e up in
        rw (is_late e, off e, e, none)
        (ap (λ ys. c ∷ ys) (rest ∙ ap (λ ys. ys ++ filter (is_in_later tab) cells) none))
    by false true e f up rest = rw (is_later f, f, e) (ap (λ ys. c ∷ ys) rest)
    by false false e f up rest = rw (is_not e f, f, e) rest

-- ---- what the two selects show

module _ (tab key : ℕ) (cells : List Cell) (up : Ascend cells) where
  abbrev later : List Row
  later = map shown_cell (filter (is_later_in tab key) cells)

  abbrev in_later : List Row
  in_later = map shown_cell (filter (is_in_later tab) cells)

  parted : shown_behind tab key cells ≡ later ++ in_later
  parted =
      ap (map shown_cell) (behind_parts tab key cells up)
      ∙ map-append shown_cell (filter (is_later_in tab key) cells) (filter (is_in_later tab) cells)

  pub first_rows : (rows : List Row) → (rows ≡ [] → ⊥) → ShowsFirst (is_later_in tab key) cells rows
      → ShowsBehind tab key cells rows
  first_rows rows some is = record {
    front = (
      drop 100 later ++ in_later,
      parted ∙ ap (λ ys. ys ++ in_later) (sym (take-append-drop 100 later))
          ∙ append_assoc (take 100 later) (drop 100 later) in_later
          ∙ ap (λ ys. ys ++ (drop 100 later ++ in_later)) (sym is),
    );
    none = λ none. absurd (some none);
  }

  pub later_rows : (rows : List Row) → ShowsFirst (is_later_in tab key) cells []
      → ShowsFirst (is_in_later tab) cells rows → ShowsBehind tab key cells rows
  later_rows rows none is =
      let no_later : later ≡ [] = take_none later (sym none) in
      let all : shown_behind tab key cells ≡ in_later =
      parted ∙ ap (λ ys. ys ++ in_later) no_later in
      record {
        front = (
          drop 100 in_later,
          all ∙ sym (take-append-drop 100 in_later)
              ∙ ap (λ ys. ys ++ drop 100 in_later) (sym is),
        );
        none =
            λ empty. none_shown (filter (is_behind tab key) cells)
            (all ∙ take_none in_later (sym is ∙ empty));
      }
    where
      none_shown : (xs : List Cell) → map shown_cell xs ≡ [] → xs ≡ []
      none_shown [] is = refl
      none_shown (x ∷ xs) is = absurd cc

-- ---- the rows read, of the table or of later ones

pub cells_ascend : (s : State) → Ascend (cells_of s)
cells_ascend s = table_ascends (s.now.trees 0)

module _ (tab key : ℕ) (old mid : State) (rows : List Row) (low : key < 2 ^ 63)
    (first : ShowsFirst (is_later_in tab (min key (2 ^ 63 - 1))) (cells_of old) rows) where
  shown_first : ShowsFirst (is_later_in tab key) (cells_of old) rows
  shown_first = let same : min key (2 ^ 63 - 1) ≡ key = grind arith in rw same at first

  pub reads_first : (rows ≡ [] → ⊥) → ShowsBehind tab key (cells_of old) rows
  reads_first some = first_rows tab key (cells_of old) (cells_ascend old) rows some shown_first

  pub reads_later : (others : List Row) → rows ≡ [] → mid.now ≡ old.now
      → ShowsFirst (is_in_later tab) (cells_of mid) others
      → ShowsBehind tab key (cells_of old) others
  reads_later others none same is =
      later_rows tab key (cells_of old) (cells_ascend old) others
      (subst (ShowsFirst (is_later_in tab key) (cells_of old)) none shown_first)
      (subst (λ cells. ShowsFirst (is_in_later tab) cells others) (cells_still old mid same) is)

-- ---- one row given

given_next : (rows : List Row) (given tab key : ℕ) (row : Row) (cell : Cell) (cells : List Cell)
    → Ascend cells → slice_get rows given ≡ Some row → Shows row cell
    → IsFrontOf (drop given rows) (shown_behind tab key cells)
    → (next_after tab key cells ≡ Some cell)
    × IsFrontOf (drop (given + 1) rows) (shown_behind cell.tab cell.key cells)
given_next rows given tab key row cell cells up is shows front =
    let next =
    map_parts shown_cell (filter (is_behind tab key) cells) row (drop (given + 1) rows ++ front.0)
    (front.1 ∙ ap (λ ys. ys ++ front.0) (drop_next rows given row is)) in
    let same : cell ≡ next.0 = cell_is row next.0 cell next.3 shows in
    let found = found_first (is_behind tab key) cells next.0 next.1 next.2 in
    let left = others tab key cells next.0 next.1 up next.2 in (
      found ∙ ap Some (sym same),
      subst (λ (c : Cell). IsFrontOf (drop (given + 1) rows) (shown_behind c.tab c.key cells))
          (sym same) (front.0, ap (map shown_cell) left ∙ sym next.4),
    )

some_row : (next : Option Row) (cell : Cell) → IfSome next (λ row. Shows row cell) → IsSome next
    → (row : Row) × (next ≡ Some row) × Shows row cell
some_row None cell shown there = absurd cc
some_row (Some row) cell shown there = (row, refl, shown)

module _ (tab key : ℕ) (old new : Ahead) (cell : Cell) (cells : List Cell) (up : Ascend cells)
    (gives : Gives tab key old new cell) (next : AreNext (Some old) cells) where
  given_both : (next_after old.tab old.key cells ≡ Some cell)
      × IsFrontOf (drop (old.given + 1) old.rows.items) (shown_behind cell.tab cell.key cells)
  given_both =
      let row = some_row (slice_get old.rows.items old.given) cell gives.shown gives.there in
      given_next old.rows.items old.given old.tab old.key row.0 cell cells up row.1 row.2 next

  pub gives_next : next_after tab key cells ≡ Some cell
  gives_next = rw (← gives.tab_asked, ← gives.key_asked) given_both.0

  pub gives_left : AreNext (Some new) cells
  gives_left = rw (gives.given, gives.rows, gives.tab_next, gives.key_next) given_both.1

pub gives_none : (tab key : ℕ) (old new : Ahead) (cells : List Cell) → Ascend cells
    → GivesNone tab key old new → IsReadFor tab key cells old → next_after tab key cells ≡ None
gives_none tab key old new cells up gives read = elim (gives.none read.tab_is read.key_is) [
  | inl none ↦
      found_none (is_behind tab key) cells
      (read.shown.none
      (none_got old.rows.items (subst (λ n. slice_get old.rows.items n ≡ None) read.fresh none)))
  | inr other ↦
      let row = some_row (slice_get old.rows.items old.given) other.cell other.shown other.there in
      let at : slice_get old.rows.items 0 ≡ Some row.0 =
      subst (λ n. slice_get old.rows.items n ≡ Some row.0) read.fresh row.1 in
      let found =
      (given_next old.rows.items 0 tab key row.0 other.cell cells up at row.2 read.shown.front).0 in
      absurd
      (true≢false (sym (has_found (is_behind tab key) cells other.cell found).1 ∙ other.before))
]

module _ {E : Type 0} (tab key : ℕ) (old new : Ahead) (cells : List Cell) (up : Ascend cells) where
  pub may_next : (r : Result (Option Cell) E) → IfOk r (MayGive tab key old new)
      → AreNext (Some old) cells
      → IfOk r (λ cell. IfSome cell (λ c. next_after tab key cells ≡ Some c))
  may_next (Err e) gives next = tt
  may_next (Ok None) gives next = tt
  may_next (Ok (Some cell)) gives next = gives_next tab key old new cell cells up gives next

  pub may_left : (r : Result (Option Cell) E) → IfOk r (MayGive tab key old new)
      → OnErr r (new ≡ old) → AreNext (Some old) cells → AreNext (Some new) cells
  may_left (Err e) gives kept next = subst (λ a. AreNext (Some a) cells) (sym kept) next
  may_left (Ok None) gives kept next = subst (λ a. AreNext (Some a) cells) (sym gives.same) next
  may_left (Ok (Some cell)) gives kept next = gives_left tab key old new cell cells up gives next

  pub may_none : (r : Result (Option Cell) E) → IfOk r (MayGive tab key old new)
      → IsReadFor tab key cells old → r ≡ Ok None → next_after tab key cells ≡ None
  may_none r gives read is =
      gives_none tab key old new cells up
      (subst (λ it. IfOk it (MayGive tab key old new)) is gives) read

-- rows that were just read are the next
pub read_next : (tab key : ℕ) (cells : List Cell) (ahead : Ahead) → IsReadFor tab key cells ahead
    → AreNext (Some ahead) cells
read_next tab key cells ahead read = rw (read.fresh, read.tab_is, read.key_is) read.shown.front

pub have_next : (tab key : ℕ) (cells : List Cell) (ahead : Option Ahead)
    → HaveRead tab key cells ahead → AreNext ahead cells
have_next tab key cells None read = absurd read
have_next tab key cells (Some ahead) read = read_next tab key cells ahead read

-- what was read stands for the cells of the connection before and behind
pub have_read : {S : Type 0} (g : Ghosts S) (tab key : ℕ) (old before read new : Held S)
    (ahead : Option Ahead) → before ≡ old → new ≡ read → HasCleanDisk (state g new)
    → Tells (state g old)
    → (HasCleanDisk (state g read) → Tells (state g before)
    → HaveRead tab key (cells_of (state g before)) ahead)
    → HaveRead tab key (cells_of (state g old)) ahead
have_read g tab key old before read new ahead was is clean tells have =
    subst (λ h. HaveRead tab key (cells_of (state g h)) ahead) was
    (have (subst (λ h. HasCleanDisk (state g h)) is clean)
    (subst (λ h. Tells (state g h)) (sym was) tells))

pub found_or_none : {E : Type 0} (next : Option Cell) (r : Result (Option Cell) E)
    → IfOk r (λ cell. IfSome cell (λ c. next ≡ Some c)) → (r ≡ Ok None → next ≡ None)
    → IfOk r (λ cell. cell ≡ next)
found_or_none next (Err e) found none = tt
found_or_none next (Ok None) found none = sym (none refl)
found_or_none next (Ok (Some cell)) found none = sym found

pub still_next : (old new : Option Ahead) (cells : List Cell) → AreNext old cells → new ≡ old
    → AreNext new cells
still_next old new cells next same = rw same next

-- ---- a key above the last one that a row can have

pub next_clamped : (tab key last : ℕ) (cells : List Cell) (cell : Option Cell)
    → IfSome cell (λ c. c.key ≤ last) → cell ≡ next_after tab (min key last) cells
    → cell ≡ next_after tab key cells
next_clamped tab key last cells None low is = sym (none_found cells (sym is))
  where
    further : (c : Cell) → is_behind tab (min key last) c ≡ false → is_behind tab key c ≡ false
    further c h = grind (arith, nat_tests)

    none_found : (cells : List Cell) → find (is_behind tab (min key last)) cells ≡ None
        → find (is_behind tab key) cells ≡ None
    none_found [] none = refl
    none_found (c ∷ cells) none = by (is_behind tab (min key last) c) refl none (none_found cells)
      where
        by : (b : Bool) → is_behind tab (min key last) c ≡ b
            → find (is_behind tab (min key last)) (c ∷ cells) ≡ None
            → (find (is_behind tab (min key last)) cells ≡ None
            → find (is_behind tab key) cells ≡ None)
            → find (is_behind tab key) (c ∷ cells) ≡ None
        by true e none rest = let at : Some c ≡ None = rw e at none in absurd cc
        by false e none rest = rw (further c e) (rest (rw e at none))
next_clamped tab key last cells (Some c) low is = sym (some_found cells (sym is))
  where
    further : (x : Cell) → is_behind tab (min key last) x ≡ false → is_behind tab key x ≡ false
    further x h = grind (arith, nat_tests)

    nearer : is_behind tab (min key last) c ≡ true → is_behind tab key c ≡ true
    nearer h = grind (arith, nat_tests)

    some_found : (cells : List Cell) → find (is_behind tab (min key last)) cells ≡ Some c
        → find (is_behind tab key) cells ≡ Some c
    some_found [] some = absurd cc
    some_found (x ∷ cells) some = by (is_behind tab (min key last) x) refl some (some_found cells)
      where
        by : (b : Bool) → is_behind tab (min key last) x ≡ b
            → find (is_behind tab (min key last)) (x ∷ cells) ≡ Some c
            → (find (is_behind tab (min key last)) cells ≡ Some c
            → find (is_behind tab key) cells ≡ Some c)
            → find (is_behind tab key) (x ∷ cells) ≡ Some c
        by true e some rest =
            let at : Some x ≡ Some c = rw e at some in
            let same : x ≡ c = cc in
            let behind : is_behind tab key x ≡ true =
            subst (λ (y : Cell). is_behind tab key y ≡ true) (sym same)
            (nearer (subst (λ (y : Cell). is_behind tab (min key last) y ≡ true) same e)) in
            rw behind at
        by false e some rest = rw (further x e) (rest (rw e at some))

pub clamped : {E : Type 0} (tab key : ℕ) (cells : List Cell) (r : Result (Option Cell) E)
    → IfOk r (λ cell. IfSome cell (λ c. c.key < 2 ^ 63))
    → IfOk r (λ cell. cell ≡ next_after tab (min key (2 ^ 63 - 1)) cells)
    → IfOk r (λ cell. cell ≡ next_after tab key cells)
clamped tab key cells (Err e) low is = tt
clamped tab key cells (Ok None) low is = next_clamped tab key (2 ^ 63 - 1) cells None tt is
clamped tab key cells (Ok (Some cell)) low is =
    let fits : cell.key ≤ 2 ^ 63 - 1 = omega arith in
    next_clamped tab key (2 ^ 63 - 1) cells (Some cell) fits is
