-- The cell behind a cell of an ascending list is the one that follows it.
use Rattle.std.proofs.Common.{◌≡◌, Bool, true, false, List, [], ◌∷◌, ◌++◌, refl, arith}
use Rattle.std.specs.Prelude.{find}
use Rattle.std.specs.List.{list_all}
use Rattle.std.proofs.lemmas.Bool.{and_parts}
use Rattle.std.proofs.lemmas.Bool.Decides.{nat_tests}
use Rattle.an_keep.specs.declared.cell.Cell.{Cell}
use Rattle.an_keep.specs.Cells.{is_behind, Ascend, first_of, next_after}
use Rattle.an_keep.proofs.CellLemmas.{before-not_behind}

behind-self : (cell : Cell) → is_behind cell.tab cell.key cell ≡ false
behind-self cell = grind (arith, nat_tests)

-- what holds of all cells holds of one among them
among : (p : Cell → Bool) (front : List Cell) (cell : Cell) (more : List Cell)
    → list_all p (front ++ cell ∷ more) ≡ true → p cell ≡ true
among p [] cell more all = (and_parts (p cell) _ all).0
among p (first ∷ front) cell more all = among p front cell more (and_parts (p first) _ all).1

find-first : (p : Cell → Bool) (cells : List Cell) → list_all p cells ≡ true
    → find p cells ≡ first_of cells
find-first p [] all = refl
find-first p (cell ∷ cells) all = let here = (and_parts (p cell) _ all).0 in rw here refl

pub next-behind : (front : List Cell) (cell : Cell) (more : List Cell)
    → Ascend (front ++ cell ∷ more)
    → next_after cell.tab cell.key (front ++ cell ∷ more) ≡ first_of more
next-behind [] cell more ascend =
    let parts = and_parts (list_all (is_behind cell.tab cell.key) more) _ ascend in
    let self = behind-self cell in
    rw self (find-first (is_behind cell.tab cell.key) more parts.0)
next-behind (first ∷ front) cell more ascend =
    let parts =
    and_parts (list_all (is_behind first.tab first.key) (front ++ cell ∷ more)) _ ascend in
    let not_first =
    before-not_behind first.tab first.key cell.tab cell.key
    (among (is_behind first.tab first.key) front cell more parts.0) in
    rw not_first (next-behind front cell more parts.1)
