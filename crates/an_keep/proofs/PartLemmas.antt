-- Cells in two parts: a change in the part that it is of is a change of both together.
use Rattle.std.proofs.Common.{◌≡◌, ℕ, suc, Bool, true, false, not, List, [], ◌∷◌, ◌++◌, ◌&&◌, ◌==◌, length, nat_lt, refl, sym, ap, ◌∙◌, arith, Option, Some, None}
use Rattle.std.specs.List.{prefix_len, list_all}
use Rattle.std.proofs.lemmas.Bool.{and_parts, and_from}
use Rattle.std.proofs.lemmas.Bool.Decides.{nat_tests}
use Rattle.std.proofs.lemmas.List.{append-nil}
use Rattle.std.proofs.lemmas.List.Elements.{filter-append}
use Rattle.std.proofs.lemmas.List.Folds.{find-append, list_all-append}
use Rattle.an_keep.specs.declared.cell.Cell.{Cell}
use Rattle.an_keep.specs.declared.cell.Change.{Change}
use Rattle.an_keep.specs.Cells.{is_at, is_before, is_behind, is_late, Ascend, Part, put_cell, take_cell, put_change, next_after}
use Rattle.an_keep.proofs.CellLemmas.{all-mono, all-filter, filter-all, all_behind, none_at, put-all, put_change-ascends, prefix-more, prefix-none, before-not_at, behind-not_at}

-- ---- what both parts have, each has

pub all-parts : {X : Type 0} (p : X → Bool) (xs ys : List X) → list_all p (xs ++ ys) ≡ true
    → (list_all p xs ≡ true) × (list_all p ys ≡ true)
all-parts p xs ys h = and_parts (list_all p xs) (list_all p ys) (sym (list_all-append p xs ys) ∙ h)

pub rows_ascend : (rows log : List Cell) → Ascend (rows ++ log) → Ascend rows
rows_ascend [] log h = refl
rows_ascend (first ∷ rows) log h =
    let parts = and_parts (list_all (is_behind first.tab first.key) (rows ++ log)) _ h in
    and_from (list_all (is_behind first.tab first.key) rows) _
    (all-parts (is_behind first.tab first.key) rows log parts.0).0 (rows_ascend rows log parts.1)

pub log_ascends : (rows log : List Cell) → Ascend (rows ++ log) → Ascend log
log_ascends [] log h = h
log_ascends (first ∷ rows) log h =
    log_ascends rows log (and_parts (list_all (is_behind first.tab first.key) (rows ++ log)) _ h).1

-- the model where the log has none
pub rows_alone : (rows : List Cell) → rows ++ [] ≡ rows
rows_alone rows = append-nil rows

-- ---- the next cell

pub next_in_rows : (tab key : ℕ) (rows log : List Cell) (cell : Cell)
    → Some cell ≡ next_after tab key rows → Some cell ≡ next_after tab key (rows ++ log)
next_in_rows tab key rows log cell h = rw (find-append (is_behind tab key) rows log, ← h) refl

pub next_in_log : (tab key : ℕ) (rows log : List Cell) → None ≡ next_after tab key rows
    → next_after tab key log ≡ next_after tab key (rows ++ log)
next_in_log tab key rows log h = rw (find-append (is_behind tab key) rows log, ← h) refl

pub ruleset next_in_parts = (next_in_rows, next_in_log)

-- ---- the part that a change is of

zero-is_less : (n : ℕ) → (0 == suc n) ≡ false
zero-is_less n = grind (arith, nat_tests)

suc-same : (m n : ℕ) → (suc m == suc n) ≡ (m == n)
suc-same m n = grind (arith, nat_tests)

pub all_before : (p : Cell → Bool) (cells : List Cell)
    → (prefix_len p cells == length cells) ≡ list_all p cells
all_before p [] = refl
all_before p (first ∷ cells) = by (p first) refl (all_before p cells)
  where
    by : (b : Bool) → p first ≡ b → (prefix_len p cells == length cells) ≡ list_all p cells
        → (prefix_len p (first ∷ cells) == length (first ∷ cells)) ≡ list_all p (first ∷ cells)
    by true e rest =
        rw (prefix-more p first cells e, e) (suc-same (prefix_len p cells) (length cells) ∙ rest)
    by false e rest = rw (prefix-none p first cells e, e) (zero-is_less (length cells))

-- where not all rows come before a place, the log comes behind it
log_behind : (tab key : ℕ) (rows log : List Cell) → Ascend (rows ++ log)
    → list_all (is_before tab key) rows ≡ false → list_all (is_behind tab key) log ≡ true
log_behind tab key [] log h not_all = cc
log_behind tab key (first ∷ rows) log h not_all =
    by (is_before tab key first) refl
    (log_behind tab key rows log
    (and_parts (list_all (is_behind first.tab first.key) (rows ++ log)) _ h).1)
  where
    by : (b : Bool) → is_before tab key first ≡ b
        → (list_all (is_before tab key) rows ≡ false → list_all (is_behind tab key) log ≡ true)
        → list_all (is_behind tab key) log ≡ true
    by true e rest = rest (rw e at not_all)
    by false e rest =
        (all-parts (is_behind tab key) rows log (all_behind tab key first (rows ++ log) e h)).1

late-behind : (tab key : ℕ) (cell : Cell) → nat_lt tab 4 ≡ true → is_late cell ≡ true
    → is_behind tab key cell ≡ true
late-behind tab key cell h k = grind (arith, nat_tests)

-- a change that is not of the log has its place before it
else_behind : (tab key : ℕ) (rows log : List Cell) → Part rows log
    → (not (nat_lt tab 4) && list_all (is_before tab key) rows) ≡ false
    → list_all (is_behind tab key) log ≡ true
else_behind tab key rows log part is = by (nat_lt tab 4) refl
  where
    by : (b : Bool) → nat_lt tab 4 ≡ b → list_all (is_behind tab key) log ≡ true
    by true e =
        all-mono is_late (is_behind tab key) log
        (λ cell late. late-behind tab key cell e late) part.1
    by false e = log_behind tab key rows log part.0 (rw e at is)

-- ---- a change behind all rows

put-behind : (cell : Cell) (rows log : List Cell)
    → list_all (is_before cell.tab cell.key) rows ≡ true
    → put_cell cell (rows ++ log) ≡ rows ++ put_cell cell log
put-behind cell [] log h = refl
put-behind cell (first ∷ rows) log h =
    let parts = and_parts (is_before cell.tab cell.key first) _ h in
    rw parts.0 (ap (λ ys. first ∷ ys) (put-behind cell rows log parts.1))

take-behind : (tab key : ℕ) (rows log : List Cell) → list_all (is_before tab key) rows ≡ true
    → take_cell tab key (rows ++ log) ≡ rows ++ take_cell tab key log
take-behind tab key rows log h =
    let kept = filter-all (λ cell. not (is_at tab key cell)) rows
    (all-mono (is_before tab key) (λ cell. not (is_at tab key cell)) rows
    (λ cell k. ap not (before-not_at tab key cell k)) h) in
    filter-append (λ cell. not (is_at tab key cell)) rows log
    ∙ ap (λ ys. ys ++ take_cell tab key log) kept

change-behind : (change : Change) (rows log : List Cell)
    → list_all (is_before change.tab change.key) rows ≡ true
    → put_change change (rows ++ log) ≡ rows ++ put_change change log
change-behind change rows log h = by change.val refl
  where
    by : (val : Option (List ℕ)) → change.val ≡ val
        → put_change change (rows ++ log) ≡ rows ++ put_change change log
    by None e = rw e (take-behind change.tab change.key rows log h)
    by (Some val) e =
        rw e (put-behind (record { tab = change.tab; key = change.key; val = val }) rows log h)

-- ---- a change before the log

behind-not_before : (tab key : ℕ) (cell : Cell) → is_behind tab key cell ≡ true
    → is_before tab key cell ≡ false
behind-not_before tab key cell h = grind (arith, nat_tests)

put_first : (cell : Cell) (log : List Cell) → list_all (is_behind cell.tab cell.key) log ≡ true
    → put_cell cell log ≡ (cell ∷ log)
put_first cell [] h = refl
put_first cell (first ∷ log) h =
    let behind = (and_parts (is_behind cell.tab cell.key first) _ h).0 in
    rw
    (behind-not_before cell.tab cell.key first behind, behind-not_at cell.tab cell.key first behind)
    refl

put-before : (cell : Cell) (rows log : List Cell)
    → list_all (is_behind cell.tab cell.key) log ≡ true
    → put_cell cell (rows ++ log) ≡ put_cell cell rows ++ log
put-before cell [] log h = put_first cell log h
put-before cell (first ∷ rows) log h =
    by (is_before cell.tab cell.key first) (is_at cell.tab cell.key first) refl refl
    (put-before cell rows log h)
  where
    by : (b a : Bool) → is_before cell.tab cell.key first ≡ b → is_at cell.tab cell.key first ≡ a
        → put_cell cell (rows ++ log) ≡ put_cell cell rows ++ log
        → put_cell cell (first ∷ rows ++ log) ≡ put_cell cell (first ∷ rows) ++ log
    by true a e at rest = rw e (ap (λ ys. first ∷ ys) rest)
    by false true e at rest = rw (e, at) refl
    by false false e off rest = rw (e, off) refl

take-before : (tab key : ℕ) (rows log : List Cell) → list_all (is_behind tab key) log ≡ true
    → take_cell tab key (rows ++ log) ≡ take_cell tab key rows ++ log
take-before tab key rows log h =
    filter-append (λ cell. not (is_at tab key cell)) rows log
    ∙ ap (λ ys. take_cell tab key rows ++ ys) (none_at tab key log h)

change-before : (change : Change) (rows log : List Cell)
    → list_all (is_behind change.tab change.key) log ≡ true
    → put_change change (rows ++ log) ≡ put_change change rows ++ log
change-before change rows log h = by change.val refl
  where
    by : (val : Option (List ℕ)) → change.val ≡ val
        → put_change change (rows ++ log) ≡ put_change change rows ++ log
    by None e = rw e (take-before change.tab change.key rows log h)
    by (Some val) e =
        rw e (put-before (record { tab = change.tab; key = change.key; val = val }) rows log h)

-- ---- the same as the code finds it

-- the log has late cells alone behind a change of a late table
change-late : (change : Change) (log : List Cell) → nat_lt change.tab 4 ≡ false
    → list_all is_late log ≡ true → list_all is_late (put_change change log) ≡ true
change-late change log late h = by change.val refl
  where
    by : (val : Option (List ℕ)) → change.val ≡ val
        → list_all is_late (put_change change log) ≡ true
    by None e = rw e (all-filter is_late (λ cell. not (is_at change.tab change.key cell)) log h)
    by (Some val) e =
        rw e (put-all is_late (record { tab = change.tab; key = change.key; val = val }) log
        (ap not late) h)

is_late_table : (b c : Bool) → (not b && c) ≡ true → (b ≡ false) × (c ≡ true)
is_late_table true c h = cc
is_late_table false c h = (refl, h)

pub in_log : (change : Change) (rows log : List Cell)
    → (not (nat_lt change.tab 4) && list_all (is_before change.tab change.key) rows) ≡ true
    → rows ++ put_change change log ≡ put_change change (rows ++ log)
in_log change rows log is =
    sym (change-behind change rows log
    (is_late_table (nat_lt change.tab 4) (list_all (is_before change.tab change.key) rows) is).1)

pub in_log_part : (change : Change) (rows log : List Cell) → Part rows log
    → (not (nat_lt change.tab 4) && list_all (is_before change.tab change.key) rows) ≡ true
    → Part rows (put_change change log)
in_log_part change rows log part is = (
  rw (in_log change rows log is) (put_change-ascends change (rows ++ log) part.0),
  change-late change log
      (is_late_table (nat_lt change.tab 4) (list_all (is_before change.tab change.key) rows) is).0
      part.1,
)

pub in_rows : (change : Change) (rows log : List Cell) → Part rows log
    → (not (nat_lt change.tab 4) && list_all (is_before change.tab change.key) rows) ≡ false
    → put_change change rows ++ log ≡ put_change change (rows ++ log)
in_rows change rows log part is =
    sym (change-before change rows log (else_behind change.tab change.key rows log part is))

pub in_rows_part : (change : Change) (rows log : List Cell) → Part rows log
    → (not (nat_lt change.tab 4) && list_all (is_before change.tab change.key) rows) ≡ false
    → Part (put_change change rows) log
in_rows_part change rows log part is =
    (rw (in_rows change rows log part is) (put_change-ascends change (rows ++ log) part.0), part.1)
