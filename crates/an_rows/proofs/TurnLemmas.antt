-- Changes that write cells anew make of the cells before those after them.
use Rattle.std.proofs.Common.{◌≡◌, ℕ, Bool, true, false, List, [], ◌∷◌, ◌++◌, refl, sym, ap, ◌∙◌, arith, append_assoc, map}
use Rattle.std.specs.Prelude.{◌&&◌, ◌==◌, Option, Some, None, option_map, unwrap_or}
use Rattle.std.specs.List.{filter_map, list_all}
use Rattle.std.proofs.lemmas.Bool.{cond-true, cond-false, and_parts, and_from}
use Rattle.std.proofs.lemmas.Bool.Decides.{nat_tests}
use Rattle.std.proofs.lemmas.List.Folds.{list_all-append}
use Rattle.an_keep.specs.declared.cell.Cell.{Cell}
use Rattle.an_keep.specs.declared.cell.Change.{Change}
use Rattle.an_keep.specs.Cells.{Ascend, comes_before, is_ascending, is_before, is_behind, put_cell, put_changes}
use Rattle.an_rows.proofs.CellLemmas.{put_cell-past}

-- where a cell stands, what it has, and what it gets, if it is written anew
pub record Turn : Type 0 where
  pub tab : ℕ
  pub key : ℕ
  pub was : List ℕ
  pub now : Option (List ℕ)

-- the cell before
abbrev pub old_cell : Turn → Cell
old_cell turn = record { tab = turn.tab; key = turn.key; val = turn.was }

-- the cell after it
abbrev pub new_cell : Turn → Cell
new_cell turn = record { tab = turn.tab; key = turn.key; val = unwrap_or turn.now turn.was }

-- the change that writes it anew
abbrev pub turn_change : Turn → Option Change
turn_change turn =
    option_map (λ val. record { tab = turn.tab; key = turn.key; val = Some val }) turn.now

-- the changes of all that are written anew, in order
abbrev pub turn_changes : List Turn → List Change
turn_changes turns = filter_map turn_change turns

not_before-itself : (tab key : ℕ) → comes_before tab key tab key ≡ false
not_before-itself tab key = grind (arith, nat_tests)

at-itself : (tab key : ℕ) → (tab == tab && key == key) ≡ true
at-itself tab key = grind (arith, nat_tests)

-- a cell takes the place of the one that stands there
put_cell-there : (tab key : ℕ) (was val : List ℕ) (more : List Cell)
    → put_cell (record { tab = tab; key = key; val = val })
    (record { tab = tab; key = key; val = was } ∷ more)
    ≡ record { tab = tab; key = key; val = val } ∷ more
put_cell-there tab key was val more =
    cond-false _ _ _ (not_before-itself tab key) ∙ cond-true _ _ _ (at-itself tab key)

-- all cells so far come before this one
abbrev comes_behind : List Cell → Turn → Bool
comes_behind done turn = list_all (is_before turn.tab turn.key) done

-- one cell more comes before those that are left
one-more : (done : List Cell) (cell : Cell) (turns : List Turn)
    → list_all (comes_behind done) turns ≡ true
    → list_all (is_behind cell.tab cell.key) (map old_cell turns) ≡ true
    → list_all (comes_behind (done ++ cell ∷ [])) turns ≡ true
one-more done cell [] so_far behind = refl
one-more done cell (turn ∷ turns) so_far behind =
    let here = and_parts (comes_behind done turn) _ so_far in
    let next = and_parts (is_behind cell.tab cell.key (old_cell turn)) _ behind in
    and_from _ _ (list_all-append (is_before turn.tab turn.key) done (cell ∷ [])
    ∙ and_from _ _ here.0 (and_from _ _ next.0 refl))
    (one-more done cell turns here.1 next.1)

-- what stands for the turns that are left, behind any cells that come before them
abbrev Later : List Turn → Type 0
Later turns =
    (done : List Cell) → list_all (comes_behind done) turns ≡ true
    → is_ascending (map old_cell turns) ≡ true
    → put_changes (turn_changes turns) (done ++ map old_cell turns) ≡ done ++ map new_cell turns

turned-next : (turn : Turn) (turns : List Turn) → Later turns → Later (turn ∷ turns)
turned-next turn turns later done so_far ascend = by turn.now refl
  where
    by : (now : Option (List ℕ)) → turn.now ≡ now
        → put_changes (turn_changes (turn ∷ turns)) (done ++ map old_cell (turn ∷ turns))
        ≡ done ++ map new_cell (turn ∷ turns)
    by None e =
        let here = and_parts (comes_behind done turn) _ so_far in
        let next =
        and_parts (list_all (is_behind turn.tab turn.key) (map old_cell turns)) _ ascend in
        let old = old_cell turn in
        rw e (ap (put_changes (turn_changes turns))
        (sym (append_assoc done (old ∷ []) (map old_cell turns)))
        ∙ later (done ++ old ∷ []) (one-more done old turns here.1 next.0) next.1
        ∙ append_assoc done (old ∷ []) (map new_cell turns))
    by (Some val) e =
        let here = and_parts (comes_behind done turn) _ so_far in
        let next =
        and_parts (list_all (is_behind turn.tab turn.key) (map old_cell turns)) _ ascend in
        let new : Cell = record { tab = turn.tab; key = turn.key; val = val } in
        rw e (ap (put_changes (turn_changes turns))
        (put_cell-past new done (map old_cell (turn ∷ turns)) here.0
        ∙ ap (λ l. done ++ l) (put_cell-there turn.tab turn.key turn.was val (map old_cell turns))
        ∙ sym (append_assoc done (new ∷ []) (map old_cell turns)))
        ∙ later (done ++ new ∷ []) (one-more done new turns here.1 next.0) next.1
        ∙ append_assoc done (new ∷ []) (map new_cell turns))

turned : (turns : List Turn) → Later turns
turned [] = λ done so_far ascend. refl
turned (turn ∷ turns) = turned-next turn turns (turned turns)

none-so_far : (turns : List Turn) → list_all (comes_behind []) turns ≡ true
none-so_far [] = refl
none-so_far (turn ∷ turns) = none-so_far turns

pub turns-lead : (turns : List Turn) → Ascend (map old_cell turns)
    → put_changes (turn_changes turns) (map old_cell turns) ≡ map new_cell turns
turns-lead turns ascend = turned turns [] (none-so_far turns) ascend
