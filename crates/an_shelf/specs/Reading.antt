-- How far the cells of a keeper were read.
use Rattle.std.specs.Prelude.{◌≡◌, List, [], ◌∷◌, ◌++◌, Some}
use Rattle.an_keep.specs.Cells.{Ascend}
use Rattle.an_keep.specs.declared.cell.Cell.{Cell}
use Rattle.an_rows.specs.Cells.{cells_in, format_in, format_of}
use Rattle.an_rows.specs.declared.format.Format.{Format}
use Rattle.an_state.specs.State.{State}

-- behind the first cell, which names the format, and those that were read, this one comes next
pub record ComesNext (format : Format) (read : List Cell) (cell : Cell) (cells : List Cell)
    : Type 0 where
  pub first : Cell
  pub more : List Cell
  pub is : cells ≡ first ∷ (read ++ cell ∷ more)
  pub form : format_of first ≡ Some format
  pub ascend : Ascend cells

-- all were read: they are those of this state in the format that the first of them names
pub record WasRead (format : Format) (s : State) (cells : List Cell) : Type 0 where
  pub is : cells ≡ cells_in format s
  pub named : format_in cells ≡ format
  pub some : ¬ (cells ≡ [])
  pub ascend : Ascend cells
