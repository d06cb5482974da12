-- What a keeper tells of its cells, and how a call may change that and the count of faults.
use Rattle.std.specs.Prelude.{◌≡◌, List, Option, Some, None}
use Rattle.an_keep.specs.declared.cell.Cell.{Cell}

-- the cells of a keeper, where it tells them
abbrev pub Told : Type 0
Told = Option (List Cell)

-- no keeper begins to tell, and where one tells before and behind, the cells changed like this
abbrev pub Turns : (List Cell → List Cell) → Told → Told → Type 0
Turns change old None = Unit {0}
Turns change None (Some new) = ⊥
Turns change (Some old) (Some new) = new ≡ change old

-- no keeper begins to tell, and where one tells before and behind, the cells are as they were
abbrev pub Stays : Told → Told → Type 0
Stays = Turns (λ cells. cells)

-- the cells are as they were, or the keeper begins to tell
abbrev pub StaysOrBegins : Told → Told → Type 0
StaysOrBegins None new = Unit {0}
StaysOrBegins (Some old) new = Stays (Some old) new

-- this holds where a keeper tells before some calls and tells still behind them
abbrev pub WhileTold : Told → Told → Type 0 → Type 0
WhileTold old None holds = Unit {0}
WhileTold None (Some new) holds = Unit {0}
WhileTold (Some old) (Some new) holds = holds
