-- What comes of opening the cells of a keeper.
use Rattle.std.specs.Prelude.{◌≡◌, ◌⊎◌, List, Some, None, IfSome, Ok, Err, ⊤}
use Rattle.an_keep.specs.Keeper.{StaysOrBegins, Told, Turns, WhileTold}
use Rattle.an_keep.specs.declared.cell.Cell.{Cell}
use Rattle.an_state.specs.State.{State}
use Rattle.an_rows.specs.Cells.{cells, format_in, state_of}
use Rattle.an_rows.specs.declared.format.Format.TheVariants.{First, Second}
use Rattle.an_shelf.specs.declared.error.OpenError.{OpenError}
use Rattle.an_shelf.specs.declared.error.OpenError.TheVariants.{Keeper, Damaged, Memory}

-- the cells stand for this state
abbrev pub StandFor : Told → State → Type 0
StandFor told s = IfSome told (λ cells. state_of cells ≡ Ok s)

-- of damage: the cells stand for no state, and the first damaged one is there
abbrev pub IsDamagedBy : Told → OpenError → Type 0
IsDamagedBy told (Damaged tab key) =
    IfSome told (λ cells. state_of cells ≡ Err (record { tab = tab; key = key }))
IsDamagedBy told Keeper = ⊤
IsDamagedBy told Memory = ⊤

-- the cells of a state as opening leaves them: those of the first format are turned into today's
abbrev pub renewed : State → List Cell → List Cell
renewed s found = elim (format_in found) [ First ↦ cells s | Second ↦ found ]

-- where the keeper told its cells before it was opened with this state, they are renewed
abbrev pub RenewsOrBegins : State → Told → Told → Type 0
RenewsOrBegins s None new = ⊤
RenewsOrBegins s (Some old) new = Turns (renewed s) (Some old) new

-- A keeper that told this before some calls, and tells this after them, was opened with this state:
-- while it tells, the cells that it told before stand for the state.
abbrev pub WasOpened : Told → Told → State → Type 0
WasOpened before after s = WhileTold before after (StandFor before s)

-- The same of one that wasn't opened: while it tells, the cells that it told before are damaged so.
abbrev pub WasDamagedBy : Told → Told → OpenError → Type 0
WasDamagedBy before after error = WhileTold before after (IsDamagedBy before error)

-- no cell was changed, or those of the first format were turned into today's, for the state that
-- they stand for
abbrev pub StaysOrRenews : Told → Told → Type 0
StaysOrRenews before after =
    StaysOrBegins before after
    ⊎ ((s : State) × WasOpened before after s × RenewsOrBegins s before after)
