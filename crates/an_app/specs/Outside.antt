-- What the outside of a run may do, as the cause of how the run ends, and what its keeper told.
use Rattle.std.specs.Prelude.{◌≡◌, IfSome}
use Rattle.an_keep.specs.Keeper.{Told}
use Rattle.an_rows.specs.Cells.{cells}
use Rattle.an_state.specs.State.{State}

pub record Outside : Type 1 where
  -- a read of the link failed: its count of them rose
  pub read_failed : Type 0
  -- a write to the link failed: its count of them rose
  pub write_failed : Type 0
  -- the keeper is of a kind that can fail
  pub keeper_can_fail : Type 0
  -- what the keeper that is given told before the run
  pub before : Told
  -- what it tells after
  pub after : Told

-- the keeper is left with this state kept: its cells, where it tells them, are those of the state
abbrev pub WasLeft : Told → State → Type 0
WasLeft after s = IfSome after (λ found. found ≡ cells s)

-- the outside of a run whose keeper told this before, and tells this after
abbrev pub outside_of : Told → Told → Type 0 → Type 0 → Type 0 → Outside
outside_of before after can_fail reads writes = record {
  read_failed = reads;
  write_failed = writes;
  keeper_can_fail = can_fail;
  before = before;
  after = after;
}
