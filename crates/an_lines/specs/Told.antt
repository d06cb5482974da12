-- For private clauses: that a run came to a status, and told it.
use Rattle.std.specs.Prelude.{◌≡◌, ℕ, ◌⊎◌, List, Option, ⊤}
use Rattle.an_world.specs.Link.{Traffic, Writes}
use Rattle.an_lines.specs.declared.status.Status.{Status}
use Rattle.an_lines.specs.declared.status.Status.TheVariants.{WriteFault}
use Rattle.an_lines.specs.declared.status.Status.TheVariants as status

-- the whole text was printed, or a write failed
abbrev pub Tells : Type 0 → List ℕ → Option Traffic → Option Traffic → Status → Status → Type 0
Tells Failed text old new status end =
    ((end ≡ status) × Writes text old new) ⊎ ((end ≡ WriteFault) × Failed)

-- a status that is told with a text that is known beforehand
abbrev pub IsTold : Status → Type 0
IsTold status.Done = ⊤
IsTold status.Misunderstood = ⊤
IsTold status.NoReader = ⊤
IsTold status.Refused = ⊤
IsTold _ = ⊥
