-- Why a connection ended, and what a link keeps of it.
use Rattle.std.specs.Prelude.{◌≡◌, ◌<◌, ◌⊎◌, ℕ, List, [], ◌∷◌, ◌++◌, Bool, true, false, ◌&&◌}
use Rattle.std.specs.Prelude.{Option, Some, None}
use Rattle.an_base.specs.Faults.{Rises}
use Rattle.an_world.specs.Link.{Traffic}
use Rattle.an_http.specs.Replies.{memory_reply}
use Rattle.an_session.specs.Session.{Line}
use Rattle.an_session.specs.declared.ended.Ended.{Ended}
use Rattle.an_session.specs.declared.ended.Ended.TheVariants.{Closed, ReadFault, WriteFault, Memory}

abbrev pub is_nothing : List ℕ → Bool
is_nothing [] = true
is_nothing (byte ∷ bytes) = false

-- where a link tells its bytes, none was read or written
abbrev pub is_unused : Option Traffic → Bool
is_unused None = true
is_unused (Some traffic) = is_nothing traffic.read && is_nothing traffic.written

-- nothing went over a link yet, and no call of it failed
abbrev pub IsFresh : Line → Type 0
IsFresh line = (is_unused line.traffic ≡ true) × (line.read_faults ≡ 0) × (line.write_faults ≡ 0)

-- where a link tells its bytes, those that were written end with these
abbrev pub EndsWith : List ℕ → Option Traffic → Type 0
EndsWith bytes None = Unit {0}
EndsWith bytes (Some traffic) = (front : List ℕ) × (traffic.written ≡ front ++ bytes)

-- A session's end has its cause: a fault that the link counted meanwhile, or the whole reply that
-- memory ran out, unless its write failed.
abbrev pub IsCaused : Ended → Line → Line → Type 0
IsCaused Closed old new = Unit {0}
IsCaused ReadFault old new = Rises old.read_faults new.read_faults
IsCaused WriteFault old new = Rises old.write_faults new.write_faults
IsCaused Memory old new =
    Rises old.write_faults new.write_faults ⊎ EndsWith memory_reply new.traffic

-- the same of a link that was fresh before its session
abbrev pub IsBorne : Ended → Line → Type 0
IsBorne Closed line = Unit {0}
IsBorne ReadFault line = 0 < line.read_faults
IsBorne WriteFault line = 0 < line.write_faults
IsBorne Memory line = (0 < line.write_faults) ⊎ EndsWith memory_reply line.traffic

-- all that went over a link, from its first byte on, is what a session comes to
pub record Held (Ran : Ended → Line → Line → Type 0) (ended : Ended) (line : Line) : Type 0 where
  pub start : Line
  pub fresh : IsFresh start
  pub ran : Ran ended start line
