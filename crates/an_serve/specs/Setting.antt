-- For private clauses: by what a desk answers, and what it comes to.
use Rattle.std.specs.Prelude.{◌≡◌, ◌≤◌, ◌+◌, ℕ, ℤ, List, Bool, IsSome}
use Rattle.an_http.specs.declared.reply.Reply.{Reply}
use Rattle.an_machine.specs.Legal.{Write, state_of}
use Rattle.an_list.specs.Site.{Site}
use Rattle.an_shelf.specs.Store.{Store}
use Rattle.an_serve.specs.AtDesk.{IsAnswer, IsCounted}
use Rattle.an_laws.specs.Events.{Keeps}
use Rattle.an_serve.specs.declared.responding.Response.{Response}

-- the settings, and the clock
pub record Setting (C : Type 0) : Type 0 where
  pub site : Site
  pub clock : C

-- a desk came to this reply, and its state to another, which is kept, and the faults that it met
-- are counted
pub record DeskComes (Unsure : Type 0) (clock : ℤ → Bool) (site : Site) (response : Response)
    (old : Store) (reply : Reply) (new : Store) : Type 0 where
  pub added : List Write
  pub faults : ℕ
  pub answers : IsAnswer Unsure clock site old.state response reply added faults
  pub leads : new.state ≡ state_of old.state added
  pub keeps : Keeps old.told new.state new.told
  pub counted : (before : ℕ) → IsCounted before old.faults → IsCounted (before + faults) new.faults

-- nothing came of a request: the state is as it was, and is kept still
pub record DeskRests (old new : Store) : Type 0 where
  pub state : new.state ≡ old.state
  pub keeps : Keeps old.told new.state new.told

-- no keeper begins to tell its cells, and none forgets a fault
pub record DeskKeeps (old new : Store) : Type 0 where
  pub told : IsSome new.told → IsSome old.told
  pub faults : old.faults ≤ new.faults
