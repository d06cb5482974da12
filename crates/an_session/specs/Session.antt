-- What one connection comes to.
use Rattle.std.specs.Prelude.{◌≡◌, ◌≤◌, ◌⊎◌, ℕ, ◌+◌, ◌*◌, List, [], ◌∷◌, ◌++◌, length, take, false}
use Rattle.std.specs.Prelude.{Option}
use Rattle.an_base.specs.Faults.{Rises}
use Rattle.an_world.specs.Link.{Traffic, Tells}
use Rattle.an_http.specs.Fields.{body_limit}
use Rattle.an_http.specs.Head.{head_limit}
use Rattle.an_http.specs.Next.{HoldsNone}
use Rattle.an_http.specs.Replies.{memory_reply}
use Rattle.an_session.specs.Due.{reply_limit, has_last, tries, Fronts, AreAll}
use Rattle.an_session.specs.Trail.{Rules, Known, Item, Ran, dues, text, texts}
use Rattle.an_session.specs.declared.ended.Ended.{Ended}
use Rattle.an_session.specs.declared.ended.Ended.TheVariants.{Closed, ReadFault, WriteFault, Memory}

-- what a link tells of itself: its bytes, and its counts of faults
pub record Line : Type 0 where
  pub traffic : Option Traffic
  pub read_faults : ℕ
  pub write_faults : ℕ

abbrev pub line : Option Traffic → ℕ → ℕ → Line
line traffic reads writes =
    record { traffic = traffic; read_faults = reads; write_faults = writes }

-- these bytes were read, and these were written
pub record MovesBoth (read written : List ℕ) (old new : Traffic) : Type 0 where
  pub left : old.left ≡ read ++ new.left
  pub reads : new.read ≡ old.read ++ read
  pub writes : new.written ≡ old.written ++ written

-- the same where a link tells its bytes
abbrev pub Moves : List ℕ → List ℕ → Option Traffic → Option Traffic → Type 0
Moves read written = Tells (MovesBoth read written)

-- the front of a text, behind which a write failed
pub record Stops (text tail : List ℕ) (old new : Line) : Type 0 where
  pub count : ℕ
  pub is : tail ≡ take count text
  pub fault : Rises old.write_faults new.write_faults

-- Why a connection ended. The trail has the replies that were written whole; one answer more may be
-- lost, and these bytes stand behind the replies. The rest of what was read is due no reply yet.
--
-- Closed: all that is due is answered.
-- ReadFault: a read failed, and all requests that are whole in what was read are answered.
-- WriteFault: a write failed in the reply to the one that is lost.
-- Memory: behind the replies, none of which closes, stands the one that says so, unless its write
-- failed. At most one answer is lost.
abbrev pub Ends
    : {E : Type 0} → Ended → Line → Line → List (Item E) → List (Item E) → List ℕ → List ℕ → Type 0
Ends Closed old new trail lost tail rest =
    (lost ≡ []) × (tail ≡ []) × AreAll new.traffic (dues trail) rest
Ends ReadFault old new trail lost tail rest =
    (lost ≡ []) × (tail ≡ []) × (has_last (dues trail) ≡ false) × HoldsNone rest
    × Rises old.read_faults new.read_faults
Ends WriteFault old new trail lost tail rest =
    (last : Item _) × (lost ≡ last ∷ []) × Stops (text last) tail old new
Ends Memory old new trail lost tail rest =
    (length lost ≤ 1) × (has_last (dues trail) ≡ false)
    × ((tail ≡ memory_reply) ⊎ Stops memory_reply tail old new)

-- From its first byte on: what is due of the bytes that were read is answered, one behind another,
-- by the bytes that were written, as far as the end says. For none that is due more bytes are read
-- than a largest request has, nor for one more, if there may be one.
pub record Session {E : Type 0} (rules : Rules E) (ended : Ended) (old new : Line)
    (from to : Known E) : Type 0 where
  pub trail : List (Item E)
  pub lost : List (Item E)
  pub ran : Ran rules (trail ++ lost) from to
  pub read : List ℕ
  pub rest : List ℕ
  pub due : Fronts new.traffic reply_limit read (dues (trail ++ lost)) rest
  pub tail : List ℕ
  pub moves : Moves read (texts trail ++ tail) old.traffic new.traffic
  pub few : length read ≤ tries (dues (trail ++ lost)) * (head_limit + body_limit)
  pub ends : Ends ended old new trail lost tail rest

-- no more is read than 1,000 requests of a largest head and a largest body have
pub record ReadsRequests (old new : Option Traffic) : Type 0 where
  pub read : List ℕ
  pub written : List ℕ
  pub moves : Moves read written old new
  pub most : length read ≤ reply_limit * (head_limit + body_limit)
