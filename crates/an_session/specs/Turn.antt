-- What one turn of the loop comes to: for the calls inside this crate.
use Rattle.std.specs.Prelude.{◌≡◌, ◌≤◌, ◌⊎◌, ℕ, ◌+◌, ◌*◌, List, [], ◌∷◌, ◌++◌, length, max}
use Rattle.std.specs.Prelude.{Bool, true, false, ◌||◌, nat_le, Option, Some, None}
use Rattle.an_world.specs.Link.{Traffic, ReadsOn, Writes}
use Rattle.an_http.specs.declared.next.Next.{Next}
use Rattle.an_http.specs.declared.next.Next.TheVariants as next
use Rattle.an_http.specs.Fields.{body_limit}
use Rattle.an_http.specs.Head.{head_limit}
use Rattle.an_http.specs.Replies.{memory_reply}
use Rattle.an_session.specs.Due.{Due, Ask, Refuse, reply_limit, is_last, has_last, Fronts}
use Rattle.an_session.specs.Trail.{Rules, Known, Item, Rests, Ran, dues, text, texts}
use Rattle.an_session.specs.Session.{Line, Moves, Stops, Ends}
use Rattle.an_session.specs.declared.ended.Ended.{Ended}
use Rattle.an_session.specs.declared.ended.Ended.TheVariants.{Closed, ReadFault, WriteFault, Memory}

-- how many bytes a largest request has
abbrev pub most : ℕ
most = head_limit + body_limit

-- the reply that memory ran out was written, unless its write failed
pub record TellsMemory (old new : Line) : Type 0 where
  pub tail : List ℕ
  pub writes : Writes tail old.traffic new.traffic
  pub is : (tail ≡ memory_reply) ⊎ Stops memory_reply tail old new

-- the front of a text was written, and then a write failed
pub record Breaks (text : List ℕ) (old new : Line) : Type 0 where
  pub tail : List ℕ
  pub writes : Writes tail old.traffic new.traffic
  pub is : Stops text tail old new

-- a reply of these bytes was written, which is the last or not, and the loop goes on or ends
abbrev pub IsPut : List ℕ → Bool → Option Ended → Line → Line → Type 0
IsPut text last None old new = Writes text old.traffic new.traffic × (last ≡ false)
IsPut text last (Some Closed) old new = Writes text old.traffic new.traffic × (last ≡ true)
IsPut text last (Some ReadFault) old new = ⊥
IsPut text last (Some WriteFault) old new = Breaks text old new
IsPut text last (Some Memory) old new = TellsMemory old new

-- one that was due is answered
pub record Meets {E : Type 0} (rules : Rules E) (due : Due) (from to : Known E) : Type 0 where
  pub item : Item E
  pub is : item.due ≡ due
  pub ran : Ran rules (item ∷ []) from to

-- one that was due is answered, and its reply written, unless a write failed or memory ran out
abbrev pub IsServed
    : {E : Type 0} → Rules E → Due → Option Ended → Line → Line → Known E → Known E → Type 0
IsServed rules due (Some Memory) old new from to =
    TellsMemory old new × (Rests rules from to ⊎ Meets rules due from to)
IsServed rules due None old new from to =
    (met : Meets rules due from to) × IsPut (text met.item) (is_last due) None old new
IsServed rules due (Some Closed) old new from to =
    (met : Meets rules due from to) × IsPut (text met.item) (is_last due) (Some Closed) old new
IsServed rules due (Some ReadFault) old new from to = ⊥
IsServed rules due (Some WriteFault) old new from to =
    (met : Meets rules due from to) × IsPut (text met.item) (is_last due) (Some WriteFault) old new

-- what was told is served: the end of the input by an end
abbrev pub IsMet
    : {E : Type 0} → Rules E → ℕ → Next → Option Ended → Line → Line → Known E → Known E → Type 0
IsMet rules left (next.Request request) ended old new from to =
    IsServed rules (Ask request (request.close || nat_le left 1)) ended old new from to
IsMet rules left (next.Bad status refusal) ended old new from to =
    IsServed rules (Refuse refusal) ended old new from to
IsMet rules left next.End ended old new from to =
    (ended ≡ Some Closed) × (new ≡ old) × (to ≡ from)

-- a turn is the last, by its end; or it goes on behind one reply
abbrev pub EndsTurn
    : {E : Type 0} → Option Ended → Line → Line → List (Item E) → List (Item E) → List ℕ → List ℕ
    → List ℕ → Type 0
EndsTurn (Some ended) old new trail lost tail rest held = Ends ended old new trail lost tail rest
EndsTurn None old new trail lost tail rest held =
    (lost ≡ []) × (tail ≡ []) × (length trail ≡ 1) × (has_last (dues trail) ≡ false) × (held ≡ rest)

-- bytes came behind those that were held, and then so much was answered, and the turn ended so
pub record Turns {E : Type 0} (rules : Rules E) (left : ℕ) (ended : Option Ended)
    (old new : Line) (held held' : List ℕ) (from to : Known E) : Type 0 where
  pub mid : Option Traffic
  pub all : List ℕ
  pub reads : ReadsOn old.traffic mid held all
  pub few : length all ≤ max (length held) most
  pub trail : List (Item E)
  pub lost : List (Item E)
  pub ran : Ran rules (trail ++ lost) from to
  pub rest : List ℕ
  pub due : Fronts new.traffic left all (dues (trail ++ lost)) rest
  pub tail : List ℕ
  pub writes : Writes (texts trail ++ tail) mid new.traffic
  pub ends : EndsTurn ended old new trail lost tail rest held'

-- so many turns went by, and none of them was the last
pub record Serving {E : Type 0} (rules : Rules E) (turns : ℕ) (old new : Line) (held : List ℕ)
    (from to : Known E) : Type 0 where
  pub trail : List (Item E)
  pub ran : Ran rules trail from to
  pub read : List ℕ
  pub due : Fronts new.traffic reply_limit read (dues trail) held
  pub goes_on : has_last (dues trail) ≡ false
  pub moves : Moves read (texts trail) old.traffic new.traffic
  pub count : length trail ≡ turns
  pub short : length read ≤ turns * most + length held
  pub small : length held ≤ most
