-- What a call says of the next request, and what it leaves behind.
use Rattle.std.specs.Prelude.{◌≡◌, ◌==◌, ◌⊎◌, ℕ, ◌+◌, ◌≤◌, max, List, length, if◌then◌else◌, Option}
use Rattle.std.specs.Prelude.{Result, Ok, Err}
use Rattle.an_world.specs.Link.{Traffic, ReadsOn, IsAtEnd}
use Rattle.an_world.specs.declared.read.LinkError.{LinkError}
use Rattle.an_world.specs.declared.read.LinkError.TheVariants.{ReadFault, Memory}
use Rattle.an_code.specs.declared.code.Code.TheVariants as code
use Rattle.an_http.specs.declared.next.Next.{Next}
use Rattle.an_http.specs.declared.next.Next.TheVariants as next
use Rattle.an_http.specs.Fields.{body_limit}
use Rattle.an_http.specs.Head.{head_limit}
use Rattle.an_http.specs.Requests.{Piece, Whole, Wrong, Front, Nothing, Begins}
use Rattle.an_http.specs.Status.{status_of}

-- more bytes may make a request of it
abbrev pub IsOpen : Piece → Type 0
IsOpen (Whole request rest) = ⊥
IsOpen (Wrong refusal) = ⊥
IsOpen (Front refusal) = Unit {0}
IsOpen Nothing = Unit {0}

-- the bytes hold no whole request yet, and aren't refused yet
pub record HoldsNone (held : List ℕ) : Type 0 where
  pub piece : Piece
  pub begins : Begins held piece
  pub open_ : IsOpen piece

-- a whole request is taken from the bytes that are held, and all else stays there; what is refused
-- only if no more comes is refused at the end of the input alone, and nothing is the end there
abbrev pub Says : Next → Piece → Option Traffic → List ℕ → List ℕ → Type 0
Says (next.Request request) piece told held held' = piece ≡ Whole request held'
Says (next.Bad status refusal) piece told held held' =
    ((piece ≡ Wrong refusal) ⊎ ((piece ≡ Front refusal) × IsAtEnd told))
    × (status ≡ status_of refusal) × (held' ≡ held)
Says next.End piece told held held' = (piece ≡ Nothing) × IsAtEnd told × (held' ≡ held)

-- what so many bytes in which no head ends are at the end of the input
abbrev pub at_end : ℕ → Next
at_end count = if count == 0 then next.End else next.Bad (status_of code.Head) code.Head

-- bytes came behind those that were held, of all together no more than a head and a body may have,
-- and the piece that all of them begin with was told
pub record IsCut (old new : Option Traffic) (held held' : List ℕ) (told : Next) : Type 0 where
  pub all : List ℕ
  pub reads : ReadsOn old new held all
  pub few : length all ≤ max (length held) (head_limit + body_limit)
  pub piece : Piece
  pub begins : Begins all piece
  pub says : Says told piece new all held'

-- the answer and the bytes that are held behind it; after a failed read no whole request is held
abbrev pub IsNext
    : Option Traffic → Option Traffic → List ℕ → List ℕ → Result Next LinkError → Type 0
IsNext old new held held' (Ok told) = IsCut old new held held' told
IsNext old new held held' (Err ReadFault) = ReadsOn old new held held' × HoldsNone held'
IsNext old new held held' (Err Memory) = ReadsOn old new held held'
