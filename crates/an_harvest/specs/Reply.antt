-- A request as it is sent, and the replies that bytes begin with (RFC 9112, sections 3 to 6).
use Rattle.std.specs.Prelude.{◌≡◌, ◌⊎◌, ℕ, ◌<◌, ◌≤◌, List, [], ◌∷◌, ◌++◌, length, take, drop, map}
use Rattle.std.specs.Prelude.{codes, ◌==◌, nat_lt, nat_le, if◌then◌else◌, Option, Some, None}
use Rattle.std.specs.Prelude.{option_map, option_and_then, Result, Ok, Err, MatchBool}
use Rattle.httparse.specs.Grammar.{ResponseHead, ReadsResponse, status_code}
use Rattle.httparse.specs.Spans.{name_and_value}
use Rattle.an_message.specs.Framing.{head_length, length_of, values_of}
use Rattle.an_world.specs.Link.{Traffic, IsAtEnd, ReadsOn, Writes, WritesFront}
use Rattle.an_world.specs.declared.read.LinkError.{LinkError}
use Rattle.an_world.specs.declared.read.LinkError.TheVariants as link
use Rattle.an_harvest.specs.declared.fetch.Got.{Got}
use Rattle.an_harvest.specs.declared.head.Plan.{Plan}
use Rattle.an_harvest.specs.declared.reply.GetError.{GetError}
use Rattle.an_harvest.specs.declared.reply.GetError.TheVariants as get

-- ---- the request

abbrev pub request_bytes : List ℕ → Option (List ℕ) → List ℕ
request_bytes target None =
    codes "GET " ++ (target ++ codes " HTTP/1.1\r\nHost: localhost\r\n\r\n")
request_bytes target (Some token) =
    codes "GET "
    ++ (target
    ++ (codes " HTTP/1.1\r\nHost: localhost\r\nAuthorization: Bearer "
    ++ (token ++ codes "\r\n\r\n")))

-- ---- the head of the reply

-- how many bytes a head may have
abbrev pub head_limit : ℕ
head_limit = 16384

-- how many fields a head may have
abbrev pub field_limit : ℕ
field_limit = 64

-- how many bytes a body may have
abbrev pub body_limit : ℕ
body_limit = 16777216

-- the status, and the fields: each a name, and a value without the white space around it
pub record Head : Type 0 where
  pub status : ℕ
  pub fields : List (List ℕ × List ℕ)

-- what a head of the grammar says
abbrev pub head_of : ResponseHead → Head
head_of head = record { status = status_code head; fields = map name_and_value head.fields }

-- to their last byte these bytes are a head that says this; or they are no head with so few fields
-- as a head may have
abbrev pub ReadsHead : List ℕ → Option Head → Type 0
ReadsHead text (Some head) =
    (h : ResponseHead) × ReadsResponse text h [] × (length h.fields ≤ field_limit)
    × (head ≡ head_of h)
ReadsHead text None = (h : ResponseHead) → ReadsResponse text h [] → field_limit < length h.fields

-- a length that is not above the limit
abbrev pub length_within : Option ℕ → Option ℕ
length_within None = None
length_within (Some n) = if nat_le n body_limit then Some n else None

-- the one value of Content-Length
abbrev pub length_in : List (List ℕ) → Option ℕ
length_in [] = None
length_in (value ∷ []) = length_within (length_of value)
length_in (_ ∷ _ ∷ _) = None

-- how many bytes the body has; a reply of the status 204 has none (RFC 9110, section 15.3.5)
abbrev pub body_length : Head → Option ℕ
body_length head =
    if head.status == 204 then Some 0
    else length_in (values_of (codes "Content-Length") head.fields)

abbrev pub plan_of : Head → Option Plan
plan_of head =
    option_map (λ n. record { status = head.status; length = n }) (body_length head)

-- what these bytes say as a head, where they are the head of a reply
abbrev pub Plans : List ℕ → Option Plan → Type 0
Plans text plan =
    (head : Option Head) × ReadsHead text head × (plan ≡ option_and_then plan_of head)

-- ---- what bytes begin with

-- a whole reply, and the bytes after it; no reply, whatever follows; or the front of one
pub data Piece : Type 0 where
  Whole : Got → List ℕ → Piece
  Wrong : Piece
  Front : Piece

-- so many bytes in which no head ends
abbrev pub headless : ℕ → Piece
headless count = if nat_lt count head_limit then Front else Wrong

-- a reply with this head, and the bytes after that head
abbrev pub with_body : Plan → List ℕ → Piece
with_body plan rest =
    if nat_le plan.length (length rest)
    then Whole (record { status = plan.status; body = take plan.length rest }) (drop plan.length
    rest)
    else Front

abbrev pub planned : Option Plan → List ℕ → Piece
planned None rest = Wrong
planned (Some plan) rest = with_body plan rest

-- the piece that begins with a head of so many bytes, if a head ends there
abbrev pub BeginsAt : List ℕ → Option ℕ → Piece → Type 0
BeginsAt bytes None piece = piece ≡ headless (length bytes)
BeginsAt bytes (Some n) piece = MatchBool (nat_lt head_limit n) (piece ≡ Wrong)
    ((plan : Option Plan) × Plans (take n bytes) plan × (piece ≡ planned plan (drop n bytes)))

abbrev pub Begins : List ℕ → Piece → Type 0
Begins bytes piece = BeginsAt bytes (head_length bytes) piece

-- ---- what a call says

-- the link failed, or memory ran out
abbrev pub get_error : LinkError → GetError
get_error link.ReadFault = get.Link
get_error link.Memory = get.Memory

-- the bytes are refused whatever follows, or the input ended before the reply did
abbrev pub HasNone : Option Traffic → List ℕ → Type 0
HasNone told held = Begins held Wrong ⊎ (Begins held Front × IsAtEnd told)

-- The bytes that are held and those that were read hold a whole reply, which is taken from them; or
-- they hold none, and all of them are held.
abbrev pub IsRead
    : Option Traffic → Option Traffic → List ℕ → List ℕ → Result Got GetError → Type 0
IsRead old new held held' (Ok got) =
    (all : List ℕ) × ReadsOn old new held all × Begins all (Whole got held')
IsRead old new held held' (Err get.Reply) = ReadsOn old new held held' × HasNone new held'
IsRead old new held held' (Err get.Link) = ReadsOn old new held held'
IsRead old new held held' (Err get.Memory) = ReadsOn old new held held'

-- the request was sent, or at least a front of it where the link failed or memory ran out
abbrev pub IsSent
    : List ℕ → Option Traffic → Option Traffic → Result Got GetError → Type 0
IsSent request old new (Ok got) = Writes request old new
IsSent request old new (Err get.Reply) = Writes request old new
IsSent request old new (Err get.Link) = WritesFront request old new
IsSent request old new (Err get.Memory) = WritesFront request old new

-- a request is sent, and then its reply is read
abbrev pub IsReply
    : List ℕ → Option Traffic → Option Traffic → List ℕ → List ℕ → Result Got GetError → Type 0
IsReply request old new held held' result =
    (sent : Option Traffic) × IsSent request old sent result × IsRead sent new held held' result
