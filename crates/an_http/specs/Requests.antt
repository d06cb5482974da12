-- How bytes are cut into requests, by the bytes alone (RFC 9112).
use Rattle.std.specs.Prelude.{◌≡◌, ℕ, List, [], ◌∷◌, length, take, drop, codes, not, ◌==◌}
use Rattle.std.specs.Prelude.{nat_lt, nat_le, if◌then◌else◌, Option, Some, None, Result, Ok, Err}
use Rattle.std.specs.Prelude.{MatchBool}
use Rattle.an_code.specs.declared.code.Code.{Code}
use Rattle.an_code.specs.declared.code.Code.TheVariants as code
use Rattle.an_http.specs.declared.request.Request.{Request}
use Rattle.an_http.specs.declared.plan.Plan.{Plan}
use Rattle.an_message.specs.Framing.{head_length, values_of}
use Rattle.an_http.specs.Head.{Head, head_limit, ReadsHead}
use Rattle.an_http.specs.Fields.{body_length, auth_of, prefer_of, closes}

-- how many bytes the body has, or the first refusal of the head: a coded body isn't read
-- (RFC 9112, section 6.1)
abbrev pub body_of : Head → Result ℕ Code
body_of head =
    let codings = values_of (codes "Transfer-Encoding") head.fields in
    let lengths = values_of (codes "Content-Length") head.fields in
    if not (length codings == 0)
    then Err code.Transfer
    else body_length head.method lengths

-- what a head says of a request with so long a body
abbrev pub plan_with : Head → ℕ → Plan
plan_with head body = record {
  method = head.method;
  target = head.target;
  auth = auth_of (values_of (codes "Authorization") head.fields);
  prefer = prefer_of (values_of (codes "Prefer") head.fields);
  close = closes head.minor (values_of (codes "Connection") head.fields);
  length = body;
}

-- what a head says of its request, the body aside, or the first refusal
abbrev pub plan_by : Head → Result ℕ Code → Result Plan Code
plan_by head (Ok body) = Ok (plan_with head body)
plan_by head (Err refusal) = Err refusal

abbrev pub plan_of : Head → Result Plan Code
plan_of head = plan_by head (body_of head)

-- what these bytes say as a head, or the refusal where they are none
abbrev pub PlansAs : Option Head → Result Plan Code → Type 0
PlansAs None plan = plan ≡ Err code.Head
PlansAs (Some head) plan = plan ≡ plan_of head

pub record Plans (text : List ℕ) (plan : Result Plan Code) : Type 0 where
  pub head : Option Head
  pub reads : ReadsHead text head
  pub says : PlansAs head plan

abbrev pub request_of : Plan → List ℕ → Request
request_of plan body = record {
  method = plan.method;
  target = plan.target;
  auth = plan.auth;
  prefer = plan.prefer;
  close = plan.close;
  body = body;
}

-- what bytes begin with: a whole request and the bytes behind it; what is refused whatever follows;
-- the front of a request, and how it is refused if no more comes; or nothing
pub data Piece : Type 0 where
  Whole : Request → List ℕ → Piece
  Wrong : Code → Piece
  Front : Code → Piece
  Nothing : Piece

-- so many bytes in which no head ends
abbrev pub headless : ℕ → Piece
headless count =
    if count == 0 then Nothing
    else if nat_lt count head_limit then Front code.Head
    else Wrong code.Head

-- a request whose head isn't refused, and the bytes behind that head
abbrev pub with_body : Plan → List ℕ → Piece
with_body plan rest =
    if nat_le plan.length (length rest)
    then Whole (request_of plan (take plan.length rest)) (drop plan.length rest)
    else Front code.Body

-- what a head says, and the bytes behind it
abbrev pub behind : Result Plan Code → List ℕ → Piece
behind (Ok plan) rest = with_body plan rest
behind (Err refusal) rest = Wrong refusal

-- the piece that begins with a head of so many bytes, if a head ends there
abbrev pub BeginsAt : List ℕ → Option ℕ → Piece → Type 0
BeginsAt bytes None piece = piece ≡ headless (length bytes)
BeginsAt bytes (Some n) piece = MatchBool (nat_lt head_limit n) (piece ≡ Wrong code.Head)
    ((plan : Result Plan Code) × Plans (take n bytes) plan × (piece ≡ behind plan (drop n bytes)))

-- what the bytes begin with
abbrev pub Begins : List ℕ → Piece → Type 0
Begins bytes piece = BeginsAt bytes (head_length bytes) piece

-- the bytes are these requests, one behind another, and then the rest
abbrev pub Cuts : List ℕ → List Request → List ℕ → Type 0
Cuts bytes [] rest = bytes ≡ rest
Cuts bytes (request ∷ requests) rest =
    (mid : List ℕ) × Begins bytes (Whole request mid) × Cuts mid requests rest

-- no whole request
abbrev pub IsLast : Piece → Type 0
IsLast (Whole request rest) = ⊥
IsLast (Wrong refusal) = Unit {0}
IsLast (Front refusal) = Unit {0}
IsLast Nothing = Unit {0}

-- the requests of the bytes: all whole ones up to the first piece that is none, which the rest
-- begins with
pub record Requests
    (bytes : List ℕ) (requests : List Request) (rest : List ℕ) (piece : Piece) : Type 0 where
  pub cuts : Cuts bytes requests rest
  pub begins : Begins rest piece
  pub last : IsLast piece
