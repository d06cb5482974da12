-- What of the bytes of a connection is due a reply, and in which order.
use Rattle.std.specs.Prelude.{◌≡◌, ◌⊎◌, ℕ, ◌+◌, ◌-◌, List, [], ◌∷◌, length, Bool, true}
use Rattle.std.specs.Prelude.{◌||◌, nat_le, if◌then◌else◌, Option}
use Rattle.std.specs.List.{list_any}
use Rattle.an_code.specs.declared.code.Code.{Code}
use Rattle.an_world.specs.Link.{Traffic, IsAtEnd}
use Rattle.an_http.specs.declared.request.Request.{Request}
use Rattle.an_http.specs.Requests.{Whole, Wrong, Front, Nothing, Begins}

-- a request, and whether the connection closes behind its reply; or what is refused, behind which
-- it always closes
pub data Due : Type 0 where
  Ask : Request → Bool → Due
  Refuse : Code → Due

-- whether the connection closes behind the reply
abbrev pub is_last : Due → Bool
is_last (Ask request last) = last
is_last (Refuse refusal) = true

abbrev pub has_last : List Due → Bool
has_last = list_any is_last

-- how many replies one connection has at most
abbrev pub reply_limit : ℕ
reply_limit = 1000

-- the bytes begin with what is refused whatever follows, or with the front of a request behind
-- which the input ended
abbrev pub IsRefused : Option Traffic → List ℕ → Code → Type 0
IsRefused told bytes refusal =
    Begins bytes (Wrong refusal) ⊎ (Begins bytes (Front refusal) × IsAtEnd told)

-- for how many requests bytes are read, at most: for each that is due, and for one more where none
-- of them is the last
abbrev pub tries : List Due → ℕ
tries dues = if has_last dues then length dues else length dues + 1

-- with so many replies left, the bytes begin with this one that is due, and with these behind it:
-- a request that says close is the last, and so is the one for which one reply is left
abbrev pub IsDue : Option Traffic → ℕ → List ℕ → Due → List ℕ → Type 0
IsDue told left bytes (Ask request last) rest =
    Begins bytes (Whole request rest) × (last ≡ (request.close || nat_le left 1))
IsDue told left bytes (Refuse refusal) rest = IsRefused told bytes refusal × (rest ≡ bytes)

-- with so many replies left, these are the first that are due of the bytes, one behind another, and
-- then come these; nothing is due behind a last one
abbrev pub Fronts : Option Traffic → ℕ → List ℕ → List Due → List ℕ → Type 0
Fronts told left bytes [] rest = bytes ≡ rest
Fronts told left bytes (due ∷ dues) rest =
    (mid : List ℕ) × IsDue told left bytes due mid × (is_last due ≡ true → dues ≡ [])
    × Fronts told (left - 1) mid dues rest

-- nothing is due behind these, and none will be: the last one closes, or the input ended where no
-- byte of a request came
abbrev pub AreAll : Option Traffic → List Due → List ℕ → Type 0
AreAll told dues rest = (has_last dues ≡ true) ⊎ (Begins rest Nothing × IsAtEnd told)

-- the requests among what is due
abbrev pub requests_of : List Due → List Request
requests_of [] = []
requests_of (Ask request last ∷ dues) = request ∷ requests_of dues
requests_of (Refuse refusal ∷ dues) = requests_of dues
