-- What came of waiting for a head or for a body.
use Rattle.std.specs.Prelude.{◌≡◌, ℕ, ◌<◌, ◌≤◌, List, length, nat_lt, if◌then◌else◌, Option, Some}
use Rattle.std.specs.Prelude.{None, Bool, true, false, Result, Ok, Err}
use Rattle.an_world.specs.Link.{Traffic, IsAtEnd}
use Rattle.an_world.specs.declared.read.LinkError.{LinkError}
use Rattle.an_world.specs.declared.read.LinkError.TheVariants.{ReadFault, Memory}
use Rattle.an_message.specs.declared.fill.HeadFill.{HeadFill}
use Rattle.an_message.specs.declared.fill.HeadFill.TheVariants.{Found, Long, Ended}
use Rattle.an_message.specs.Framing.{head_length}

-- no head ends in so few bytes that one may still end with more
pub record IsHeadless (limit : ℕ) (held : List ℕ) : Type 0 where
  pub none : head_length held ≡ None
  pub few : length held < limit

-- no head ends within the limit, whatever comes after these bytes
pub record IsLong (limit : ℕ) (held : List ℕ) : Type 0 where
  pub none : head_length held ≡ None → limit ≤ length held
  pub some : (end : ℕ) → head_length held ≡ Some end → limit < end

abbrev pub found : ℕ → ℕ → HeadFill
found limit end = if nat_lt limit end then Long else Found end

-- the head that was found, or why there is none
abbrev pub IsFilled : ℕ → Option Traffic → List ℕ → Result HeadFill LinkError → Type 0
IsFilled limit told held (Ok (Found end)) =
    (head_length held ≡ Some end) × (end ≤ limit) × (end ≤ length held)
IsFilled limit told held (Ok Long) = IsLong limit held
IsFilled limit told held (Ok Ended) = IsHeadless limit held × IsAtEnd told
IsFilled limit told held (Err ReadFault) = IsHeadless limit held
IsFilled limit told held (Err Memory) = Unit {0}

-- whether so many bytes are held, or the input ended before
abbrev pub IsFull : Option Traffic → ℕ → List ℕ → Result Bool LinkError → Type 0
IsFull told total held (Ok true) = total ≤ length held
IsFull told total held (Ok false) = (length held < total) × IsAtEnd told
IsFull told total held (Err ReadFault) = length held < total
IsFull told total held (Err Memory) = Unit {0}
