-- For private clauses: places under the hashes of marks. What was entered stays, also where its row
-- has another mark by now.
use Rattle.std.specs.Prelude.{◌≡◌, ℕ, ◌<◌, List, length, fold, min, slice_get, slice_index, Bool}
use Rattle.std.specs.Prelude.{true, false, Option, Some, None}
use Rattle.std.specs.Hash as fed
use Rattle.std.specs.Hash.DefaultHasher as sip
use Rattle.an_keyed.specs.Hashes.{short_hash}

-- of SipHash-1-3 of the mark
unfoldable pub mark_hash : List ℕ → ℕ
mark_hash mark = short_hash (sip.finish (fold sip.write sip.initial (fed.str mark)))

-- what was entered: hashes, and beside each the place that it stands for; and how many more there
-- is memory for
pub record Entries : Type 0 where
  pub hashes : List ℕ
  pub places : List ℕ
  pub room : ℕ

-- the place was entered under this hash
abbrev pub IsEntered : ℕ → ℕ → Entries → Type 0
IsEntered hash place entries =
    (entry : ℕ) × (entry < length entries.hashes) × (slice_index entries.hashes entry ≡ hash) ×
    (slice_index entries.places entry ≡ place)

-- what was entered before is entered still
abbrev pub IsKept : Entries → Entries → Type 0
IsKept old new = (hash place : ℕ) → IsEntered hash place old → IsEntered hash place new

-- each place is entered under the hash of its mark, where it has one
abbrev pub IsMarkIndex : List (Option (List ℕ)) → Entries → Type 0
IsMarkIndex marks entries =
    (place : ℕ) (mark : List ℕ) → slice_get marks place ≡ Some (Some mark) → IsEntered
    (mark_hash mark) place entries

-- the earlier of what was found and this place, where the place counts
abbrev pub with_place : Bool → ℕ → Option ℕ → Option ℕ
with_place false place found = found
with_place true place None = Some place
with_place true place (Some found) = Some (min found place)
