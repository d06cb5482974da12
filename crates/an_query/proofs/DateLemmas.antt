-- Pieces that are no ranges.
use Rattle.std.proofs.Common.{◌≡◌, ℕ, ℤ, List, [], length, Option, Some, None, refl, arith, ◌+◌}
use Rattle.std.proofs.Math.ListN.{drop_of_length-le}
use Rattle.std.specs.Prelude.{◌==◌, option_and_then}
use Rattle.std.specs.List.{position_or_len, before_first}
use Rattle.std.specs.Result.{result_ok}
use Rattle.an_base.specs.Moment.{moment_of, has_form}
use Rattle.an_query.specs.declared.dates.DateRange.{DateRange}
use Rattle.an_query.specs.Dates.{range_between, range_of}

nowhere : (from : Option ℤ) → option_and_then {U = DateRange} (λ _. None) from ≡ None
nowhere None = refl
nowhere (Some from) = refl

-- the empty text is no moment
to_nothing : (from : List ℕ) → range_between from [] ≡ None
unfolding moment_of has_form
to_nothing from = nowhere (result_ok (moment_of from))

-- where there is no slash, nothing stands behind one
pub no_slash : (piece : List ℕ) → position_or_len (λ b. b == 47) piece ≡ length piece
    → range_of piece ≡ None
no_slash piece e =
    rw (drop_of_length-le piece {i = position_or_len (λ b. b == 47) piece + 1} (omega (arith, e)))
    (to_nothing (before_first (λ b. b == 47) piece))
