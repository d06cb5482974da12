-- Pairs that are not refused.
use Rattle.std.proofs.Common.{◌≡◌, ℕ, List, [], ◌∷◌, not, Option, Some, None, option_map, refl}
use Rattle.an_base.specs.Outcome.{first_of, when}
use Rattle.an_query.specs.Dates.{bad_date}
use Rattle.an_query.specs.Given.{value_of, twice_of, is_bad_number}
use Rattle.an_query.specs.declared.pairs.Pair.{Pair}
use Rattle.an_code.specs.declared.parameter.Parameter.{Parameter}
use Rattle.an_code.specs.declared.parameter.Parameter.TheVariants as parameter
use Rattle.an_complete.specs.Ask.{ask_refusals, has_prefix}
use Rattle.an_complete.specs.declared.ask.AskError.{AskError}
use Rattle.an_complete.specs.declared.ask.AskError.TheVariants as refusal

no_last : (first second third : Option AskError) (at : Option ℕ)
    → first_of (first ∷ second ∷ third ∷ option_map refusal.Date at ∷ []) ≡ None → at ≡ None
no_last None None None None none = refl
no_last None None None (Some at) none = cc
no_last None None (Some third) at none = cc
no_last None (Some second) third at none = cc
no_last (Some first) second third at none = cc

-- each piece of their date is a range
pub has_ranges : (reads : List Parameter) (pairs : List Pair)
    → first_of (ask_refusals reads pairs) ≡ None → bad_date (value_of parameter.Date pairs) ≡ None
has_ranges reads pairs none =
    no_last (option_map refusal.Twice (twice_of reads pairs))
    (when (not (has_prefix (value_of parameter.Q pairs))) refusal.NoPrefix)
    (when (is_bad_number (value_of parameter.Min pairs)) refusal.Min)
    (bad_date (value_of parameter.Date pairs)) none
