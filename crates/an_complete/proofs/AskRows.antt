-- Queries of a completion, and what they give or why they are refused.
use Rattle.std.proofs.Common.{◌≡◌, [], ◌∷◌, codes, refl, Ok, Err}
use Rattle.std.specs.Prelude.{Some, None}
use Rattle.std.specs.Char.{encode_utf8}
use Rattle.std.specs.Str.{is_utf8, chars}
use Rattle.caseless.proofs.Computing.{caseless}
use Rattle.form_urlencoded.specs.Form.{raw_pairs, split}
use Rattle.percent_encoding.specs.Percent.{percent_decode}
use Rattle.unicode_normalization.proofs.Computing.{unicode_normalization}
use Rattle.an_base.specs.Moment.{moment_of, has_form, days_of_months}
use Rattle.an_terms.specs.Terms.{term_of}
use Rattle.an_code.specs.declared.parameter.Parameter.TheVariants as parameter
use Rattle.an_query.specs.Filters.{FiltersRecord}
use Rattle.an_complete.specs.Ask.{AskRecord, ask_of}
use Rattle.an_complete.specs.declared.ask.AskError.TheVariants as refusal

unfoldable asks_on_literals : Unit {0}
unfolding ask_of raw_pairs split percent_decode is_utf8 chars encode_utf8 moment_of has_form
    days_of_months term_of caseless unicode_normalization
asks_on_literals = tt

abbrev unfiltered : FiltersRecord
unfiltered = record { motivation = None; date = None; user = None }

abbrev h : AskRecord
h = record { q = codes "h"; min = None; filters = unfiltered; ignored = [] }

row-prefix : ask_of (codes "q=h") ≡ Ok h
unfolding asks_on_literals
row-prefix = refl

row-no_prefix : ask_of (codes "min=2") ≡ Err refusal.NoPrefix
unfolding asks_on_literals
row-no_prefix = refl

row-empty_prefix : ask_of (codes "q=") ≡ Err refusal.NoPrefix
unfolding asks_on_literals
row-empty_prefix = refl

row-min_of_0 : ask_of (codes "q=h&min=0") ≡ Err refusal.Min
unfolding asks_on_literals
row-min_of_0 = refl

row-zero_in_front : ask_of (codes "q=h&min=03") ≡ Err refusal.Min
unfolding asks_on_literals
row-zero_in_front = refl

row-min : ask_of (codes "min=3&q=h") ≡ Ok (record h { min = Some 3 })
unfolding asks_on_literals
row-min = refl

row-greatest_min : ask_of (codes "q=h&min=999999999") ≡ Ok (record h { min = Some 999999999 })
unfolding asks_on_literals
row-greatest_min = refl

row-min_too_large : ask_of (codes "q=h&min=1000000000") ≡ Err refusal.Min
unfolding asks_on_literals
row-min_too_large = refl

row-byte : ask_of (codes "q=h&q=%FF") ≡ Err refusal.Bytes
unfolding asks_on_literals
row-byte = refl

row-twice : ask_of (codes "min=0&min=1") ≡ Err (refusal.Twice parameter.Min)
unfolding asks_on_literals
row-twice = refl

row-no_prefix_and_no_number : ask_of (codes "min=0&date=now") ≡ Err refusal.NoPrefix
unfolding asks_on_literals
row-no_prefix_and_no_number = refl

row-no_number_and_no_range : ask_of (codes "date=now&min=0&q=h") ≡ Err refusal.Min
unfolding asks_on_literals
row-no_number_and_no_range = refl

row-second_piece : ask_of (codes "date=2024-05-01T10:00:00Z/2024-05-01T10:02:00Z+now&q=h")
    ≡ Err (refusal.Date 1)
unfolding asks_on_literals
row-second_piece = refl

-- a page is no parameter of a completion
row-page : ask_of (codes "page=3&q=h&page=4") ≡ Ok (record h { ignored = codes "page" ∷ [] })
unfolding asks_on_literals
row-page = refl

row-empty_values : ask_of (codes "q=+&motivation=&user")
    ≡ Ok (record h {
      q = codes " ";
      filters = record unfiltered { motivation = Some []; user = Some [] };
    })
unfolding asks_on_literals
row-empty_values = refl
