-- Queries of a search, and what they give or why they are refused.
use Rattle.std.proofs.Common.{◌≡◌, ℕ, List, [], ◌∷◌, ◌++◌, codes, refl, Result, Ok, Err}
use Rattle.std.specs.Prelude.{Some, None}
use Rattle.std.specs.Char.{encode_utf8}
use Rattle.std.specs.Str.{is_utf8, chars}
use Rattle.form_urlencoded.specs.Form.{raw_pairs, split}
use Rattle.percent_encoding.specs.Percent.{percent_decode}
use Rattle.an_base.specs.Moment.{moment_of, has_form, days_of_months}
use Rattle.an_query.specs.Filters.{FiltersRecord}
use Rattle.an_query.specs.Query.{QueryRecord, query_of, search_parameters}
use Rattle.an_code.specs.declared.parameter.Parameter.TheVariants as parameter
use Rattle.an_query.specs.declared.query.QueryError.{QueryError}
use Rattle.an_query.specs.declared.query.QueryError.TheVariants as refusal

unfoldable queries_on_literals : Unit {0}
unfolding query_of raw_pairs split percent_decode is_utf8 chars encode_utf8 moment_of has_form
    days_of_months
queries_on_literals = tt

abbrev asked : List ℕ → Result QueryRecord QueryError
asked text = query_of search_parameters text

abbrev unfiltered : FiltersRecord
unfiltered = record { motivation = None; date = None; user = None }

abbrev nothing : QueryRecord
nothing = record { q = None; filters = unfiltered; page = 1; ignored = [] }

row-empty : asked (codes "") ≡ Ok nothing
unfolding queries_on_literals
row-empty = refl

row-twice : asked (codes "q=a&q=b") ≡ Err (refusal.Twice parameter.Q)
unfolding queries_on_literals
row-twice = refl

row-zero_in_front : asked (codes "page=01") ≡ Err refusal.Page
unfolding queries_on_literals
row-zero_in_front = refl

row-byte : asked (codes "q=%FF") ≡ Err refusal.Bytes
unfolding queries_on_literals
row-byte = refl

row-other : asked (codes "foo=1&q=%21%21&foo=2")
    ≡ Ok (record nothing { q = Some (codes "!!"); ignored = codes "foo" ∷ [] })
unfolding queries_on_literals
row-other = refl

row-year : asked (codes "date=2024") ≡ Err (refusal.Date 0)
unfolding queries_on_literals
row-year = refl

row-range_without_moments : asked (codes "date=2024-05-01T10:02:00Z/2024-05-01T10:00:00Z")
    ≡ Ok (record nothing {
      filters =
          record unfiltered { date = Some (codes "2024-05-01T10:02:00Z/2024-05-01T10:00:00Z") };
    })
unfolding queries_on_literals
row-range_without_moments = refl

-- an `E` and U+0301
row-accent : asked (codes "q=HE%CC%81RON")
    ≡ Ok (record nothing { q = Some (codes "HE" ++ (204 ∷ 129 ∷ codes "RON")) })
unfolding queries_on_literals
row-accent = refl

row-plus : asked (codes "q=a+b") ≡ Ok (record nothing { q = Some (codes "a b") })
unfolding queries_on_literals
row-plus = refl

row-name_alone : asked (codes "motivation")
    ≡ Ok (record nothing { filters = record unfiltered { motivation = Some [] } })
unfolding queries_on_literals
row-name_alone = refl

row-no_page : asked (codes "page=0") ≡ Err refusal.Page
unfolding queries_on_literals
row-no_page = refl

row-page_too_large : asked (codes "page=1000000000") ≡ Err refusal.Page
unfolding queries_on_literals
row-page_too_large = refl

row-empty_page : asked (codes "page=") ≡ Err refusal.Page
unfolding queries_on_literals
row-empty_page = refl

row-last_page : asked (codes "page=999999999") ≡ Ok (record nothing { page = 999999999 })
unfolding queries_on_literals
row-last_page = refl

-- ---- of several refusals

row-bytes_first : asked (codes "q=a&q=b&foo=%C3") ≡ Err refusal.Bytes
unfolding queries_on_literals
row-bytes_first = refl

row-second_coming : asked (codes "date=x&q=a&user=b&user=c&q=d")
    ≡ Err (refusal.Twice parameter.User)
unfolding queries_on_literals
row-second_coming = refl

row-date_before_page : asked (codes "page=0&date=+x++y") ≡ Err (refusal.Date 0)
unfolding queries_on_literals
row-date_before_page = refl

row-second_piece :
    asked (codes "date=2024-05-01T10:00:00Z/2024-05-01T10:02:00Z++2024-05-01T10:00:00Z")
    ≡ Err (refusal.Date 1)
unfolding queries_on_literals
row-second_piece = refl

-- ---- names

row-minimum : asked (codes "min=2&page=3")
    ≡ Ok (record nothing { page = 3; ignored = codes "min" ∷ [] })
unfolding queries_on_literals
row-minimum = refl

row-no_name : asked (codes "=a&&user=&=b")
    ≡ Ok (record nothing { filters = record unfiltered { user = Some [] }; ignored = [] ∷ [] })
unfolding queries_on_literals
row-no_name = refl
