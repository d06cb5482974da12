-- Where a server stands, and how many items its pages have.
use Rattle.std.specs.Prelude.{ℕ, List, length, codes, nat_eq, nat_lt, nat_le, Bool, not, ◌&&◌, ◌||◌}
use Rattle.std.specs.Prelude.{◌==◌, Option, option_and_then, Result, Ok}
use Rattle.std.specs.Char.{is_ascii_alphanumeric}
use Rattle.std.specs.List.{list_all, starts_with, ends_with}
use Rattle.an_base.specs.Decimal.{decimal_of}
use Rattle.an_base.specs.Outcome.{only_if, or_refuse}
use Rattle.an_list.specs.declared.site.SiteError.{SiteError}
use Rattle.an_list.specs.declared.site.SiteError.TheVariants.{Base, Size}

pub record Site : Type 0 where
  pub base : List ℕ
  pub size : ℕ

-- the text begins so, and goes on
abbrev pub goes_on_from : List ℕ → List ℕ → Bool
goes_on_from start text = starts_with nat_eq text start && nat_lt (length start) (length text)

-- a letter, a digit, or one of `-._~:/`
abbrev pub is_base_sign : ℕ → Bool
is_base_sign b =
    is_ascii_alphanumeric b || b == 45 || b == 46 || b == 95 || b == 126 || b == 58 || b == 47

-- the start of every IRI of the server: `http://` or `https://` and more, at most 200 such signs,
-- of which the last isn't `/`
unfoldable pub is_base : List ℕ → Bool
is_base text =
    (goes_on_from (codes "http://") text || goes_on_from (codes "https://") text)
    && nat_le (length text) 200 && list_all is_base_sign text && not (ends_with nat_eq text
    (codes "/"))

-- how many items a page has at most
abbrev pub is_size : ℕ → Bool
is_size n = nat_le 1 n && nat_le n 100

-- ---- the site that two words give

-- the number of items that a word gives
abbrev pub size_of : List ℕ → Option ℕ
size_of text = option_and_then (only_if is_size) (decimal_of 100 text)

-- the site, or the first refusal
abbrev pub site_of : List ℕ → List ℕ → Result Site SiteError
site_of base size =
    or_refuse Base (only_if is_base base) (λ base.
    or_refuse Size (size_of size) (λ size.
    Ok (record { base = base; size = size })))
