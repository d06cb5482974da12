-- What the walk over the code points of an HTML text keeps.
use Rattle.std.proofs.Common.{◌≡◌, ℕ, ◌+◌, ◌-◌, Bool, true, false, not, ◌&&◌, ◌||◌, ◌==◌, if◌then◌else◌, List, [], ◌∷◌, ◌++◌, length, refl, sym, ap, ◌∙◌, subst, append_assoc, append-nil, zero-add, arith}
use Rattle.std.proofs.lemmas.Bool.Decides.{nat_tests}
use Rattle.std.proofs.lemmas.List.{nil_from_length}
use Rattle.std.proofs.lemmas.List.Sums.{sum_by-cons}
use Rattle.std.proofs.lemmas.Str.{chars-nil, chars_past_char, encodes-append, IsUtf8-past_char}
use Rattle.std.specs.List.{list_any, count_by}
use Rattle.std.specs.Prelude.{encode_utf8, encode_utf8_all, nat_lt}
use Rattle.std.specs.Str.{chars, IsUtf8}
use Rattle.an_terms.specs.Html.{plain, plain_of_html}

-- what a code point keeps outside of tags, or where one opens
abbrev pub outside : Bool → Bool → ℕ → List ℕ
outside inside opens c = if inside then [] else ((if opens then 32 else c) ∷ [])

-- whether what follows a code point is inside a tag
abbrev pub inside_behind : Bool → Bool → ℕ → Bool
inside_behind inside opens c = if inside then not (c == 62) else opens

plain-cons : (inside opens : Bool) (c : ℕ) (rest : List ℕ)
    → opens ≡ (c == 60 && list_any (λ d. d == 62) rest)
    → plain inside (c ∷ rest) ≡ outside inside opens c ++ plain (inside_behind inside opens c) rest
plain-cons true opens c rest e =
    elim (c == 62) as (λ b. (if b then plain false rest else plain true rest) ≡ plain (not b) rest)
    [ true ↦ refl | false ↦ refl ]
plain-cons false opens c rest e =
    ap (λ b. if b then 32 ∷ plain true rest else c ∷ plain false rest) (sym e)
    ∙ elim opens as (λ b. (if b then 32 ∷ plain true rest else c ∷ plain false rest)
    ≡ (if b then 32 else c) ∷ plain b rest)
    [ true ↦ refl | false ↦ refl ]

-- there is a `>` where their count is above 0
any-count : (cs : List ℕ) → nat_lt 0 (count_by (λ d. d == 62) cs) ≡ list_any (λ d. d == 62) cs
any-count [] = refl
any-count (c ∷ cs) =
    ap (nat_lt 0) (sum_by-cons (λ d. if d == 62 then 1 else 0) c cs)
    ∙ elim (c == 62) as (λ b. nat_lt 0 ((if b then 1 else 0) + count_by (λ d. d == 62) cs)
    ≡ (b || list_any (λ d. d == 62) cs)) [
      | true ↦ grind (arith, nat_tests)
      | false ↦ rw zero-add (any-count cs)
    ]

-- The walk has come to the code points of `rest`: what it kept stands before what is left of them,
-- and so many `>` are to come.
pub record HasCome (text kept : List ℕ) (inside : Bool) (ends : ℕ) (rest : List ℕ) : Type 0 where
  pub so_far : kept ++ encode_utf8_all (plain inside (chars rest)) ≡ plain_of_html text
  pub to_come : ends ≡ count_by (λ c. c == 62) (chars rest)
  pub utf8 : IsUtf8 rest

pub HasCome-start : (text kept rest : List ℕ) (ends : ℕ) → IsUtf8 text → kept ≡ [] → rest ≡ text
    → ends ≡ count_by (λ c. c == 62) (chars text)
    → HasCome text kept false ends rest
unfolding plain_of_html
HasCome-start text kept rest ends u none all count =
    record {
      so_far =
          ap (λ t. t ++ encode_utf8_all (plain false (chars rest))) none
          ∙ ap (λ t. encode_utf8_all (plain false (chars t))) all;
      to_come = count ∙ ap (λ t. count_by (λ c. c == 62) (chars t)) (sym all);
      utf8 = subst IsUtf8 (sym all) u;
    }

pub HasCome-end : (text kept rest : List ℕ) (inside : Bool) (ends : ℕ)
    → HasCome text kept inside ends rest → length rest ≡ 0 → kept ≡ plain_of_html text
HasCome-end text kept rest inside ends h none =
    let nothing = ap chars (nil_from_length rest none) ∙ chars-nil in
    sym (append-nil kept) ∙ ap (λ cs. kept ++ encode_utf8_all (plain inside cs)) (sym nothing)
    ∙ h.so_far

pub HasCome-char : (text kept old rest new : List ℕ) (inside opens : Bool) (c ends left : ℕ)
    → HasCome text kept inside ends old → old ≡ encode_utf8 c ++ rest
    → left ≡ ends - (if c == 62 then 1 else 0) → opens ≡ (c == 60 && nat_lt 0 left)
    → new ≡ kept ++ encode_utf8_all (outside inside opens c)
    → HasCome text new (inside_behind inside opens c) left rest
HasCome-char text kept old rest new inside opens c ends left h is left_is opens_is new_is =
    let first = chars_past_char old rest c h.utf8 is in
    let count =
    h.to_come ∙ ap (count_by (λ d. d == 62)) first
    ∙ sum_by-cons (λ d. if d == 62 then 1 else 0) c (chars rest) in
    let to_come : left ≡ count_by (λ d. d == 62) (chars rest) = omega arith in
    let opens_here =
    opens_is ∙ ap (λ b. c == 60 && b) (ap (nat_lt 0) to_come ∙ any-count (chars rest)) in
    let behind = plain (inside_behind inside opens c) (chars rest) in
    record {
      so_far = ap (λ t. t ++ encode_utf8_all behind) new_is ∙ append_assoc kept _ _
          ∙ ap (λ t. kept ++ t) (sym (encodes-append (outside inside opens c) behind)
          ∙ ap encode_utf8_all (sym (plain-cons inside opens c (chars rest) opens_here)
          ∙ ap (plain inside) (sym first)))
          ∙ h.so_far;
      to_come = to_come;
      utf8 = IsUtf8-past_char old rest c h.utf8 is;
    }
