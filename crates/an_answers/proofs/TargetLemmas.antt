-- The targets of the stream of changes and of its pages, as they are routed.
use Rattle.std.proofs.Common.{◌≡◌, ℕ, Bool, true, false, cond, if◌then◌else◌, List, [], ◌∷◌, ◌++◌, map, refl, ap, ◌∙◌, codes, nat_eq, length, ◌<◌, ◌≤◌, ◌^◌, arith, subst, decimal, Some, None, Ok, rules}
use Rattle.std.specs.Char.{digit_value, is_ascii_digit}
use Rattle.std.specs.List.{AllByRecursion, list_all}
use Rattle.std.specs.Str.{is_utf8}
use Rattle.std.specs.Str.Parse.{AllDigits}
use Rattle.std.specs.Prelude.{filter}
use Rattle.std.proofs.lemmas.Bool.{eqb-true, lt-ltb}
use Rattle.std.proofs.lemmas.Bool.Decides.{nat_tests}
use Rattle.std.proofs.lemmas.Fmt.{decimal_is_IsNumeral, first_decimal, IsAscii-decimal}
use Rattle.std.proofs.lemmas.Str.{IsUtf8-from_ascii, is_utf8-from_IsUtf8}
use Rattle.std.proofs.lemmas.Str.Parse.{digit_from_value}
use Rattle.form_urlencoded.specs.Form.{split_pair, is_nonempty, split, onto_first, raw_pairs, plus_to_space, ampersand}
use Rattle.percent_encoding.specs.Percent.{percent_decode}
use Rattle.an_base.specs.Decimal.{is_decimal}
use Rattle.an_base.specs.Outcome.{only_if}
use Rattle.an_code.specs.declared.parameter.Parameter.TheVariants.{Page}
use Rattle.an_feed.proofs.ActivityLemmas.{ascii}
use Rattle.an_feed.specs.Told.{page_target}
use Rattle.an_http.specs.declared.method.Method.TheVariants.{Get}
use Rattle.an_query.specs.Given.{number_in}
use Rattle.an_query.specs.Pairs.{all_there, decoded_pair, form_text, pairs_of}
use Rattle.an_routes.specs.Paths.{path_of}
use Rattle.an_routes.specs.Query.{given_of}
use Rattle.an_routes.specs.Routes.{route_of, route_to}
use Rattle.an_routes.specs.Target.{segments_of, target_parts}
use Rattle.an_routes.specs.declared.kinds.Read.TheVariants as read
use Rattle.an_routes.specs.declared.kinds.Route.TheVariants as route

-- no sign that a query reads otherwise: `%`, `&` or `+`
abbrev pub IsPlain : ℕ → Type 0
IsPlain b = (nat_eq b 37 ≡ false) × (nat_eq b 38 ≡ false) × (nat_eq b 43 ≡ false)

pub decode-plain : (text : List ℕ) → AllByRecursion IsPlain text → percent_decode text ≡ text
unfolding percent_decode
decode-plain [] h = refl
decode-plain (b ∷ []) h = refl
decode-plain (b ∷ c ∷ []) h = refl
decode-plain (b ∷ c ∷ d ∷ rest) h =
    rw h.0.0 (ap (λ more. b ∷ more) (decode-plain (c ∷ d ∷ rest) h.1))

pub split-plain : (text : List ℕ) → AllByRecursion IsPlain text → split ampersand text ≡ text ∷ []
unfolding split
split-plain [] h = refl
split-plain (b ∷ text) h = rw h.0.1 (ap (onto_first b) (split-plain text h.1))

pub plus-plain : (text : List ℕ) → AllByRecursion IsPlain text → map plus_to_space text ≡ text
plus-plain [] h = refl
plus-plain (b ∷ text) h = rw h.0.2 (ap (λ more. b ∷ more) (plus-plain text h.1))

page-plain : (text : List ℕ) → AllByRecursion IsPlain text
    → AllByRecursion IsPlain (codes "page=" ++ text)
page-plain text h = (
  (refl, refl, refl),
  ((refl, refl, refl), ((refl, refl, refl), ((refl, refl, refl), ((refl, refl, refl), h)))),
)

-- the query has one pair
pub page-pair : (text : List ℕ) → AllByRecursion IsPlain text
    → raw_pairs (codes "page=" ++ text) ≡ (codes "page", text) ∷ []
unfolding raw_pairs
page-pair text h =
    ap (λ pieces. map split_pair (filter is_nonempty pieces))
    (split-plain (codes "page=" ++ text) (page-plain text h))
    ∙ ap (λ b. map split_pair (cond b ((codes "page=" ++ text) ∷ []) []))
    (lt-ltb 0 (length (codes "page=" ++ text)) (some (codes "page=") text))
  where
    some : (xs ys : List ℕ) → 0 < length ((112 ∷ 97 ∷ 103 ∷ 101 ∷ 61 ∷ []) ++ ys)
    some xs ys = omega arith

-- ---- the number of a page

not-sign : (c s : ℕ) → (digit_value s < 10 → ⊥) → digit_value c < 10 → nat_eq c s ≡ false
not-sign c s never h = by (nat_eq c s) refl
  where
    by : (b : Bool) → nat_eq c s ≡ b → nat_eq c s ≡ false
    by true is = absurd (never (subst (λ n. digit_value n < 10) (eqb-true c s is) h))
    by false is = is

pub digits-plain : (ds : List ℕ) → AllDigits 10 ds → AllByRecursion IsPlain ds
digits-plain [] h = tt
digits-plain (d ∷ ds) h = (
  (
    not-sign d 37 (λ k. omega (arith, k)) h.0,
    not-sign d 38 (λ k. omega (arith, k)) h.0,
    not-sign d 43 (λ k. omega (arith, k)) h.0,
  ),
  digits-plain ds h.1,
)

small : (p : ℕ) → p ≤ 999999999 → p < 2 ^ 64
small p le = omega (arith, le)

-- a plain text of UTF-8 is read as it is
read-plain : (text : List ℕ) → AllByRecursion IsPlain text → is_utf8 text ≡ true
    → form_text text ≡ Some text
read-plain text plain h =
    ap (λ read. only_if is_utf8 read)
    (ap percent_decode (plus-plain text plain) ∙ decode-plain text plain)
    ∙ ap (λ (b : Bool). if b then Some text else None) h

pair-read : (raw : List ℕ × List ℕ) (name value : List ℕ) → form_text raw.0 ≡ Some name
    → form_text raw.1 ≡ Some value
    → decoded_pair raw ≡ Some (record { name = name; value = value })
pair-read raw name value first second = rw (first, second) refl

name-plain : AllByRecursion IsPlain (codes "page")
name-plain =
    ((refl, refl, refl), ((refl, refl, refl), ((refl, refl, refl), ((refl, refl, refl), tt))))

pub page-pairs : (p : ℕ) → p < 2 ^ 64
    → pairs_of (codes "page=" ++ decimal p)
    ≡ Some (record { name = codes "page"; value = decimal p } ∷ [])
page-pairs p few =
    let plain = digits-plain (decimal p) (decimal_is_IsNumeral p few).0.1 in
    let text : is_utf8 (decimal p) ≡ true =
    is_utf8-from_IsUtf8 (decimal p) (IsUtf8-from_ascii (decimal p) (IsAscii-decimal p few)) in
    ap (λ raw. all_there (map decoded_pair raw)) (page-pair (decimal p) plain)
    ∙ ap (λ one. all_there (one ∷ []))
    (pair-read (codes "page", decimal p) (codes "page") (decimal p)
    (read-plain (codes "page") name-plain (ascii (codes "page") refl))
    (read-plain (decimal p) plain text))

-- ---- the number itself

digits-ascii : (ds : List ℕ) → AllDigits 10 ds → list_all is_ascii_digit ds ≡ true
digits-ascii [] h = refl
digits-ascii (d ∷ ds) h =
    let (low, high) = digit_from_value d h.0 in
    rw (digits-ascii ds h.1) (grind (arith, nat_tests, low, high))

decimal-form : (p : ℕ) → 1 ≤ p → p < 2 ^ 64 → is_decimal (decimal p) ≡ true
decimal-form p one few =
    let d = decimal_is_IsNumeral p few in
    let some = d.0.0 in
    let first = first_decimal p (omega (arith, one)) few in
    rw (digits-ascii (decimal p) d.0.1) (grind (arith, nat_tests, some, first))

number : (p : ℕ) → 1 ≤ p → p ≤ 999999999 → number_in (decimal p) ≡ Some p
number p one le =
    let few = small p le in
    let value = (decimal_is_IsNumeral p few).1 in
    rw (decimal-form p one few) (rw value (grind (arith, nat_tests, one, le)))

-- ---- the routes

segments : segments_of (codes "changes") ≡ Some (codes "changes" ∷ [])
unfolding percent_decode
segments =
    ap (λ read. all_there (read ∷ []))
    (ap (λ (b : Bool). if b then Some (codes "changes") else None) (ascii (codes "changes") refl))

none-given : given_of (Page ∷ []) [] ≡ Ok []
unfolding given_of raw_pairs split
none-given = refl

-- one pair is given once
one-given : (p : ℕ) → p < 2 ^ 64
    → given_of (Page ∷ []) (codes "page=" ++ decimal p)
    ≡ Ok (record { name = codes "page"; value = decimal p } ∷ [])
unfolding given_of
one-given p few = rw (page-pairs p few) refl

page-parts : (p : ℕ)
    → target_parts (page_target p) ≡ Some (codes "changes", codes "page=" ++ decimal p)
page-parts p = search rules

pub changes-routed : route_of (Some Get) (codes "/changes") ≡ Ok (route.Read read.Changes)
unfolding route_of path_of
changes-routed = rw segments (rw none-given refl)

pub page-routed : (p : ℕ) → 1 ≤ p → p ≤ 999999999
    → route_of (Some Get) (page_target p) ≡ Ok (route.Read (read.ChangesPage p))
unfolding route_of path_of
page-routed p one le =
    ap (route_to (Some Get)) (page-parts p) ∙ routed
  where
    routed : route_to (Some Get) (Some (codes "changes", codes "page=" ++ decimal p))
        ≡ Ok (route.Read (read.ChangesPage p))
    routed = rw segments (rw (one-given p (small p le)) (rw (number p one le) refl))
