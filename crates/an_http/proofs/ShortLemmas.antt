-- How long the requests are that bytes begin with.
use Rattle.std.proofs.Common.{◌≡◌, ℕ, ◌+◌, ◌≤◌, List, [], ◌∷◌, length, take, drop, Bool, true, false, not, ◌==◌, nat_lt, nat_le, if◌then◌else◌, Option, Some, None, Result, Ok, Err, MatchBool, codes, refl, sym, ap, length-drop, length-take, arith}
use Rattle.std.proofs.lemmas.Bool.Decides.{nat_tests}
use Rattle.an_code.specs.declared.code.Code.{Code}
use Rattle.an_code.specs.declared.code.Code.TheVariants as code
use Rattle.an_http.specs.declared.plan.Plan.{Plan}
use Rattle.an_http.specs.declared.request.Request.{Request}
use Rattle.an_http.specs.Fields.{body_length, body_limit, length_within, no_length}
use Rattle.an_http.specs.declared.method.Method.{Method}
use Rattle.an_http.specs.declared.method.Method.TheVariants as method
use Rattle.an_message.specs.Framing.{head_length, length_of, values_of}
use Rattle.an_http.specs.Head.{Head, head_limit}
use Rattle.an_http.specs.Requests.{Begins, BeginsAt, Front, Nothing, Plans, PlansAs, Whole, Wrong, behind, body_of, plan_by, request_of, with_body}

same_ok : (r : Result ℕ Code) (a b : ℕ) → r ≡ Ok a → r ≡ Ok b → a ≡ b
same_ok r a b at is = cc

length_short : (length : Option ℕ) (n : ℕ) → length_within length ≡ Ok n → n ≤ body_limit
length_short None n is = absurd (cc)
length_short (Some v) n is = by (nat_lt body_limit v) refl is
  where
    by : (large : Bool) → nat_lt body_limit v ≡ large
        → (if large then Err code.Large else Ok v) ≡ Ok n → n ≤ body_limit
    by true at is = absurd (cc)
    by false at is = let same = same_ok (Ok v) v n refl is in grind (arith, nat_tests)

unlengthed_short : (method : Option Method) (n : ℕ) → no_length method ≡ Ok n → n ≤ body_limit
unlengthed_short None n is = let same = same_ok (Ok 0) 0 n refl is in omega arith
unlengthed_short (Some method.Get) n is = let same = same_ok (Ok 0) 0 n refl is in omega arith
unlengthed_short (Some method.Head) n is = let same = same_ok (Ok 0) 0 n refl is in omega arith
unlengthed_short (Some method.Options) n is = let same = same_ok (Ok 0) 0 n refl is in omega arith
unlengthed_short (Some method.Put) n is = absurd (cc)
unlengthed_short (Some method.Delete) n is = let same = same_ok (Ok 0) 0 n refl is in omega arith

body_short : (method : Option Method) (values : List (List ℕ)) (n : ℕ)
    → body_length method values ≡ Ok n → n ≤ body_limit
body_short method [] n is = unlengthed_short method n is
body_short method (value ∷ []) n is = length_short (length_of value) n is
body_short method (a ∷ b ∷ values) n is = absurd (cc)

body_of-short : (head : Head) (n : ℕ) → body_of head ≡ Ok n → n ≤ body_limit
body_of-short head n = by (not (length (values_of (codes "Transfer-Encoding") head.fields) == 0))
  where
    by : (coded : Bool)
        → (if coded then Err code.Transfer
        else body_length head.method (values_of (codes "Content-Length") head.fields)) ≡ Ok n
        → n ≤ body_limit
    by true is = absurd (cc)
    by false is = body_short head.method (values_of (codes "Content-Length") head.fields) n is

plan_short : (head : Head) (plan : Plan) → plan_by head (body_of head) ≡ Ok plan
    → plan.length ≤ body_limit
plan_short head plan = by (body_of head) refl
  where
    by : (body : Result ℕ Code) → body_of head ≡ body → plan_by head body ≡ Ok plan
        → plan.length ≤ body_limit
    by (Err refusal) at is = absurd (cc)
    by (Ok n) at is =
        let short = body_of-short head n at in let same : n ≡ plan.length = (cc) in omega arith

plans_short : (found : Option Head) (plan : Plan) → PlansAs found (Ok plan)
    → plan.length ≤ body_limit
plans_short None plan says = absurd (cc)
plans_short (Some head) plan says = plan_short head plan (sym says)

-- a request and what stands behind it
with_short : (plan : Plan) (rest : List ℕ) (request : Request) (left : List ℕ)
    → plan.length ≤ body_limit → Whole request left ≡ with_body plan rest
    → (length rest ≤ length left + body_limit) × (length request.body ≤ body_limit)
with_short plan rest request left short = by (nat_le plan.length (length rest)) refl
  where
    by : (fits : Bool) → nat_le plan.length (length rest) ≡ fits
        → Whole request left
        ≡ (if fits then Whole (request_of plan (take plan.length rest)) (drop plan.length rest)
        else Front code.Body)
        → (length rest ≤ length left + body_limit) × (length request.body ≤ body_limit)
    by false at is = absurd (cc)
    by true at is =
        let first : request ≡ request_of plan (take plan.length rest) = (cc) in
        let behind : left ≡ drop plan.length rest = (cc) in
        let lengths = length-drop plan.length rest in
        let taken = length-take plan.length rest in
        let more = ap (λ (xs : List ℕ). length xs) behind in
        let body = ap (λ (r : Request). length r.body) first in
        (grind (arith, nat_tests), grind (arith, nat_tests))

whole_short : (bytes : List ℕ) (place : Option ℕ) (request : Request) (rest : List ℕ)
    → BeginsAt bytes place (Whole request rest)
    → (length bytes ≤ length rest + (head_limit + body_limit)) × (length request.body ≤ body_limit)
whole_short bytes None request rest is =
    by (length bytes == 0) (nat_lt (length bytes) head_limit) is
  where
    by : (none few : Bool)
        → Whole request rest
        ≡ (if none then Nothing else (if few then Front code.Head else Wrong code.Head))
        → (length bytes ≤ length rest + (head_limit + body_limit))
        × (length request.body ≤ body_limit)
    by true few is = absurd (cc)
    by false true is = absurd (cc)
    by false false is = absurd (cc)
whole_short bytes (Some n) request rest begins = by (nat_lt head_limit n) refl begins
  where
    planned : (plan : Result Plan Code) → Plans (take n bytes) plan → n ≤ head_limit
        → Whole request rest ≡ behind plan (drop n bytes)
        → (length bytes ≤ length rest + (head_limit + body_limit))
        × (length request.body ≤ body_limit)
    planned (Err refusal) plans few is = absurd (cc)
    planned (Ok plan) plans few is =
        let (left, body) =
        with_short plan (drop n bytes) request rest (plans_short plans.head plan plans.says) is in
        let lengths = length-drop n bytes in
        (omega arith, body)

    by : (long : Bool) → nat_lt head_limit n ≡ long
        → MatchBool long (Whole request rest ≡ Wrong code.Head)
        ((plan : Result Plan Code) × Plans (take n bytes) plan
        × (Whole request rest ≡ behind plan (drop n bytes)))
        → (length bytes ≤ length rest + (head_limit + body_limit))
        × (length request.body ≤ body_limit)
    by true at is = absurd (cc)
    by false at (plan, plans, is) = planned plan plans (grind (arith, nat_tests)) is

pub requests_short : (bytes : List ℕ) (request : Request) (rest : List ℕ)
    → Begins bytes (Whole request rest)
    → (length bytes ≤ length rest + (head_limit + body_limit)) × (length request.body ≤ body_limit)
requests_short bytes request rest begins = whole_short bytes (head_length bytes) request rest begins
