-- The laws of what bytes begin with, of replies.
use Rattle.std.proofs.Common.{◌≡◌, ℕ, ◌≤◌, List, [], ◌++◌, length, take, drop, Bool, true, false, if◌then◌else◌, nat_lt, nat_le, Option, Some, None, MatchBool, refl, sym, ap, ◌∙◌, length-append, arith}
use Rattle.std.specs.Prelude.{option_and_then}
use Rattle.std.proofs.lemmas.Bool.Decides.{nat_tests}
use Rattle.std.proofs.lemmas.List.{take-append-le, drop-append-le}
use Rattle.httparse.proofs.GrammarLemmas.{response_unique}
use Rattle.an_message.specs.Framing.{head_length}
use Rattle.an_message.proofs.HeadLemmas.{head_length-within, head_length-append}
use Rattle.an_harvest.specs.declared.fetch.Got.{Got}
use Rattle.an_harvest.specs.declared.head.Plan.{Plan}
use Rattle.an_harvest.specs.Reply.{Head, head_limit, head_of, ReadsHead, plan_of, Plans, Piece, Whole, Wrong, Front, headless, with_body, planned, BeginsAt, Begins}

-- two readings of one head say the same
heads_unique : (text : List ℕ) (one other : Option Head) → ReadsHead text one → ReadsHead text other
    → one ≡ other
heads_unique text None None h k = refl
heads_unique text None (Some other) h (head, reads, few, is) =
    absurd (omega (arith, h head reads, few))
heads_unique text (Some one) None (head, reads, few, is) k =
    absurd (omega (arith, k head reads, few))
heads_unique text (Some one) (Some other) (head, reads, few, is) (head', reads', few', is') =
    let same = (response_unique text head head' [] [] reads reads').0 in
    ap (λ h. Some h) (is ∙ ap head_of same ∙ sym is')

plans_unique : (text : List ℕ) (one other : Option Plan) → Plans text one → Plans text other
    → one ≡ other
plans_unique text one other (head, reads, is) (head', reads', is') =
    is ∙ ap (option_and_then plan_of) (heads_unique text head head' reads reads') ∙ sym is'

begins_at-unique : (bytes : List ℕ) (place : Option ℕ) (one other : Piece)
    → BeginsAt bytes place one → BeginsAt bytes place other → one ≡ other
begins_at-unique bytes None one other h k = h ∙ sym k
begins_at-unique bytes (Some n) one other h k = by (nat_lt head_limit n) h k
  where
    by : (long : Bool)
        → MatchBool long (one ≡ Wrong)
        ((plan : Option Plan) × Plans (take n bytes) plan × (one ≡ planned plan (drop n bytes)))
        → MatchBool long (other ≡ Wrong)
        ((plan : Option Plan) × Plans (take n bytes) plan × (other ≡ planned plan (drop n bytes)))
        → one ≡ other
    by true h k = h ∙ sym k
    by false (plan, plans, is) (plan', plans', is') =
        is
        ∙ ap (λ p. planned p (drop n bytes)) (plans_unique (take n bytes) plan plan' plans plans')
        ∙ sym is'

-- bytes begin with one piece only
pub begins_unique : (bytes : List ℕ) (one other : Piece) → Begins bytes one → Begins bytes other
    → one ≡ other
begins_unique bytes one other h k = begins_at-unique bytes (head_length bytes) one other h k

-- a whole reply is one whatever comes after it
body_more : (plan : Plan) (rest more mid : List ℕ) (got : Got) → with_body plan rest ≡ Whole got mid
    → with_body plan (rest ++ more) ≡ Whole got (mid ++ more)
body_more plan rest more mid got h = by (nat_le plan.length (length rest)) refl h
  where
    reply : List ℕ → Got
    reply bytes = record { status = plan.status; body = take plan.length bytes }

    by : (enough : Bool) → nat_le plan.length (length rest) ≡ enough
        → (if enough
        then Whole (record { status = plan.status; body = take plan.length rest })
        (drop plan.length rest)
        else Front) ≡ Whole got mid
        → with_body plan (rest ++ more) ≡ Whole got (mid ++ more)
    by false is h = cc
    by true is h =
        let long : plan.length ≤ length rest = grind (arith, nat_tests) in
        let still : nat_le plan.length (length (rest ++ more)) ≡ true =
        grind (arith, nat_tests, length-append rest more) in
        let same : reply rest ≡ got = (cc) in
        let left : drop plan.length rest ≡ mid = (cc) in
        rw (
          still,
          take-append-le plan.length rest more long,
          drop-append-le plan.length rest more long,
          same,
          left,
        ) refl

planned_more : (plan : Option Plan) (rest more mid : List ℕ) (got : Got)
    → Whole got mid ≡ planned plan rest → Whole got (mid ++ more) ≡ planned plan (rest ++ more)
planned_more (Some plan) rest more mid got h = sym (body_more plan rest more mid got (sym h))
planned_more None rest more mid got h = cc

headless_is_no_reply : (count : ℕ) (got : Got) (mid : List ℕ) → Whole got mid ≡ headless count → ⊥
headless_is_no_reply count got mid h = by (nat_lt count head_limit) h
  where
    by : (short : Bool) → Whole got mid ≡ (if short then Front else Wrong) → ⊥
    by true h = cc
    by false h = cc

begins_at-more : (bytes more : List ℕ) (place : Option ℕ) (got : Got) (rest : List ℕ)
    → head_length bytes ≡ place
    → BeginsAt bytes place (Whole got rest) → Begins (bytes ++ more) (Whole got (rest ++ more))
begins_at-more bytes more None got rest is h =
    absurd (headless_is_no_reply (length bytes) got rest h)
begins_at-more bytes more (Some n) got rest is h = by (nat_lt head_limit n) refl h
  where
    by : (long : Bool) → nat_lt head_limit n ≡ long
        → MatchBool long (Whole got rest ≡ Wrong)
        ((plan : Option Plan) × Plans (take n bytes) plan
        × (Whole got rest ≡ planned plan (drop n bytes)))
        → Begins (bytes ++ more) (Whole got (rest ++ more))
    by true long h = cc
    by false long (plan, plans, whole) =
        let within = (head_length-within bytes n is).1 in
        let front : take n (bytes ++ more) ≡ take n bytes = take-append-le n bytes more within in
        let left : drop n (bytes ++ more) ≡ drop n bytes ++ more =
        drop-append-le n bytes more within in
        rw (head_length-append bytes more n is, long) (
          plan,
          rw front plans,
          planned_more plan (drop n bytes) more rest got whole ∙ ap (planned plan) (sym left),
        )

pub begins_more : (bytes more : List ℕ) (got : Got) (rest : List ℕ) → Begins bytes (Whole got rest)
    → Begins (bytes ++ more) (Whole got (rest ++ more))
begins_more bytes more got rest h = begins_at-more bytes more (head_length bytes) got rest refl h

pub ruleset pieces = (begins_unique, begins_more)
