-- The laws of how bytes are cut into requests, for whoever reads one request after another.
use Rattle.std.proofs.Common.{◌≡◌, ℕ, ◌≤◌, List, [], ◌∷◌, ◌++◌, length, take, drop, Bool, true, false, if◌then◌else◌, nat_lt, nat_le, ◌==◌, Option, Some, None, Result, Ok, Err, MatchBool, refl, sym, ap, ◌∙◌, length-append, arith}
use Rattle.std.proofs.lemmas.Bool.Decides.{nat_tests}
use Rattle.std.proofs.lemmas.List.{take-append-le, drop-append-le}
use Rattle.an_code.specs.declared.code.Code.{Code}
use Rattle.an_code.specs.declared.code.Code.TheVariants as code
use Rattle.an_http.specs.declared.plan.Plan.{Plan}
use Rattle.an_http.specs.declared.request.Request.{Request}
use Rattle.httparse.proofs.GrammarLemmas.{request_unique}
use Rattle.an_message.specs.Framing.{head_length}
use Rattle.an_message.proofs.HeadLemmas.{head_length-within, head_length-append}
use Rattle.an_http.specs.Head.{Head, head_limit, head_of, ReadsHead}
use Rattle.an_http.specs.Requests.{Piece, Whole, Wrong, Front, Nothing, PlansAs, Plans, headless, with_body, request_of, behind, BeginsAt, Begins, Cuts, IsLast, Requests}

-- two readings of one head say the same
heads_unique : (text : List ℕ) (one other : Option Head) → ReadsHead text one → ReadsHead text other
    → one ≡ other
heads_unique text None None h k = refl
heads_unique text None (Some other) h (head, reads, few, is) =
    absurd (omega (arith, h head reads, few))
heads_unique text (Some one) None (head, reads, few, is) k =
    absurd (omega (arith, k head reads, few))
heads_unique text (Some one) (Some other) (head, reads, few, is) (head', reads', few', is') =
    let same = (request_unique text head head' [] [] reads reads').0 in
    ap (λ h. Some h) (is ∙ ap head_of same ∙ sym is')

plans_as : (head : Option Head) (one other : Result Plan Code) → PlansAs head one
    → PlansAs head other → one ≡ other
plans_as None one other h k = h ∙ sym k
plans_as (Some head) one other h k = h ∙ sym k

plans_unique : (text : List ℕ) (one other : Result Plan Code) → Plans text one → Plans text other
    → one ≡ other
plans_unique text one other h k =
    let same = heads_unique text h.head k.head h.reads k.reads in
    plans_as k.head one other (rw same at h.says) k.says

begins_at-unique : (bytes : List ℕ) (place : Option ℕ) (one other : Piece)
    → BeginsAt bytes place one → BeginsAt bytes place other → one ≡ other
begins_at-unique bytes None one other h k = h ∙ sym k
begins_at-unique bytes (Some n) one other h k = by (nat_lt head_limit n) h k
  where
    by : (long : Bool)
        → MatchBool long (one ≡ Wrong code.Head)
        ((plan : Result Plan Code) × Plans (take n bytes) plan × (one ≡ behind plan (drop n bytes)))
        → MatchBool long (other ≡ Wrong code.Head)
        ((plan : Result Plan Code) × Plans (take n bytes) plan
        × (other ≡ behind plan (drop n bytes)))
        → one ≡ other
    by true h k = h ∙ sym k
    by false (plan, plans, is) (plan', plans', is') =
        is ∙ ap (λ p. behind p (drop n bytes)) (plans_unique (take n bytes) plan plan' plans plans')
        ∙ sym is'

-- bytes begin with one piece alone
pub begins_unique : (bytes : List ℕ) (one other : Piece) → Begins bytes one → Begins bytes other
    → one ≡ other
begins_unique bytes one other h k = begins_at-unique bytes (head_length bytes) one other h k

-- a whole request is one whatever stands behind it
body_more : (plan : Plan) (rest more mid : List ℕ) (request : Request)
    → with_body plan rest ≡ Whole request mid
    → with_body plan (rest ++ more) ≡ Whole request (mid ++ more)
body_more plan rest more mid request h = by (nat_le plan.length (length rest)) refl h
  where
    by : (enough : Bool) → nat_le plan.length (length rest) ≡ enough
        → (if enough then Whole (request_of plan (take plan.length rest)) (drop plan.length rest)
        else Front code.Body) ≡ Whole request mid
        → with_body plan (rest ++ more) ≡ Whole request (mid ++ more)
    by false is h = cc
    by true is h =
        let long : plan.length ≤ length rest = grind (arith, nat_tests) in
        let still : nat_le plan.length (length (rest ++ more)) ≡ true =
        grind (arith, nat_tests, length-append rest more) in
        let same : request_of plan (take plan.length rest) ≡ request = (cc) in
        let left : drop plan.length rest ≡ mid = (cc) in
        rw (
          still,
          take-append-le plan.length rest more long,
          drop-append-le plan.length rest more long,
          same,
          left,
        ) refl

behind_more : (plan : Result Plan Code) (rest more mid : List ℕ) (request : Request)
    → Whole request mid ≡ behind plan rest
    → Whole request (mid ++ more) ≡ behind plan (rest ++ more)
behind_more (Ok plan) rest more mid request h = sym (body_more plan rest more mid request (sym h))
behind_more (Err refusal) rest more mid request h = cc

headless_is_no_request : (count : ℕ) (request : Request) (mid : List ℕ)
    → Whole request mid ≡ headless count → ⊥
headless_is_no_request count request mid h = by (count == 0) (nat_lt count head_limit) h
  where
    by : (empty short : Bool)
        → Whole request mid
        ≡ (if empty then Nothing else if short then Front code.Head else Wrong code.Head)
        → ⊥
    by true short h = cc
    by false true h = cc
    by false false h = cc

begins_at-more : (bytes more : List ℕ) (place : Option ℕ) (request : Request) (rest : List ℕ)
    → head_length bytes ≡ place
    → BeginsAt bytes place (Whole request rest)
    → Begins (bytes ++ more) (Whole request (rest ++ more))
begins_at-more bytes more None request rest is h =
    absurd (headless_is_no_request (length bytes) request rest h)
begins_at-more bytes more (Some n) request rest is h = by (nat_lt head_limit n) refl h
  where
    by : (long : Bool) → nat_lt head_limit n ≡ long
        → MatchBool long (Whole request rest ≡ Wrong code.Head)
        ((plan : Result Plan Code) × Plans (take n bytes) plan
        × (Whole request rest ≡ behind plan (drop n bytes)))
        → Begins (bytes ++ more) (Whole request (rest ++ more))
    by true long h = cc
    by false long (plan, plans, whole) =
        let within = (head_length-within bytes n is).1 in
        let front : take n (bytes ++ more) ≡ take n bytes = take-append-le n bytes more within in
        let left : drop n (bytes ++ more) ≡ drop n bytes ++ more =
        drop-append-le n bytes more within in
        rw (head_length-append bytes more n is, long) (
          plan,
          rw front plans,
          behind_more plan (drop n bytes) more rest request whole ∙ ap (behind plan) (sym left),
        )

-- bytes that begin with a whole request begin with it still when more come
pub begins_more : (bytes more : List ℕ) (request : Request) (rest : List ℕ)
    → Begins bytes (Whole request rest)
    → Begins (bytes ++ more) (Whole request (rest ++ more))
begins_more bytes more request rest h =
    begins_at-more bytes more (head_length bytes) request rest refl h

-- and so do the requests behind it
pub cuts_more : (bytes more : List ℕ) (requests : List Request) (rest : List ℕ)
    → Cuts bytes requests rest → Cuts (bytes ++ more) requests (rest ++ more)
cuts_more bytes more [] rest h = ap (λ b. b ++ more) h
cuts_more bytes more (request ∷ requests) rest (mid, begins, next) =
    (mid ++ more, begins_more bytes more request mid begins, cuts_more mid more requests rest next)

-- one request more is taken from the rest
pub cuts_next : (bytes : List ℕ) (requests : List Request) (held : List ℕ) (request : Request)
    (rest : List ℕ) → Cuts bytes requests held
    → Begins held (Whole request rest) → Cuts bytes (requests ++ request ∷ []) rest
cuts_next bytes [] held request rest h begins = (rest, rw h begins, refl)
cuts_next bytes (first ∷ requests) held request rest (mid, here, next) begins =
    (mid, here, cuts_next mid requests held request rest next begins)

-- the same bytes are cut in one way alone
pub requests_unique : (bytes : List ℕ) (one other : List Request) (rest rest' : List ℕ)
    (piece piece' : Piece) → Requests bytes one rest piece
    → Requests bytes other rest' piece' → (one ≡ other) × (rest ≡ rest') × (piece ≡ piece')
requests_unique bytes one other rest rest' piece piece' h k =
    by bytes one other h.cuts h.begins k.cuts k.begins
  where
    last_is_whole : (request : Request) (mid : List ℕ) (last : Piece) → last ≡ Whole request mid
        → IsLast last → ⊥
    last_is_whole request mid (Whole _ _) is none = none
    last_is_whole request mid (Wrong _) is none = cc
    last_is_whole request mid (Front _) is none = cc
    last_is_whole request mid Nothing is none = cc

    by : (bytes : List ℕ) (one other : List Request) → Cuts bytes one rest → Begins rest piece
        → Cuts bytes other rest' → Begins rest' piece'
        → (one ≡ other) × (rest ≡ rest') × (piece ≡ piece')
    by bytes [] [] c b c' b' =
        let same : rest ≡ rest' = sym c ∙ c' in
        (refl, same, begins_unique rest' piece piece' (rw same at b) b')
    by bytes [] (request ∷ other) c b (mid, here, next) b' =
        absurd (last_is_whole request mid piece
        (begins_unique rest piece (Whole request mid) b (rw c at here)) h.last)
    by bytes (request ∷ one) [] (mid, here, next) b c' b' =
        absurd (last_is_whole request mid piece'
        (begins_unique rest' piece' (Whole request mid) b' (rw c' at here)) k.last)
    by bytes (request ∷ one) (request' ∷ other) (mid, here, next) b (mid', here', next') b' =
        let same = begins_unique bytes (Whole request mid) (Whole request' mid') here here' in
        let first : request ≡ request' = (cc) in
        let left : mid ≡ mid' = (cc) in
        let more = by mid' one other (rw left at next) b next' b' in
        (rw (first, more.0) refl, more.1, more.2)

pub ruleset one_cut = (begins_unique, requests_unique)

pub ruleset more_cuts = (cuts_more, cuts_next)
