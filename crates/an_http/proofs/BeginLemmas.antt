-- What piece the bytes that are held begin with.
use Rattle.std.proofs.Common.{◌≡◌, ℕ, ◌<◌, ◌≤◌, List, length, take, drop, Bool, true, false, if◌then◌else◌, nat_lt, ◌==◌, Option, Some, None, Result, MatchBool, refl, sym, ap, ◌∙◌, arith}
use Rattle.std.proofs.lemmas.Bool.Decides.{nat_tests}
use Rattle.std.proofs.lemmas.List.{take-append-le}
use Rattle.an_world.specs.Link.{Traffic, ReadsOn}
use Rattle.an_code.specs.declared.code.Code.{Code}
use Rattle.an_code.specs.declared.code.Code.TheVariants as code
use Rattle.an_http.specs.declared.plan.Plan.{Plan}
use Rattle.an_message.specs.Framing.{head_length}
use Rattle.an_message.specs.Fill.{IsHeadless, IsLong}
use Rattle.an_message.proofs.HeadLemmas.{head_length-within, head_length-append}
use Rattle.an_http.specs.Head.{head_limit}
use Rattle.an_http.specs.Requests.{Wrong, Front, Nothing, Plans, headless, behind, BeginsAt, Begins}
use Rattle.an_http.specs.Next.{IsOpen, HoldsNone}

-- what stands where no head ends
pub headless-begins : (held : List ℕ) (place : Option ℕ) → place ≡ None
    → BeginsAt held place (headless (length held))
headless-begins held None none = refl
headless-begins held (Some n) none = cc

open_by : (count : ℕ) → count < head_limit → IsOpen (headless count)
open_by count few = by (count == 0) (nat_lt count head_limit) (grind (arith, nat_tests))
  where
    by : (empty short : Bool) → short ≡ true
        → IsOpen (if empty then Nothing else if short then Front code.Head else Wrong code.Head)
    by true short h = tt
    by false true h = tt
    by false false h = cc

pub holds_none : (held : List ℕ) → IsHeadless head_limit held → HoldsNone held
holds_none held h = record {
  piece = headless (length held);
  begins = headless-begins held (head_length held) h.none;
  open_ = open_by (length held) h.few;
}

-- a head that is longer than a head may be
long-begins : (held : List ℕ) (n : ℕ) (place : Option ℕ) → place ≡ Some n → head_limit < n
    → BeginsAt held place (Wrong code.Head)
long-begins held n None is long = cc
long-begins held n (Some m) is long = by _ (nat_lt head_limit m) (grind (arith, nat_tests))
  where
    by : (P : Type 0) (test : Bool) → test ≡ true
        → MatchBool test (Wrong code.Head ≡ Wrong code.Head) P
    by P true h = refl
    by P false h = cc

-- as many bytes as a head may have, in which none ends
full-begins : (held : List ℕ) (place : Option ℕ) → place ≡ None → head_limit ≤ length held
    → BeginsAt held place (Wrong code.Head)
full-begins held (Some m) none long = cc
full-begins held None none long =
    by (length held == 0) (nat_lt (length held) head_limit) (grind (arith, nat_tests))
    (grind (arith, nat_tests))
  where
    by : (empty short : Bool) → empty ≡ false → short ≡ false
        → Wrong code.Head
        ≡ (if empty then Nothing else if short then Front code.Head else Wrong code.Head)
    by true short h k = cc
    by false true h k = cc
    by false false h k = refl

-- no head ends within the limit
pub wrong-begins : (held : List ℕ) → IsLong head_limit held → Begins held (Wrong code.Head)
wrong-begins held h = by (head_length held) refl
  where
    by : (place : Option ℕ) → head_length held ≡ place → BeginsAt held place (Wrong code.Head)
    by None is = full-begins held None refl (h.none is)
    by (Some n) is = long-begins held n (Some n) refl (h.some n is)

-- a head of the plan stands there, however many bytes stand behind it
planned-begins : (held : List ℕ) (n : ℕ) (plan : Result Plan Code) (place : Option ℕ)
    → place ≡ Some n → n ≤ head_limit → Plans (take n held) plan
    → BeginsAt held place (behind plan (drop n held))
planned-begins held n plan None is short plans = cc
planned-begins held n plan (Some m) is short plans =
    let same : n ≡ m = (cc) in
    let here : Plans (take m held) plan = rw (sym same) plans in
    rw same (by (nat_lt head_limit m) (grind (arith, nat_tests)) here)
  where
    by : (test : Bool) → test ≡ false → Plans (take m held) plan
        → MatchBool test (behind plan (drop m held) ≡ Wrong code.Head)
        ((found : Result Plan Code) × Plans (take m held) found
        × (behind plan (drop m held) ≡ behind found (drop m held)))
    by true h here = cc
    by false h here = (plan, here, refl)

-- and when more came
pub more-planned : (old new : Option Traffic) (held held' : List ℕ) (n : ℕ)
    (plan : Result Plan Code) → head_length held ≡ Some n → n ≤ head_limit
    → Plans (take n held) plan → ReadsOn old new held held'
    → Begins held' (behind plan (drop n held'))
more-planned old new held held' n plan is short plans reads =
    let within = (head_length-within held n is).1 in
    let still : take n held' ≡ take n held =
    ap (take n) reads.is ∙ take-append-le n held reads.more within in
    let ends : head_length held' ≡ Some n =
    ap head_length reads.is ∙ head_length-append held reads.more n is in
    planned-begins held' n plan (head_length held') ends short (rw still plans)
