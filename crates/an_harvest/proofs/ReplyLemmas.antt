-- What is read of a reply, by what is held.
use Rattle.std.proofs.Common.{◌≡◌, ℕ, ◌+◌, ◌-◌, ◌<◌, ◌≤◌, List, length, take, drop, Bool, true, false, if◌then◌else◌, nat_lt, nat_le, Option, Some, None, Result, Ok, Err, MatchBool, refl, sym, ap, ◌∙◌, arith, length-append, inl, inr}
use Rattle.std.proofs.lemmas.Bool.Decides.{nat_tests}
use Rattle.std.proofs.lemmas.List.{drop-drop, length-drop, take-append-le}
use Rattle.std.proofs.Math.Seq.{take-length}
use Rattle.an_world.specs.Link.{Traffic, ReadsOn, IsAtEnd, Writes, WritesFront}
use Rattle.an_world.proofs.LinkLemmas.{ReadsOn-none, ReadsOn-then}
use Rattle.an_world.specs.declared.read.LinkError.{LinkError}
use Rattle.an_world.specs.declared.read.LinkError.TheVariants as link
use Rattle.an_message.specs.Framing.{head_length}
use Rattle.an_message.specs.Fill.{IsHeadless, IsLong, IsFull}
use Rattle.an_message.proofs.HeadLemmas.{head_length-within, head_length-append}
use Rattle.an_harvest.specs.declared.fetch.Got.{Got}
use Rattle.an_harvest.specs.declared.head.Plan.{Plan}
use Rattle.an_harvest.specs.declared.reply.GetError.{GetError}
use Rattle.an_harvest.specs.declared.reply.GetError.TheVariants as get
use Rattle.an_harvest.specs.Reply.{head_limit, Plans, Whole, Wrong, Front, with_body, planned, BeginsAt, Begins, IsRead, IsReply, IsSent, get_error}

-- ---- what the bytes that are held begin with

-- no head ends within the limit
wrong-begins : (held : List ℕ) → IsLong head_limit held → Begins held Wrong
wrong-begins held long = by (head_length held) refl
  where
    full : (short : Bool) → short ≡ false → Wrong ≡ (if short then Front else Wrong)
    full true h = cc
    full false h = refl

    above : (P : Type 0) (test : Bool) → test ≡ true → MatchBool test (Wrong ≡ Wrong) P
    above P true h = refl
    above P false h = cc

    by : (place : Option ℕ) → head_length held ≡ place → BeginsAt held place Wrong
    by None is =
        let above_it = long.none is in
        full (nat_lt (length held) head_limit) (grind (arith, nat_tests))
    by (Some n) is =
        let above_it = long.some n is in above _ (nat_lt head_limit n) (grind (arith, nat_tests))

-- no head ends yet
front-begins : (held : List ℕ) → IsHeadless head_limit held → Begins held Front
front-begins held h = by (head_length held) h.none
  where
    few : (short : Bool) → short ≡ true → Front ≡ (if short then Front else Wrong)
    few true h = refl
    few false h = cc

    by : (place : Option ℕ) → place ≡ None → BeginsAt held place Front
    by None is =
        let fits = h.few in few (nat_lt (length held) head_limit) (grind (arith, nat_tests))
    by (Some n) is = cc

-- a head of the plan stands there, however many bytes stand after it
planned-begins : (held : List ℕ) (n : ℕ) (plan : Option Plan) (place : Option ℕ) → place ≡ Some n
    → n ≤ head_limit → Plans (take n held) plan
    → BeginsAt held place (planned plan (drop n held))
planned-begins held n plan None is short plans = cc
planned-begins held n plan (Some m) is short plans =
    let same : n ≡ m = (cc) in
    let here : Plans (take m held) plan = rw (sym same) plans in
    rw same (by (nat_lt head_limit m) (grind (arith, nat_tests)) here)
  where
    by : (test : Bool) → test ≡ false → Plans (take m held) plan
        → MatchBool test (planned plan (drop m held) ≡ Wrong)
        ((found : Option Plan) × Plans (take m held) found
        × (planned plan (drop m held) ≡ planned found (drop m held)))
    by true h here = cc
    by false h here = (plan, here, refl)

-- and when more came
more-planned : (old new : Option Traffic) (held held' : List ℕ) (n : ℕ) (plan : Option Plan)
    → head_length held ≡ Some n → n ≤ head_limit
    → Plans (take n held) plan → ReadsOn old new held held'
    → Begins held' (planned plan (drop n held'))
more-planned old new held held' n plan is short plans reads =
    let within = (head_length-within held n is).1 in
    let still : take n held' ≡ take n held =
    ap (take n) reads.is ∙ take-append-le n held reads.more within in
    let ends : head_length held' ≡ Some n =
    ap head_length reads.is ∙ head_length-append held reads.more n is in
    planned-begins held' n plan (head_length held') ends short (rw still plans)

-- ---- what a call says

-- what came before, and an answer after it
pub read_then : (old mid new : Option Traffic) (held held' held'' : List ℕ)
    (result : Result Got GetError) → ReadsOn old mid held held'
    → IsRead mid new held' held'' result → IsRead old new held held'' result
read_then old mid new held held' held'' (Ok got) first (all, reads, begins) =
    (all, ReadsOn-then old mid new held held' all first reads, begins)
read_then old mid new held held' held'' (Err get.Reply) first (reads, none) =
    (ReadsOn-then old mid new held held' held'' first reads, none)
read_then old mid new held held' held'' (Err get.Link) first reads =
    ReadsOn-then old mid new held held' held'' first reads
read_then old mid new held held' held'' (Err get.Memory) first reads =
    ReadsOn-then old mid new held held' held'' first reads

-- no head ends within the limit
pub long_read : (old new : Option Traffic) (held held' : List ℕ) → IsLong head_limit held'
    → ReadsOn old new held held' → IsRead old new held held' (Err get.Reply)
long_read old new held held' long reads = (reads, inl (wrong-begins held' long))

-- the input ended before a head did
pub ended_read : (old new : Option Traffic) (held held' : List ℕ)
    → IsHeadless head_limit held' × IsAtEnd new → ReadsOn old new held held'
    → IsRead old new held held' (Err get.Reply)
ended_read old new held held' (none, end) reads = (reads, inr (front-begins held' none, end))

-- a read failed, or memory ran out
pub failed_read : (old new : Option Traffic) (held held' : List ℕ) (error : LinkError)
    → ReadsOn old new held held' → IsRead old new held held' (Err (get_error error))
failed_read old new held held' link.ReadFault reads = reads
failed_read old new held held' link.Memory reads = reads

-- what the head says is refused
pub refused_read : (now : Option Traffic) (held : List ℕ) (end : ℕ) → head_length held ≡ Some end
    → end ≤ head_limit
    → Plans (take end held) None → IsRead now now held held (Err get.Reply)
refused_read now held end ends short plans = (
  ReadsOn-none now held,
  inl (more-planned now now held held end None ends short plans (ReadsOn-none now held)),
)

-- memory ran out before more was read
pub memory_read : (now : Option Traffic) (held : List ℕ) → IsRead now now held held (Err get.Memory)
memory_read now held = ReadsOn-none now held

-- the body is there
pub whole_read : (old new : Option Traffic) (held held' held'' : List ℕ) (end : ℕ)
    (plan : Plan) (got : Got) → head_length held ≡ Some end
    → end ≤ head_limit → Plans (take end held) (Some plan) → ReadsOn old new held held'
    → with_body plan (drop end held') ≡ Whole got held''
    → IsRead old new held held'' (Ok got)
whole_read old new held held' held'' end plan got ends short plans reads taken = (
  held',
  reads,
  rw taken at (more-planned old new held held' end (Some plan) ends short plans reads),
)

-- too few bytes for the body
front-body : (plan : Plan) (end : ℕ) (held : List ℕ) → end ≤ length held
    → length held < end + plan.length → with_body plan (drop end held) ≡ Front
front-body plan end held within few =
    by (nat_le plan.length (length (drop end held)))
    (grind (arith, nat_tests, length-drop end held))
  where
    by : (test : Bool) → test ≡ false
        → (if test
        then Whole (record { status = plan.status; body = take plan.length (drop end held) })
        (drop plan.length (drop end held))
        else Front) ≡ Front
    by true h = cc
    by false h = refl

-- the head is still held
head_held : (old new : Option Traffic) (held held' : List ℕ) (end : ℕ) → head_length held ≡ Some end
    → ReadsOn old new held held' → end ≤ length held'
head_held old new held held' end ends reads =
    omega (
      arith,
      (head_length-within held end ends).1,
      ap length reads.is,
      length-append held reads.more,
    )

-- the input ended inside the body
pub cut_short_read : (old new : Option Traffic) (held held' : List ℕ) (end : ℕ) (plan : Plan)
    → head_length held ≡ Some end → end ≤ head_limit
    → Plans (take end held) (Some plan) → ReadsOn old new held held'
    → IsFull new (end + plan.length) held' (Ok false)
    → IsRead old new held held' (Err get.Reply)
cut_short_read old new held held' end plan ends short plans reads (less, at_its_end) = (
  reads,
  inr (
    rw (front-body plan end held' (head_held old new held held' end ends reads) less) at
        (more-planned old new held held' end (Some plan) ends short plans reads),
    at_its_end,
  ),
)

-- memory ran out for the body
pub untaken_read : (old new : Option Traffic) (held held' held'' : List ℕ)
    → ReadsOn old new held held' → held'' ≡ held' → IsRead old new held held'' (Err get.Memory)
untaken_read old new held held' held'' reads same = rw same reads

-- ---- a request before

-- the whole request was sent
pub sent_whole : (request : List ℕ) (old sent new : Option Traffic) (held held' : List ℕ)
    (result : Result Got GetError) → Writes request old sent
    → IsRead sent new held held' result → IsReply request old new held held' result
sent_whole request old sent new held held' result writes reads = (sent, by result, reads)
  where
    front : WritesFront request old sent
    front = record { count = length request; writes = rw (take-length request) writes }

    by : (result : Result Got GetError) → IsSent request old sent result
    by (Ok got) = writes
    by (Err get.Reply) = writes
    by (Err get.Link) = front
    by (Err get.Memory) = front

-- it was not, and nothing is read
pub sent_front : (request : List ℕ) (old new : Option Traffic) (held : List ℕ) (error : GetError)
    → WritesFront request old new → (error ≡ get.Reply → ⊥)
    → IsReply request old new held held (Err error)
sent_front request old new held get.Reply front never = absurd (never refl)
sent_front request old new held get.Link front never = (new, front, ReadsOn-none new held)
sent_front request old new held get.Memory front never = (new, front, ReadsOn-none new held)

-- ---- the reply is taken

pub taken : (held held' : List ℕ) (end total : ℕ) (plan : Plan) (got : Got)
    → total ≡ end + plan.length → total ≤ length held
    → got ≡ record { status = plan.status; body = take (total - end) (drop end held) }
    → held' ≡ drop total held
    → with_body plan (drop end held) ≡ Whole got held'
taken held held' end total plan got is within body after =
    let long : total - end ≡ plan.length = omega (arith, is) in
    rw (body, after, long, is)
    (by (nat_le plan.length (length (drop end held)))
    (grind (arith, nat_tests, length-drop end held)))
  where
    by : (test : Bool) → test ≡ true
        → (if test
        then Whole (record { status = plan.status; body = take plan.length (drop end held) })
        (drop plan.length (drop end held))
        else Front)
        ≡ Whole (record { status = plan.status; body = take plan.length (drop end held) })
        (drop (end + plan.length) held)
    by true h = rw drop-drop refl
    by false h = cc

pub ruleset filling = (read_then, long_read, ended_read, failed_read)

pub ruleset planning = (refused_read, memory_read)

pub ruleset taking = (whole_read, cut_short_read, failed_read, untaken_read)
