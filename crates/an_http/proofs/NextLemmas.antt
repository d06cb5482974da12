-- How the answer to a call follows from what is held.
use Rattle.std.proofs.Common.{◌≡◌, ℕ, ◌+◌, ◌<◌, ◌≤◌, max, List, length, take, drop, Bool, true, false, if◌then◌else◌, nat_lt, nat_le, ◌==◌, Option, Some, Result, Ok, Err, refl, ap, arith, length-append, inl, inr}
use Rattle.std.proofs.lemmas.Bool.Decides.{nat_tests}
use Rattle.std.proofs.lemmas.List.{length-drop}
use Rattle.an_world.specs.Link.{Traffic, ReadsOn, IsAtEnd}
use Rattle.an_world.proofs.LinkLemmas.{ReadsOn-none, ReadsOn-then}
use Rattle.an_world.specs.declared.read.LinkError.{LinkError}
use Rattle.an_world.specs.declared.read.LinkError.TheVariants.{ReadFault, Memory}
use Rattle.an_code.specs.declared.code.Code.{Code}
use Rattle.an_code.specs.declared.code.Code.TheVariants as code
use Rattle.an_http.specs.declared.next.Next.{Next}
use Rattle.an_http.specs.declared.next.Next.TheVariants as next
use Rattle.an_http.specs.declared.plan.Plan.{Plan}
use Rattle.an_http.specs.declared.request.Request.{Request}
use Rattle.an_http.specs.Fields.{body_limit}
use Rattle.an_message.specs.Framing.{head_length}
use Rattle.an_message.specs.Fill.{IsHeadless, IsLong, IsFilled, IsFull}
use Rattle.an_message.proofs.HeadLemmas.{head_length-within}
use Rattle.an_http.specs.Head.{head_limit}
use Rattle.an_http.specs.Status.{status_of}
use Rattle.an_http.specs.Requests.{Whole, Wrong, Front, Nothing, Plans, headless, with_body, request_of, Begins}
use Rattle.an_http.specs.Next.{Says, IsCut, IsNext, at_end}
use Rattle.an_http.proofs.BeginLemmas.{headless-begins, holds_none, more-planned, wrong-begins}

-- how many bytes are held at most, behind what was read for a head, and for a body
few-head : (held all : ℕ) → all ≤ max held head_limit → all ≤ max held (head_limit + body_limit)
few-head held all few = grind (arith, few)

few-body : (held all end body : ℕ) → end ≤ head_limit → body ≤ body_limit
    → all ≤ max held (end + body) → all ≤ max held (head_limit + body_limit)
few-body held all end body short within few = grind (arith, short, within, few)

few-then : (held held' all : ℕ) → held' ≤ max held head_limit
    → all ≤ max held' (head_limit + body_limit) → all ≤ max held (head_limit + body_limit)
few-then held held' all first few = grind (arith, first, few)

few-none : (held : ℕ) → held ≤ max held (head_limit + body_limit)
few-none held = grind arith

-- the end of the input, where no head ends
end-cut : (old new : Option Traffic) (held held' : List ℕ) → IsHeadless head_limit held'
    → IsAtEnd new → ReadsOn old new held held'
    → length held' ≤ max (length held) (head_limit + body_limit)
    → IsCut old new held held' (at_end (length held'))
end-cut old new held held' none end reads few = record {
  all = held';
  reads = reads;
  few = few;
  piece = headless (length held');
  begins = headless-begins held' (head_length held') none.none;
  says =
      by (length held' == 0) (nat_lt (length held') head_limit)
      (grind (arith, nat_tests, none.few));
}
  where
    by : (empty short : Bool) → short ≡ true
        → Says (if empty then next.End else next.Bad (status_of code.Head) code.Head)
        (if empty then Nothing else if short then Front code.Head else Wrong code.Head)
        new held' held'
    by true short h = (refl, end, refl)
    by false true h = (inr (refl, end), refl, refl)
    by false false h = cc

-- what is refused whatever follows
wrong-cut : (old new : Option Traffic) (held held' : List ℕ) (refusal : Code)
    → Begins held' (Wrong refusal) → ReadsOn old new held held'
    → length held' ≤ max (length held) (head_limit + body_limit)
    → IsCut old new held held' (next.Bad (status_of refusal) refusal)
wrong-cut old new held held' refusal begins reads few = record {
  all = held';
  reads = reads;
  few = few;
  piece = Wrong refusal;
  begins = begins;
  says = (inl refl, refl, refl);
}

-- a whole request stands there
whole-cut : (old new : Option Traffic) (held all held' : List ℕ) (request : Request)
    → Begins all (Whole request held') → ReadsOn old new held all
    → length all ≤ max (length held) (head_limit + body_limit)
    → IsCut old new held held' (next.Request request)
whole-cut old new held all held' request begins reads few = record {
  all = all;
  reads = reads;
  few = few;
  piece = Whole request held';
  begins = begins;
  says = refl;
}

-- the front of a request stands there, and the input ended
front-cut : (old new : Option Traffic) (held held' : List ℕ) (refusal : Code)
    → Begins held' (Front refusal) → IsAtEnd new → ReadsOn old new held held'
    → length held' ≤ max (length held) (head_limit + body_limit)
    → IsCut old new held held' (next.Bad (status_of refusal) refusal)
front-cut old new held held' refusal begins end reads few = record {
  all = held';
  reads = reads;
  few = few;
  piece = Front refusal;
  begins = begins;
  says = (inr (refl, end), refl, refl);
}

-- what came before, and an answer behind it
pub next_then : (old mid new : Option Traffic) (held held' held'' : List ℕ)
    (result : Result Next LinkError) → ReadsOn old mid held held'
    → length held' ≤ max (length held) head_limit → IsNext mid new held' held'' result
    → IsNext old new held held'' result
next_then old mid new held held' held'' (Ok told) first few next = record {
  all = next.all;
  reads = ReadsOn-then old mid new held held' next.all first next.reads;
  few = few-then (length held) (length held') (length next.all) few next.few;
  piece = next.piece;
  begins = next.begins;
  says = next.says;
}
next_then old mid new held held' held'' (Err ReadFault) first few next =
    (ReadsOn-then old mid new held held' held'' first next.0, next.1)
next_then old mid new held held' held'' (Err Memory) first few next =
    ReadsOn-then old mid new held held' held'' first next

-- no head ends within the limit
pub long_next : (old new : Option Traffic) (held held' : List ℕ) → IsLong head_limit held'
    → ReadsOn old new held held' → length held' ≤ max (length held) head_limit
    → IsNext old new held held' (Ok (next.Bad (status_of code.Head) code.Head))
long_next old new held held' long reads few =
    wrong-cut old new held held' code.Head (wrong-begins held' long) reads
    (few-head (length held) (length held') few)

-- the input ended before a head did
pub ended_next : (old new : Option Traffic) (held held' : List ℕ) (count : ℕ) → count ≡ length held'
    → IsHeadless head_limit held' × IsAtEnd new → ReadsOn old new held held'
    → length held' ≤ max (length held) head_limit
    → IsNext old new held held' (Ok (at_end count))
ended_next old new held held' count is (none, end) reads few =
    rw is (end-cut old new held held' none end reads (few-head (length held) (length held') few))

-- a head could not be read
pub unfilled_next : (old new : Option Traffic) (held held' : List ℕ) (error : LinkError)
    → IsFilled head_limit new held' (Err error) → ReadsOn old new held held'
    → IsNext old new held held' (Err error)
unfilled_next old new held held' ReadFault none reads = (reads, holds_none held' none)
unfilled_next old new held held' Memory none reads = reads

-- a head is refused
pub refused_next : (now : Option Traffic) (held : List ℕ) (end : ℕ) (refusal : Code)
    → head_length held ≡ Some end → end ≤ head_limit
    → Plans (take end held) (Err refusal)
    → IsNext now now held held (Ok (next.Bad (status_of refusal) refusal))
refused_next now held end refusal ends short plans =
    wrong-cut now now held held refusal
    (more-planned now now held held end (Err refusal) ends short plans (ReadsOn-none now held))
    (ReadsOn-none now held) (few-none (length held))

-- memory ran out before more was read
pub memory_next : (now : Option Traffic) (held : List ℕ) → IsNext now now held held (Err Memory)
memory_next now held = ReadsOn-none now held

-- too few bytes for the body
front-body : (plan : Plan) (end : ℕ) (held : List ℕ) → end ≤ length held
    → length held < end + plan.length → with_body plan (drop end held) ≡ Front code.Body
front-body plan end held within few =
    by (nat_le plan.length (length (drop end held)))
    (grind (arith, nat_tests, length-drop end held))
  where
    by : (test : Bool) → test ≡ false
        → (if test
        then Whole (request_of plan (take plan.length (drop end held)))
        (drop plan.length (drop end held))
        else Front code.Body) ≡ Front code.Body
    by true h = cc
    by false h = refl

-- the head is still held
head_held : (old new : Option Traffic) (held held' : List ℕ) (end : ℕ) → head_length held ≡ Some end
    → ReadsOn old new held held' → end ≤ length held'
head_held old new held held' end ends reads =
    omega (
      arith,
      (head_length-within held end ends).1,
      ap length reads.is,
      length-append held reads.more,
    )

-- what is held begins with a request of this plan
planned : (old new : Option Traffic) (held held' : List ℕ) (end : ℕ) (plan : Plan)
    → head_length held ≡ Some end → end ≤ head_limit
    → Plans (take end held) (Ok plan) → ReadsOn old new held held'
    → Begins held' (with_body plan (drop end held'))
planned old new held held' end plan ends short plans reads =
    more-planned old new held held' end (Ok plan) ends short plans reads

-- the body is there
pub whole_next : (old new : Option Traffic) (held held' held'' : List ℕ) (end : ℕ) (plan : Plan)
    (request : Request) → head_length held ≡ Some end
    → end ≤ head_limit → Plans (take end held) (Ok plan) → ReadsOn old new held held'
    → with_body plan (drop end held') ≡ Whole request held''
    → length held' ≤ max (length held) (end + plan.length) → plan.length ≤ body_limit
    → IsNext old new held held'' (Ok (next.Request request))
whole_next old new held held' held'' end plan request ends short plans reads taken few within =
    whole-cut old new held held' held'' request
    (rw taken at (planned old new held held' end plan ends short plans reads)) reads
    (few-body (length held) (length held') end plan.length short within few)

-- the input ended inside the body
pub cut_short_next : (old new : Option Traffic) (held held' : List ℕ) (end : ℕ) (plan : Plan)
    → head_length held ≡ Some end → end ≤ head_limit
    → Plans (take end held) (Ok plan) → ReadsOn old new held held'
    → IsFull new (end + plan.length) held' (Ok false)
    → length held' ≤ max (length held) (end + plan.length) → plan.length ≤ body_limit
    → IsNext old new held held' (Ok (next.Bad (status_of code.Body) code.Body))
cut_short_next old new held held' end plan ends short plans reads (less, at_its_end) few within =
    front-cut old new held held' code.Body
    (rw (front-body plan end held' (head_held old new held held' end ends reads) less) at
    (planned old new held held' end plan ends short plans reads)) at_its_end reads
    (few-body (length held) (length held') end plan.length short within few)

-- the body could not be read
pub unfull_next : (old new : Option Traffic) (held held' : List ℕ) (end : ℕ) (plan : Plan)
    (error : LinkError) → head_length held ≡ Some end → end ≤ head_limit
    → Plans (take end held) (Ok plan) → ReadsOn old new held held'
    → IsFull new (end + plan.length) held' (Err error) → IsNext old new held held' (Err error)
unfull_next old new held held' end plan ReadFault ends short plans reads few = (
  reads,
  record {
    piece = Front code.Body;
    begins =
        rw (front-body plan end held' (head_held old new held held' end ends reads) few) at
        (planned old new held held' end plan ends short plans reads);
    open_ = tt;
  },
)
unfull_next old new held held' end plan Memory ends short plans reads few = reads

-- memory ran out for the request
pub untaken_next : (old new : Option Traffic) (held held' held'' : List ℕ)
    → ReadsOn old new held held' → held'' ≡ held' → IsNext old new held held'' (Err Memory)
untaken_next old new held held' held'' reads same = rw same reads

pub ruleset filling = (next_then, long_next, ended_next, unfilled_next)

pub ruleset planning = (refused_next, memory_next)

pub ruleset taking = (whole_next, cut_short_next, unfull_next, untaken_next)
