-- What one turn comes to: for the functions that make it.
use Rattle.std.proofs.Common.{◌≡◌, ◌≤◌, ◌<◌, ℕ, max, List, [], ◌∷◌, ◌++◌, length, take, Bool, true, false, ◌||◌, ◌⊎◌, inl, inr, nat_le, Option, Some, None, Result, Ok, Err, OnOk, OnErr, refl, sym, ap, subst, ◌∙◌, append-nil, arith}
use Rattle.std.proofs.lemmas.Bool.Decides.{nat_tests}
use Rattle.an_base.specs.Faults.{Rises}
use Rattle.an_world.specs.Link.{Traffic, Writes, WritesFront, IsAtEnd, ReadsOn}
use Rattle.an_world.specs.declared.link.LinkFault.{LinkFault}
use Rattle.an_world.specs.declared.read.LinkError.TheVariants as read
use Rattle.an_code.specs.declared.code.Code.{Code}
use Rattle.an_http.specs.declared.request.Request.{Request}
use Rattle.an_http.specs.declared.reply.Reply.{Reply}
use Rattle.an_http.specs.declared.next.Next.{Next}
use Rattle.an_http.specs.declared.next.Next.TheVariants as next
use Rattle.an_http.specs.Next.{IsNext}
use Rattle.an_http.specs.Requests.{Piece, Wrong, Front, Begins}
use Rattle.an_http.specs.Replies.{memory_reply, reply_bytes}
use Rattle.an_session.specs.Due.{Due, Ask, Refuse, IsRefused, IsDue, Fronts, is_last}
use Rattle.an_session.specs.Trail.{Rules, Known, Item, Answers, Goes, Rests, is_head, bad_reply, dues, text, texts}
use Rattle.an_session.specs.Session.{Line, line, Stops}
use Rattle.an_session.specs.Turn.{most, TellsMemory, Breaks, IsPut, IsServed, IsMet, Turns}
use Rattle.an_session.specs.declared.ended.Ended.{Ended}
use Rattle.an_session.specs.declared.ended.Ended.TheVariants.{Closed, ReadFault, WriteFault, Memory}
use Rattle.an_session.proofs.DueLemmas.{due_told, at_end-write}
use Rattle.an_session.proofs.TrailLemmas.{asked, refused, ran_answer, ran_refusal, rests_same}

-- the reply that says so was written, or its write failed
pub tells_memory : (answer : Result (Unit {0}) LinkFault) (old new : Option Traffic)
    (reads reads' faults faults' : ℕ)
    → OnOk answer (Writes memory_reply old new) → WritesFront memory_reply old new
    → OnErr answer (Rises faults faults')
    → TellsMemory (line old reads faults) (line new reads' faults')
tells_memory (Ok _) old new reads reads' faults faults' whole front failed =
    record { tail = memory_reply; writes = whole; is = inl refl }
tells_memory (Err _) old new reads reads' faults faults' whole front failed =
    record {
      tail = take front.count memory_reply;
      writes = front.writes;
      is = inr (record { count = front.count; is = refl; fault = failed });
    }

-- a reply of which the front was written
pub breaks : (bytes : List ℕ) (old new : Option Traffic) (reads reads' faults faults' : ℕ)
    → WritesFront bytes old new → Rises faults faults'
    → Breaks bytes (line old reads faults) (line new reads' faults')
breaks bytes old new reads reads' faults faults' front failed =
    record {
      tail = take front.count bytes;
      writes = front.writes;
      is = record { count = front.count; is = refl; fault = failed };
    }

pub rises_on : (first mid last : ℕ) → first ≤ mid → mid ≤ last → Rises mid last → Rises first last
rises_on first mid last a b h = λ below. grind (arith, h)

-- the loop goes on where more than one reply is left alone
pub more_left : (text : List ℕ) (close last : Bool) (left : ℕ) (ended : Option Ended)
    (old new : Line) → last ≡ (close || nat_le left 1) → IsPut text last ended old new
    → ended ≡ None → 1 < left
more_left text close last left None old new is put none =
    by close (nat_le left 1) refl (sym is ∙ put.1)
  where
    by : (close only : Bool) → nat_le left 1 ≡ only → (close || only) ≡ false → 1 < left
    by true only test h = cc
    by false true test h = cc
    by false false test h = grind (arith, nat_tests)
more_left text close last left (Some ended) old new is put none = cc

pub no_more : (text : List ℕ) (left : ℕ) (ended : Option Ended) (old new : Line)
    → IsPut text true ended old new → ended ≡ None → 1 < left
no_more text left None old new put none = cc (put.1)
no_more text left (Some ended) old new put none = cc

module _ {E : Type 0} (rules : Rules E) where
  -- a reply of the service, written
  pub served_request : (request : Request) (last : Bool) (reply : Reply) (ended : Option Ended)
      (old new : Line) (from to : Known E) → Answers rules request reply from to
      → IsPut (reply_bytes reply (is_head request) last) last ended old new
      → IsServed rules (Ask request last) ended old new from to
  served_request request last reply None old new from to h put = (
    record {
      item = asked request last reply h;
      is = refl;
      ran = ran_answer rules request last reply from to h;
    },
    put,
  )
  served_request request last reply (Some Closed) old new from to h put = (
    record {
      item = asked request last reply h;
      is = refl;
      ran = ran_answer rules request last reply from to h;
    },
    put,
  )
  served_request request last reply (Some ReadFault) old new from to h put = put
  served_request request last reply (Some WriteFault) old new from to h put = (
    record {
      item = asked request last reply h;
      is = refl;
      ran = ran_answer rules request last reply from to h;
    },
    put,
  )
  served_request request last reply (Some Memory) old new from to h put = (
    put,
    inr (record {
      item = asked request last reply h;
      is = refl;
      ran = ran_answer rules request last reply from to h;
    }),
  )

  -- no reply came
  pub lost_request : (request : Request) (last : Bool) (old new : Line) (from to : Known E)
      → Rests rules from to ⊎ ((reply : Reply) × Answers rules request reply from to)
      → TellsMemory old new → IsServed rules (Ask request last) (Some Memory) old new from to
  lost_request request last old new from to (inl rests) tells = (tells, inl rests)
  lost_request request last old new from to (inr (reply, h)) tells = (
    tells,
    inr (record {
      item = asked request last reply h;
      is = refl;
      ran = ran_answer rules request last reply from to h;
    }),
  )

  -- a refusal, written
  pub served_refusal : (refusal : Code) (ended : Option Ended) (old new : Line) (now : Known E)
      → IsPut (reply_bytes (bad_reply refusal) false true) true ended old new
      → IsServed rules (Refuse refusal) ended old new now now
  served_refusal refusal None old new now put =
      (record { item = refused refusal now; is = refl; ran = ran_refusal rules refusal now }, put)
  served_refusal refusal (Some Closed) old new now put =
      (record { item = refused refusal now; is = refl; ran = ran_refusal rules refusal now }, put)
  served_refusal refusal (Some ReadFault) old new now put = put
  served_refusal refusal (Some WriteFault) old new now put =
      (record { item = refused refusal now; is = refl; ran = ran_refusal rules refusal now }, put)
  served_refusal refusal (Some Memory) old new now put = (put, inl (rests_same rules now))

  -- ---- what was due, served

  -- one is due, and its item stands alone
  one_due : (told : Option Traffic) (left : ℕ) (all held : List ℕ) (due : Due) (item : Item E)
      → item.due ≡ due → IsDue told left all due held
      → Fronts told left all (dues (item ∷ [])) held
  one_due told left all held due item is here =
      (held, subst (λ d. IsDue told left all d held) (sym is) here, (λ _. refl), refl)

  alone : (last : Bool) → (last || false) ≡ last
  alone true = refl
  alone false = refl

  one_text : (item : Item E) (old new : Option Traffic) → Writes (text item) old new
      → Writes (texts (item ∷ []) ++ []) old new
  one_text item old new writes =
      subst (λ bytes. Writes bytes old new)
      (sym (append-nil (texts (item ∷ [])) ∙ append-nil (text item))) writes

  one_last : (due : Due) (item : Item E) (last : Bool) → item.due ≡ due → is_last due ≡ last
      → (is_last item.due || false) ≡ last
  one_last due item last is flag = alone (is_last item.due) ∙ ap is_last is ∙ flag

  module _ (left : ℕ) (old mid new : Option Traffic)
      (reads0 reads reads' writes0 writes writes' : ℕ) (held all held' : List ℕ) (due : Due)
      (from to : Known E)
      (comes : ReadsOn old mid held all) (few : length all ≤ max (length held) most)
      (is_due : IsDue mid left all due held') (kept : writes0 ≤ writes)
      (kept' : writes ≤ writes') where
    rises : Rises writes writes' → Rises writes0 writes'
    rises h = rises_on writes0 writes writes' kept kept' h

    stops : (bytes tail : List ℕ)
        → Stops bytes tail (line mid reads writes) (line new reads' writes')
        → Stops bytes tail (line old reads0 writes0) (line new reads' writes')
    stops bytes tail h = record { count = h.count; is = h.is; fault = rises h.fault }

    or_stops : (tail : List ℕ)
        → (tail ≡ memory_reply)
        ⊎ Stops memory_reply tail (line mid reads writes) (line new reads' writes')
        → (tail ≡ memory_reply)
        ⊎ Stops memory_reply tail (line old reads0 writes0) (line new reads' writes')
    or_stops tail (inl whole) = inl whole
    or_stops tail (inr h) = inr (stops memory_reply tail h)

    -- its item, where these bytes were written
    here : (item : Item E) (bytes : List ℕ) → item.due ≡ due → Writes bytes mid new
        → Fronts new left all (dues (item ∷ [])) held'
    here item bytes is h =
        one_due new left all held' due item is
        (due_told mid new left all due held' (at_end-write bytes mid new h) is_due)

    pub served_turns : (ended : Option Ended)
        → IsServed rules due ended (line mid reads writes) (line new reads' writes') from to
        → Turns rules left ended (line old reads0 writes0)
        (line new reads' writes') held held' from to
    served_turns None (met, (put, flag)) = record {
      mid = mid;
      all = all;
      reads = comes;
      few = few;
      trail = met.item ∷ [];
      lost = [];
      ran = met.ran;
      rest = held';
      due = here met.item (text met.item) met.is put;
      tail = [];
      writes = one_text met.item mid new put;
      ends = (refl, refl, refl, one_last due met.item false met.is flag, refl);
    }
    served_turns (Some Closed) (met, (put, flag)) = record {
      mid = mid;
      all = all;
      reads = comes;
      few = few;
      trail = met.item ∷ [];
      lost = [];
      ran = met.ran;
      rest = held';
      due = here met.item (text met.item) met.is put;
      tail = [];
      writes = one_text met.item mid new put;
      ends = (refl, refl, inl (one_last due met.item true met.is flag));
    }
    served_turns (Some ReadFault) none = absurd none
    served_turns (Some WriteFault) (met, put) = record {
      mid = mid;
      all = all;
      reads = comes;
      few = few;
      trail = [];
      lost = met.item ∷ [];
      ran = met.ran;
      rest = held';
      due = here met.item put.tail met.is put.writes;
      tail = put.tail;
      writes = put.writes;
      ends = (met.item, refl, stops (text met.item) put.tail put.is);
    }
    served_turns (Some Memory) (tells, inl rests) = record {
      mid = mid;
      all = all;
      reads = comes;
      few = few;
      trail = [];
      lost = [];
      ran = rests;
      rest = all;
      due = refl;
      tail = tells.tail;
      writes = tells.writes;
      ends = (omega arith, refl, or_stops tells.tail tells.is);
    }
    served_turns (Some Memory) (tells, inr met) = record {
      mid = mid;
      all = all;
      reads = comes;
      few = few;
      trail = [];
      lost = met.item ∷ [];
      ran = met.ran;
      rest = held';
      due = here met.item tells.tail met.is tells.writes;
      tail = tells.tail;
      writes = tells.writes;
      ends = (omega arith, refl, or_stops tells.tail tells.is);
    }

  writes_none : (now : Option Traffic) → Writes [] now now
  writes_none None = tt
  writes_none (Some now) =
      record { written = sym (append-nil now.written); read = refl; left = refl }

  -- a piece that is refused
  refused_by : (told : Option Traffic) (bytes : List ℕ) (piece : Piece) (refusal : Code)
      → Begins bytes piece
      → (piece ≡ Wrong refusal) ⊎ ((piece ≡ Front refusal) × IsAtEnd told)
      → IsRefused told bytes refusal
  refused_by told bytes piece refusal begins (inl wrong) = inl (rw wrong at begins)
  refused_by told bytes piece refusal begins (inr (front, ended)) = inr (rw front at begins, ended)

  -- what came next was served
  pub next_turns : (left : ℕ) (told : Next) (ended : Option Ended) (old mid new : Option Traffic)
      (reads0 reads reads' writes0 writes writes' : ℕ) (held held' : List ℕ) (from to : Known E)
      → IsNext old mid held held' (Ok told) → writes0 ≤ writes → writes ≤ writes'
      → IsMet rules left told ended (line mid reads writes) (line new reads' writes') from to
      → Turns rules left ended (line old reads0 writes0)
      (line new reads' writes') held held' from to
  next_turns left (next.Request request) ended old mid new reads0 reads reads' writes0 writes
      writes' held held' from to cut kept kept' met =
      served_turns left old mid new reads0 reads reads' writes0 writes writes' held cut.all held'
      (Ask request (request.close || nat_le left 1)) from to cut.reads cut.few
      (rw cut.says at cut.begins, refl) kept kept' ended met
  next_turns left (next.Bad status refusal) ended old mid new reads0 reads reads' writes0 writes
      writes' held held' from to cut kept kept' met =
      served_turns left old mid new reads0 reads reads' writes0 writes writes' held cut.all held'
      (Refuse refusal) from to cut.reads cut.few
      (refused_by mid cut.all cut.piece refusal cut.begins cut.says.0, cut.says.2) kept
      kept' ended met
  next_turns left next.End ended old mid new reads0 reads reads' writes0 writes writes' held held'
      from to cut kept kept' (is, same, still) =
      subst (λ ended.
      Turns rules left ended (line old reads0 writes0) (line new reads' writes') held held' from to)
      (sym is) (record {
        mid = mid;
        all = cut.all;
        reads = cut.reads;
        few = cut.few;
        trail = [];
        lost = [];
        ran = subst (λ known. Rests rules from known) (sym still) (rests_same rules from);
        rest = cut.all;
        due = refl;
        tail = [];
        writes = subst (λ (now : Line). Writes [] mid now.traffic) (sym same) (writes_none mid);
        ends = (
          refl,
          refl,
          inr (
            rw cut.says.0 at cut.begins,
            subst (λ (now : Line). IsAtEnd now.traffic) (sym same) cut.says.1,
          ),
        );
      })

  -- the read failed, or memory ran out for it
  pub fault_turns : (left : ℕ) (old new : Option Traffic) (reads reads' writes writes' : ℕ)
      (held held' : List ℕ) (now : Known E) → IsNext old new held held' (Err read.ReadFault)
      → length held' ≤ max (length held) most → Rises reads reads'
      → Turns rules left (Some ReadFault) (line old reads writes)
      (line new reads' writes') held held' now now
  fault_turns left old new reads reads' writes writes' held held' now (comes, none) few fault =
      record {
        mid = new;
        all = held';
        reads = comes;
        few = few;
        trail = [];
        lost = [];
        ran = rests_same rules now;
        rest = held';
        due = refl;
        tail = [];
        writes = writes_none new;
        ends = (refl, refl, refl, none, fault);
      }

  pub memory_turns : (left : ℕ) (ended : Ended) (old mid new : Option Traffic)
      (reads0 reads reads' writes0 writes writes' : ℕ) (held held' : List ℕ) (now : Known E)
      → IsNext old mid held held' (Err read.Memory) → length held' ≤ max (length held) most
      → writes0 ≤ writes → writes ≤ writes' → ended ≡ Memory
      → TellsMemory (line mid reads writes) (line new reads' writes')
      → Turns rules left (Some ended) (line old reads0 writes0)
      (line new reads' writes') held held' now now
  memory_turns left ended old mid new reads0 reads reads' writes0 writes writes' held held' now
      comes few kept kept' is tells =
      subst (λ ended. Turns rules left (Some ended) (line old reads0 writes0)
      (line new reads' writes') held held' now now)
      (sym is) (record {
        mid = mid;
        all = held';
        reads = comes;
        few = few;
        trail = [];
        lost = [];
        ran = rests_same rules now;
        rest = held';
        due = refl;
        tail = tells.tail;
        writes = tells.writes;
        ends = (omega arith, refl, by tells.is);
      })
    where
      by : (tells.tail ≡ memory_reply)
          ⊎ Stops memory_reply tells.tail (line mid reads writes) (line new reads' writes')
          → (tells.tail ≡ memory_reply)
          ⊎ Stops memory_reply tells.tail (line old reads0 writes0) (line new reads' writes')
      by (inl whole) = inl whole
      by (inr h) = inr (record {
        count = h.count;
        is = h.is;
        fault = rises_on writes0 writes writes' kept kept' h.fault;
      })

-- ---- whatever the service stands for

pub goes_on : {S E : Type 0} (Stands : S → Known E → Type 0) (By By' : Known E → Known E → Type 0)
    (old new : S)
    → ((from to : Known E) → By from to → By' from to) → Goes Stands By old new
    → Goes Stands By' old new
goes_on Stands By By' old new weaker h = record {
  goes =
      λ from stands. let (to, stands', by) = h.goes from stands in (to, stands', weaker from to by);
}

pub goes_nowhere : {S E : Type 0} (Stands : S → Known E → Type 0)
    (By : Known E → Known E → Type 0) (now : S) → ((known : Known E) → By known known)
    → Goes Stands By now now
goes_nowhere Stands By now by = record { goes = λ from stands. (from, stands, by from) }
