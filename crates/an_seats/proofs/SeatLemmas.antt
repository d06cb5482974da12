-- How a seat answers a request, and what a connection at it comes to.
use Rattle.std.proofs.Common.{◌≡◌, ◌+◌, inl, inr, ℕ, ℤ, List, [], ◌++◌, Bool, IsTrue, Option, Some, None, Result, Ok, Err, refl, sym, ap, subst, ◌∙◌, append-nil}
use Rattle.std.specs.Prelude.{IfOk, IfErr, OnErr, OnOk}
use mathlib.Core.List.{IsPrefix}
use Rattle.an_base.specs.Moment.{IsMoment}
use Rattle.an_code.specs.declared.code.Code.{Code}
use Rattle.an_code.specs.declared.code.Code.TheVariants as code
use Rattle.an_http.specs.declared.reply.Allow.{Allow}
use Rattle.an_http.specs.declared.reply.Reply.{Reply}
use Rattle.an_http.specs.declared.request.Request.{Request}
use Rattle.an_laws.specs.Events.{Event, IsLegal, added_by, state_at, wrote}
use Rattle.an_machine.specs.Legal.{Write}
use Rattle.an_machine.specs.Step.{step}
use Rattle.an_machine.specs.declared.command.Decided.{Decided}
use Rattle.an_machine.specs.declared.command.Refused.{Refused}
use Rattle.an_machine.specs.declared.command.WriteReply.{WriteReply}
use Rattle.an_policy.specs.declared.who.Caller.{Caller}
use Rattle.an_routes.specs.Routes.{route_of}
use Rattle.an_routes.specs.declared.kinds.Read.{Read}
use Rattle.an_routes.specs.declared.kinds.Route.{Route}
use Rattle.an_routes.specs.declared.kinds.Route.TheVariants as route
use Rattle.an_routes.specs.declared.kinds.RouteError.{RouteError}
use Rattle.an_routes.specs.declared.kinds.RouteError.TheVariants as error
use Rattle.an_list.specs.Site.{Site}
use Rattle.an_base.specs.declared.span.Prefer.{Prefer}
use Rattle.an_answers.specs.Answer.{refusal_reply, write_answer}
use Rattle.an_serve.specs.AtDesk.{IsAnswer, IsWritten}
use Rattle.an_serve.specs.Respond.{caller_of, is_read, query_response, read_response, response_of, route_response}
use Rattle.an_serve.proofs.DeskLemmas.{not-kept}
use Rattle.an_serve.specs.Told.{reply_to_write}
use Rattle.an_serve.specs.declared.responding.Response.{Response}
use Rattle.an_serve.specs.declared.responding.Response.TheVariants as response
use Rattle.an_session.specs.Session.{Line, ReadsRequests, Session}
use Rattle.an_session.specs.Trail.{Answers, Comes, Goes, Known, Rests}
use Rattle.an_session.specs.declared.ended.Ended.{Ended}
use Rattle.an_session.proofs.LawLemmas.{session_reads}
use Rattle.an_shelf.specs.Writing.{IsToKeep}
use Rattle.an_shelf.specs.declared.error.WriteError.{WriteError}
use Rattle.an_shelf.specs.declared.error.WriteError.TheVariants as failed
use Rattle.an_state.specs.State.{State}
use Rattle.an_state.specs.declared.command.Command.{Command}
use Rattle.an_published.specs.Lists.{Seated}
use Rattle.an_store.specs.Writing.{Missed, WasRefused, Wrote}
use Rattle.an_published.proofs.Lists.{prefix_self, prefix_trans}
use Rattle.an_seats.specs.Coming.{IsKnownAt, Looked, Rested, SeatComes, SeatLoses}
use Rattle.an_seats.specs.Seats.{Sitting, known_at, store_rules}

-- ---- what is asked to be written is asked at every state

ready-query : (s : State) (caller : Option Caller) (reads : Bool) (methods : Allow) (refusal : Code)
    → (reply : Reply) × (query_response s caller reads methods refusal ≡ response.Ready reply)
ready-query s None reads methods refusal = (_, refl)
ready-query s (Some caller) reads methods refusal = (_, refl)

ready-read : (site : Site) (s : State) (caller : Option Caller) (prefer : Prefer) (read : Read)
    → (reply : Reply) × (read_response site s caller prefer read ≡ response.Ready reply)
ready-read site s None prefer read = (_, refl)
ready-read site s (Some caller) prefer read = (_, refl)

module _ (site : Site) (s t : State) (request : Request) (methods : Allow) (caller : Caller)
    (command : Command) where
  at-once : (its : Response) → (reply : Reply) × (its ≡ response.Ready reply)
      → its ≡ response.Write methods caller command → (other : Response)
      → other ≡ response.Write methods caller command
  at-once its (reply, ready) is other = absurd (cc (ready, is))

  asks-route : (found : Result Route RouteError)
      → route_response site s request found ≡ response.Write methods caller command
      → route_response site t request found ≡ response.Write methods caller command
  asks-route (Ok (route.Options allowed)) is = absurd (cc (is))
  asks-route (Ok (route.Read read)) is =
      at-once _ (ready-read site s (caller_of request.auth) request.prefer read) is _
  asks-route (Ok (route.Write write)) is = is
  asks-route (Err error.Target) is = absurd (cc (is))
  asks-route (Err error.Route) is = absurd (cc (is))
  asks-route (Err (error.Method allowed)) is = absurd (cc (is))
  asks-route (Err (error.Query allowed refusal)) is =
      at-once _
      (ready-query s (caller_of request.auth) (is_read request.method) allowed refusal) is _
  asks-route (Err error.Memory) is = absurd (cc (is))

  asks-everywhere : response_of site s request ≡ response.Write methods caller command
      → response_of site t request ≡ response.Write methods caller command
  unfolding response_of
  asks-everywhere is = asks-route (route_of request.method request.target) is

-- ---- what a seat comes to

module _ (Unsure : Type 0) (clock : ℤ → Bool) (site : Site) where
  -- what is answered at once is answered at what is seen
  pub comes-ready : (reply : Reply) (now : Seated) → IsLegal now.seen
      → SeatComes Unsure clock site (response.Ready reply) now reply now
  comes-ready reply now legal = record {
    at = now.seen;
    writes = [];
    told = None;
    faults = 0;
    found = prefix_self now.seen;
    legal = subst IsLegal (sym (append-nil now.seen)) legal;
    answers = (refl, refl, refl);
    seen =
        subst (λ list. IsPrefix list now.seen) (sym (append-nil now.seen)) (prefix_self now.seen);
    own = sym (append-nil now.own);
  }

  -- what a seat comes to behind a look, it comes to
  then-comes : (response : Response) (reply : Reply) (old mid new : Seated) → Looked old mid
      → SeatComes Unsure clock site response mid reply new
      → SeatComes Unsure clock site response old reply new
  then-comes response reply old mid new looked comes = record {
    at = comes.at;
    writes = comes.writes;
    told = comes.told;
    faults = comes.faults;
    found = prefix_trans old.seen mid.seen comes.at looked.later comes.found;
    legal = comes.legal;
    answers = comes.answers;
    seen = comes.seen;
    own = comes.own ∙ ap (λ own. own ++ wrote comes.told comes.writes) looked.own;
  }

  then-loses : (response : Response) (old mid new : Seated) → Looked old mid
      → SeatLoses Unsure clock site response mid new → SeatLoses Unsure clock site response old new
  then-loses response old mid new looked (inl rests) = inl (record {
    own = rests.own ∙ looked.own;
    later = prefix_trans old.seen mid.seen new.seen looked.later rests.later;
  })
  then-loses response old mid new looked (inr (reply, comes)) =
      inr (reply, then-comes response reply old mid new looked comes)

  -- ---- one answer

  module _ (request : Request) (old new : Seated) where
    -- what a seat comes to is an answer, whatever was known there
    by-comes : (reply : Reply) (from : Known Event) (its : Response) → IsKnownAt old from
        → (comes : SeatComes Unsure clock site its old reply new)
        → response_of site (state_at comes.at) request ≡ its
        → (to : Known Event) × IsKnownAt new to
        × Answers (store_rules Unsure clock site) request reply from to
    by-comes reply from its known comes is =
        let added : List Event = wrote comes.told comes.writes in (
          known_at new (from.faults + comes.faults),
          refl,
          record {
            at = comes.at;
            added = added;
            faults = comes.faults;
            found =
                subst (λ list. IsPrefix list comes.at)
                (sym (ap (λ (k : Known Event). k.list) known)) comes.found;
            is = record {
              writes = comes.writes;
              told = comes.told;
              are = refl;
              legal = comes.legal;
              answers =
                  subst (λ its. IsAnswer Unsure clock site
                  (state_at comes.at) its reply comes.writes comes.faults)
                  (sym is) comes.answers;
            };
            seen = comes.seen;
            own =
                comes.own ∙ ap (λ own. own ++ added) (sym (ap (λ (k : Known Event). k.own) known));
            counted = refl;
          },
        )

    -- nothing came of the request
    rests-on : (from : Known Event) → IsKnownAt old from → Rested old new
        → (to : Known Event) × IsKnownAt new to × Rests (store_rules Unsure clock site) from to
    rests-on from known rests = (
      known_at new from.faults,
      refl,
      (
        subst (λ list. IsPrefix list new.seen)
            (sym (ap (λ (k : Known Event). k.list) known)) rests.later,
        rests.own ∙ sym (ap (λ (k : Known Event). k.own) known),
        refl,
      ),
    )

    by-result : {F : Type 0} (result : Result Reply F) (its : Response) (from : Known Event)
        → ((s : State) → response_of site s request ≡ its) → IsKnownAt old from
        → IfOk result (λ reply. SeatComes Unsure clock site its old reply new)
        → OnErr result (SeatLoses Unsure clock site its old new)
        → (to : Known Event) × IsKnownAt new to
        × Comes (store_rules Unsure clock site) request result from to
    by-result (Ok reply) its from everywhere known comes loses =
        by-comes reply from its known comes (everywhere (state_at comes.at))
    by-result (Err e) its from everywhere known comes (inl rests) =
        let (to, is, same) = rests-on from known rests in (to, is, inl same)
    by-result (Err e) its from everywhere known comes (inr (reply, written)) =
        let (to, is, answers) =
        by-comes reply from its known written (everywhere (state_at written.at)) in
        (to, is, inr (reply, answers))

  -- ---- one answer of what has a seat

  module _ {G : Type 0} (seat_of : G → Seated) (request : Request) (old : G) (mid : Seated)
      (new : G) (looked : Looked (seat_of old) mid) where
    seen-ok : {F : Type 0} (result : Result Reply F) (its : Response)
        → IfOk result (λ reply. SeatComes Unsure clock site its mid reply (seat_of new))
        → IfOk result (λ reply. SeatComes Unsure clock site its (seat_of old) reply (seat_of new))
    seen-ok (Ok reply) its comes = then-comes its reply (seat_of old) mid (seat_of new) looked comes
    seen-ok (Err e) its comes = tt

    seen-err : {F : Type 0} (result : Result Reply F) (its : Response)
        → OnErr result (SeatLoses Unsure clock site its mid (seat_of new))
        → OnErr result (SeatLoses Unsure clock site its (seat_of old) (seat_of new))
    seen-err (Ok reply) its loses = tt
    seen-err (Err e) its loses = then-loses its (seat_of old) mid (seat_of new) looked loses

    -- something is asked to be written, whatever is seen
    pub seat-asks : {F : Type 0} (result : Result Reply F) (methods : Allow) (caller : Caller)
        (command : Command)
        → response.Write methods caller command ≡ response_of site (state_at mid.seen) request
        → IfOk result (λ reply.
        SeatComes Unsure clock site (response.Write methods caller command) mid reply (seat_of new))
        → OnErr result
        (SeatLoses Unsure clock site (response.Write methods caller command) mid (seat_of new))
        → Goes (λ g known. IsKnownAt (seat_of g) known)
        (Comes (store_rules Unsure clock site) request result) old new
    seat-asks result methods caller command asks comes loses = record {
      goes = λ from known.
          by-result request (seat_of old) (seat_of new) result
          (response.Write methods caller command) from
          (λ s.
          asks-everywhere site (state_at mid.seen) s request methods caller command (sym asks))
          known
          (seen-ok result (response.Write methods caller command) comes)
          (seen-err result (response.Write methods caller command) loses);
    }

    -- it is answered by what is seen
    pub seat-replies : (reply : Reply) → seat_of new ≡ mid
        → response.Ready reply ≡ response_of site (state_at mid.seen) request
        → Goes (λ g known. IsKnownAt (seat_of g) known)
        (Answers (store_rules Unsure clock site) request reply) old new
    unfolding then-comes comes-ready
    seat-replies reply same is = record {
      goes = λ from known.
          let comes : SeatComes Unsure clock site (response.Ready reply) (seat_of old) reply mid =
          then-comes (response.Ready reply) reply (seat_of old) mid mid looked
          (comes-ready reply mid looked.legal) in
          subst (λ seat. (to : Known Event) × IsKnownAt seat to
          × Answers (store_rules Unsure clock site) request reply from to)
          (sym same)
          (by-comes request (seat_of old) mid reply from
          (response.Ready reply) known comes (sym is));
    }

    rests : {F : Type 0} (result : Result Reply F) → OnOk result ⊥ → (from to : Known Event)
        → Rests (store_rules Unsure clock site) from to
        → Comes (store_rules Unsure clock site) request result from to
    rests (Ok reply) none from to h = absurd none
    rests (Err error) none from to h = inl h

    -- nothing comes of it
    pub seat-rests : {F : Type 0} (result : Result Reply F) → OnOk result ⊥ → seat_of new ≡ mid
        → Goes (λ g known. IsKnownAt (seat_of g) known)
        (Comes (store_rules Unsure clock site) request result) old new
    seat-rests result none same = record {
      goes = λ from known.
          let (to, is, h) = rests-on request (seat_of old) mid from known
          (record { own = looked.own; later = looked.later }) in
          (to, subst (λ seat. IsKnownAt seat to) (sym same) is, rests result none from to h);
    }

-- ---- a write

module _ (Unsure : Type 0) (clock : ℤ → Bool) (site : Site) (methods : Allow) (moment : ℤ)
    (caller : Caller) (command : Command) (old new : Seated) (tells : IsTrue (clock moment))
    (is_moment : IsMoment moment) where
  -- it was accepted
  comes-accepted : (reply : WriteReply) → Wrote moment caller command old reply new
      → SeatComes Unsure clock site (response.Write methods caller command) old
      (write_answer site methods (Ok reply)) new
  comes-accepted reply w =
      let writes : List Write = added_by moment caller command w.write.entry in
      record {
        at = w.at;
        writes = writes;
        told = w.told;
        faults = 0;
        found = w.found;
        legal = w.legal;
        answers = (
          moment,
          tells,
          is_moment,
          subst (λ decided. IsWritten Unsure site methods moment caller command decided
              (write_answer site methods (Ok reply)) writes 0)
              (sym w.is)
              (inl (ap (λ r. write_answer site methods (Ok r)) w.replies, refl, refl)),
        );
        seen = w.seen;
        own = w.own;
      }

  -- nothing was added
  comes-refused : (Refusal : Result Decided Refused → Type 0) (reply : Reply) (faults : ℕ)
      → (w : WasRefused moment caller command Refusal old new)
      → IsWritten Unsure site methods moment caller command
      (step (state_at w.at) moment caller command) reply [] faults
      → SeatComes Unsure clock site (response.Write methods caller command) old reply new
  comes-refused Refusal reply faults w written = record {
    at = w.at;
    writes = [];
    told = None;
    faults = faults;
    found = w.found;
    legal = subst IsLegal (sym (append-nil w.at)) w.legal;
    answers = (moment, tells, is_moment, written);
    seen = subst (λ list. IsPrefix list new.seen) (sym (append-nil w.at)) w.seen;
    own = w.own ∙ sym (append-nil old.own);
  }

  -- what was written is answered so
  pub comes-written : (written : Result WriteReply WriteError)
      → IfOk written (λ reply. Wrote moment caller command old reply new)
      → IfErr written (λ e. Missed moment caller command old e new)
      → (written ≡ Err failed.Keeper → Unsure) → ¬ (written ≡ Err failed.Memory)
      → SeatComes Unsure clock site (response.Write methods caller command) old
      (reply_to_write site methods written) new
  comes-written (Ok reply) wrote missed keeper memory = comes-accepted reply wrote
  comes-written (Err (failed.Refused why)) wrote missed keeper memory =
      comes-refused (λ decided. decided ≡ Err why) (write_answer site methods (Err why)) 0 missed
      (subst (λ decided. IsWritten Unsure site methods moment caller command decided
      (write_answer site methods (Err why)) [] 0)
      (sym missed.is) (refl, refl, refl))
  comes-written (Err failed.Keeper) wrote missed keeper memory =
      comes-refused IsToKeep (refusal_reply methods code.Keeper) 1 missed
      (not-kept Unsure site methods moment caller command
      (step (state_at missed.at) moment caller command) missed.is (keeper refl))
  comes-written (Err failed.Memory) wrote missed keeper memory = absurd (memory refl)

  -- where the reply is lost, nothing was written, or it was written all the same
  pub comes-lost : (written : Result WriteReply WriteError)
      → IfOk written (λ reply. Wrote moment caller command old reply new)
      → IfErr written (λ e. Missed moment caller command old e new)
      → (written ≡ Err failed.Keeper → Unsure)
      → SeatLoses Unsure clock site (response.Write methods caller command) old new
  comes-lost (Ok reply) wrote missed keeper =
      inr (
        reply_to_write site methods (Ok reply),
        comes-written (Ok reply) wrote missed keeper (λ is. absurd (cc)),
      )
  comes-lost (Err (failed.Refused why)) wrote missed keeper =
      inr (
        reply_to_write site methods (Err (failed.Refused why)),
        comes-written (Err (failed.Refused why)) wrote missed keeper (λ is. absurd (cc)),
      )
  comes-lost (Err failed.Keeper) wrote missed keeper =
      inr (
        reply_to_write site methods (Err failed.Keeper),
        comes-written (Err failed.Keeper) wrote missed keeper (λ is. absurd (cc)),
      )
  comes-lost (Err failed.Memory) wrote missed keeper =
      inl (record { own = missed.1; later = missed.0 })

-- ---- one connection

module _ {G : Type 0} (seat_of : G → Seated) (Unsure : Type 0) (clock : ℤ → Bool) (site : Site)
    (ended : Ended) (before behind : Line) (old new : G) where
  pub seat-sits : Goes (λ g known. IsKnownAt (seat_of g) known)
      (Session (store_rules Unsure clock site) ended before behind) old new
      → Sitting Unsure clock site ended before behind (seat_of old) (seat_of new)
  seat-sits h =
      let (to, known, session) = h.goes (known_at (seat_of old) 0) refl in
      record {
        faults = to.faults;
        session =
            subst (λ to. Session (store_rules Unsure clock site) ended before behind
            (known_at (seat_of old) 0) to) known session;
      }

pub sitting-reads : (Unsure : Type 0) (clock : ℤ → Bool) (site : Site) (ended : Ended)
    (before behind : Line) (from to : Seated)
    → Sitting Unsure clock site ended before behind from to
    → ReadsRequests before.traffic behind.traffic
sitting-reads Unsure clock site ended before behind from to h =
    session_reads (store_rules Unsure clock site) ended before behind (known_at from 0)
    (known_at to h.faults) h.session
