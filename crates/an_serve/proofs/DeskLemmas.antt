-- How a desk answers a request, and how its events add up to a list.
use Rattle.std.proofs.Common.{◌≡◌, ◌≤◌, ◌<◌, ◌⊎◌, ◌+◌, inl, inr, ℕ, ℤ, List, [], ◌∷◌, ◌++◌, map, Bool, IsTrue, Option, Some, None, Result, Ok, Err, IfOk, IfErr, IfSome, OnErr, IsSome, refl, sym, ap, subst, ◌∙◌, arith}
use Rattle.an_base.specs.Faults.{Rises}
use Rattle.an_base.specs.Moment.{IsMoment}
use Rattle.an_code.specs.declared.code.Code.TheVariants as code
use Rattle.an_http.specs.declared.reply.Allow.{Allow}
use Rattle.an_http.specs.declared.reply.Reply.{Reply}
use Rattle.an_http.specs.declared.request.Request.{Request}
use Rattle.an_keep.specs.Keeper.{Told, Turns}
use Rattle.an_keep.specs.declared.cell.Cell.{Cell}
use Rattle.an_machine.specs.Legal.{Write, state_of}
use Rattle.an_machine.specs.Step.{step}
use Rattle.an_machine.specs.declared.command.Decided.{Decided}
use Rattle.an_machine.specs.declared.command.Refused.{Refused}
use Rattle.an_machine.specs.declared.command.WriteReply.{WriteReply}
use Rattle.an_policy.specs.declared.who.Caller.{Caller}
use Rattle.an_rows.specs.Cells.{cells}
use Rattle.an_list.specs.Site.{Site}
use Rattle.an_session.specs.Session.{Line, ReadsRequests, Session}
use Rattle.an_session.specs.Trail.{Answers, Comes, Goes, Known, Rests}
use Rattle.an_session.specs.declared.ended.Ended.{Ended}
use Rattle.an_session.proofs.LawLemmas.{ran_one, session_reads}
use Rattle.an_shelf.specs.Store.{Stands, Store, settled}
use Rattle.an_shelf.specs.Writing.{IsRefused, IsToKeep, Leaves, RunsOut, Writes}
use Rattle.an_shelf.specs.declared.error.WriteError.{WriteError}
use Rattle.an_shelf.specs.declared.error.WriteError.TheVariants as error
use Rattle.an_state.specs.Entries.{after, state_after}
use Rattle.an_state.specs.State.{State, empty}
use Rattle.an_state.specs.declared.command.Command.{Command}
use Rattle.an_state.specs.declared.entry.Entry.{Entry}
use Rattle.an_answers.specs.Answer.{refusal_reply, write_answer}
use Rattle.an_serve.specs.AtDesk.{Connection, IsAnswer, IsCounted, IsWritten, StandsFor, desk_rules}
use Rattle.an_laws.specs.Events.{AreKept, Event, IsLegal, Keeps, Opened, Wrote, added_by, state_at, state_behind, told_at, told_behind, wrote}
use Rattle.an_serve.specs.Events.{opened}
use Rattle.an_serve.specs.Respond.{response_of}
use Rattle.an_serve.specs.Setting.{DeskComes, DeskRests}
use Rattle.an_serve.specs.Told.{reply_to_write}
use Rattle.an_serve.specs.declared.responding.Response.{Response}
use Rattle.an_serve.specs.declared.responding.Response.TheVariants as response

-- ---- counts

counted-still : (before old new : ℕ) → old ≤ new → IsCounted before old → IsCounted (before + 0) new
counted-still before old new kept counted =
    λ below.
    let few : before ≤ old = counted (omega (arith, kept, below)) in omega (arith, kept, few)

counted-more : (before old new : ℕ) → old ≤ new → Rises old new → IsCounted before old
    → IsCounted (before + 1) new
counted-more before old new kept rises counted = λ below.
    let few : before ≤ old = counted (omega (arith, kept, below)) in
    let more : old < new = rises (omega (arith, kept, below)) in
    omega (arith, few, more)

pub tells-on : (change : List Cell → List Cell) (old new : Told) → Turns change old new → IsSome new
    → IsSome old
tells-on change None None turns some = some
tells-on change None (Some new) turns some = absurd turns
tells-on change (Some old) new turns some = refl

-- ---- what is kept

pub keeps-still : (told : Told) (s : State) → IfSome told (λ found. found ≡ cells s)
    → Keeps told s told
keeps-still None s are = tt
keeps-still (Some found) s are = are

keeps-then : (before mid now : Told) (s t : State) → Keeps before s mid → Keeps mid t now
    → Keeps before t now
keeps-then before mid None s t first next = tt
keeps-then before None (Some now) s t first next = absurd next
keeps-then None (Some mid) (Some now) s t first next = absurd first
keeps-then (Some before) (Some mid) (Some now) s t first next = next

keeps-again : (before now : Told) (s : State) → Keeps before s now → Keeps now s now
keeps-again before None s keeps = tt
keeps-again None (Some now) s keeps = absurd keeps
keeps-again (Some before) (Some now) s keeps = keeps

-- ---- what isn't a write

pub comes-ready : (Unsure : Type 0) (clock : ℤ → Bool) (site : Site) (reply : Reply) (d : Store)
    → Keeps d.told d.state d.told
    → DeskComes Unsure clock site (response.Ready reply) d reply d
comes-ready Unsure clock site reply d keeps = record {
  added = [];
  faults = 0;
  answers = (refl, refl, refl);
  leads = refl;
  keeps = keeps;
  counted = λ before counted. counted-still before d.faults d.faults (omega arith) counted;
}

-- ---- a write

state-added : (s : State) (moment : ℤ) (caller : Caller) (command : Command) (entry : Option Entry)
    → state_after s entry ≡ state_of s (added_by moment caller command entry)
state-added s moment caller command None = refl
state-added s moment caller command (Some entry) = refl

pub not-kept : (Unsure : Type 0) (site : Site) (methods : Allow) (moment : ℤ) (caller : Caller)
    (command : Command) (decided : Result Decided Refused) → IsToKeep decided → Unsure
    → IsWritten Unsure site methods moment caller command decided
    (refusal_reply methods code.Keeper) [] 1
not-kept Unsure site methods moment caller command (Ok decided) entry unsure =
    inr (unsure, entry, refl, refl, refl)
not-kept Unsure site methods moment caller command (Err why) entry unsure = absurd entry

module _ (Unsure : Type 0) (clock : ℤ → Bool) (site : Site) (methods : Allow) (moment : ℤ)
    (caller : Caller) (command : Command) (old new : Store)
    (tells : IsTrue (clock moment)) (is_moment : IsMoment moment) (kept : old.faults ≤ new.faults)
    (keeps : Keeps old.told new.state new.told) where
  comes : (reply : Reply) (added : List Write) (faults : ℕ)
      → IsWritten Unsure site methods moment caller command
      (step old.state moment caller command) reply added faults
      → new.state ≡ state_of old.state added
      → ((before : ℕ) → IsCounted before old.faults → IsCounted (before + faults) new.faults)
      → DeskComes Unsure clock site (response.Write methods caller command) old reply new
  comes reply added faults written leads counted = record {
    added = added;
    faults = faults;
    answers = (moment, tells, is_moment, written);
    leads = leads;
    keeps = keeps;
    counted = counted;
  }

  still_counted : (before : ℕ) → IsCounted before old.faults → IsCounted (before + 0) new.faults
  still_counted before counted = counted-still before old.faults new.faults kept counted

  -- what was written is answered so
  pub comes-written : (written : Result WriteReply WriteError)
      → IfOk written
      (λ reply. Writes (step old.state moment caller command) old.state reply new.state)
      → IfErr written (IsRefused (step old.state moment caller command))
      → IfErr written (λ e. ¬ (e ≡ error.Memory) → Leaves old new)
      → (written ≡ Err error.Keeper → Unsure × Rises old.faults new.faults)
      → ¬ (written ≡ Err error.Memory)
      → DeskComes Unsure clock site (response.Write methods caller command) old
      (reply_to_write site methods written) new
  comes-written (Ok reply) writes refused still keeper memory =
      comes (write_answer site methods (Ok reply))
      (added_by moment caller command writes.write.entry) 0
      (subst (λ decided. IsWritten Unsure site methods moment caller command decided
      (write_answer site methods (Ok reply)) (added_by moment caller command writes.write.entry) 0)
      (sym writes.is) (inl (ap (λ r. write_answer site methods (Ok r)) writes.replies, refl, refl)))
      (writes.leads ∙ state-added old.state moment caller command writes.write.entry) still_counted
  comes-written (Err (error.Refused why)) writes refused still keeper memory =
      comes (write_answer site methods (Err why)) [] 0
      (subst (λ decided. IsWritten Unsure site methods moment caller command decided
      (write_answer site methods (Err why)) [] 0)
      (sym refused) (refl, refl, refl))
      (still (λ is. cc)).same_state still_counted
  comes-written (Err error.Keeper) writes refused still keeper memory =
      let (unsure, rises) = keeper refl in
      comes (refusal_reply methods code.Keeper) [] 1
      (not-kept Unsure site methods moment caller command
      (step old.state moment caller command) refused unsure)
      (still (λ is. cc)).same_state
      (λ before counted. counted-more before old.faults new.faults kept rises counted)
  comes-written (Err error.Memory) writes refused still keeper memory = absurd (memory refl)

  -- what waits to be shown was written
  comes-waits : RunsOut (step old.state moment caller command) old new
      → DeskRests old new
      ⊎ ((reply : Reply)
      × DeskComes Unsure clock site (response.Write methods caller command) old reply new)
  comes-waits (inl h) = inl (record { state = h.0.same_state; keeps = keeps })
  comes-waits (inr waits) = inr (
    reply_to_write site methods (Ok waits.write.reply),
    comes-written (Ok waits.write.reply)
        (record {
          write = waits.write;
          is = waits.is;
          replies = refl;
          leads = waits.leads ∙ ap (state_after old.state) (sym waits.has);
        })
        tt tt (λ is. absurd (cc)) (λ is. absurd (cc)),
  )

  -- where the reply is lost, nothing was written, or it was written all the same
  pub comes-lost : (written : Result WriteReply WriteError)
      → IfOk written
      (λ reply. Writes (step old.state moment caller command) old.state reply new.state)
      → IfErr written (IsRefused (step old.state moment caller command))
      → IfErr written (λ e. ¬ (e ≡ error.Memory) → Leaves old new)
      → (written ≡ Err error.Keeper → Unsure × Rises old.faults new.faults)
      → (written ≡ Err error.Memory → RunsOut (step old.state moment caller command) old new)
      → DeskRests old new
      ⊎ ((reply : Reply)
      × DeskComes Unsure clock site (response.Write methods caller command) old reply new)
  comes-lost (Ok reply) writes refused still keeper lost =
      inr (
        reply_to_write site methods (Ok reply),
        comes-written (Ok reply) writes refused still keeper (λ is. absurd (cc)),
      )
  comes-lost (Err (error.Refused why)) writes refused still keeper lost =
      inr (
        reply_to_write site methods (Err (error.Refused why)),
        comes-written (Err (error.Refused why)) writes refused still keeper (λ is. absurd (cc)),
      )
  comes-lost (Err error.Keeper) writes refused still keeper lost =
      inr (
        reply_to_write site methods (Err error.Keeper),
        comes-written (Err error.Keeper) writes refused still keeper (λ is. absurd (cc)),
      )
  comes-lost (Err error.Memory) writes refused still keeper lost = comes-waits (lost refl)

-- ---- events

behind-on : (s : State) (first second : List Event)
    → state_behind s (first ++ second) ≡ state_behind (state_behind s first) second
behind-on s [] second = refl
behind-on s (Opened found told ∷ first) second = behind-on found first second
behind-on s (Wrote write told ∷ first) second = behind-on (after s write.entry) first second

behind-writes : (s : State) (told : Told) (writes : List Write)
    → state_behind s (wrote told writes) ≡ state_of s writes
behind-writes s told [] = refl
behind-writes s told (write ∷ writes) = behind-writes (after s write.entry) told writes

state-on : (events : List Event) (told : Told) (writes : List Write)
    → state_at (events ++ wrote told writes) ≡ state_of (state_at events) writes
state-on events told writes =
    behind-on empty events (wrote told writes) ∙ behind-writes (state_at events) told writes

told-on : (before : Told) (first second : List Event)
    → told_behind before (first ++ second) ≡ told_behind (told_behind before first) second
told-on before [] second = refl
told-on before (Opened s told ∷ first) second = told-on told first second
told-on before (Wrote write told ∷ first) second = told-on told first second

keeps-on : (before told : Told) (s : State) (writes : List Write) → Keeps before s told
    → Keeps (told_behind before (wrote told writes)) s told
keeps-on before told s [] keeps = keeps
keeps-on before told s (write ∷ writes) keeps =
    keeps-on told told s writes (keeps-again before told s keeps)

kept-on : (before : Told) (s : State) (first second : List Event) → AreKept before s first
    → AreKept (told_behind before first) (state_behind s first) second
    → AreKept before s (first ++ second)
kept-on before s [] second kept more = more
kept-on before s (Opened found told ∷ first) second kept more = absurd kept
kept-on before s (Wrote write told ∷ first) second (accepts, keeps, kept) more =
    (accepts, keeps, kept-on told (after s write.entry) first second kept more)

legal-on : (events added : List Event) → IsLegal events
    → AreKept (told_at events) (state_at events) added → IsLegal (events ++ added)
legal-on [] added legal more = absurd legal
legal-on (Opened s told ∷ events) added (valid, sound, are, kept) more =
    (valid, sound, are, kept-on told s events added kept more)
legal-on (Wrote write told ∷ events) added legal more = absurd legal

-- ---- what was accepted

module _ (before told : Told) (s : State) where
  kept-entry : (moment : ℤ) (caller : Caller) (command : Command) (decided : Decided)
      (entry : Option Entry) → step s moment caller command ≡ Ok decided → decided.entry ≡ entry
      → Keeps before (state_of s (added_by moment caller command entry)) told
      → AreKept before s (wrote told (added_by moment caller command entry))
  kept-entry moment caller command decided None is at keeps = tt
  kept-entry moment caller command decided (Some entry) is at keeps = ((decided, is, at), keeps, tt)

  kept-none : (added : List Write) → added ≡ [] → AreKept before s (wrote told added)
  kept-none added none = subst (λ added. AreKept before s (wrote told added)) (sym none) tt

  kept-written : (Unsure : Type 0) (site : Site) (methods : Allow) (moment : ℤ)
      (caller : Caller) (command : Command) (reply : Reply) (added : List Write) (faults : ℕ)
      (decided : Result Decided Refused)
      → step s moment caller command ≡ decided
      → IsWritten Unsure site methods moment caller command decided reply added faults
      → Keeps before (state_of s added) told → AreKept before s (wrote told added)
  kept-written Unsure site methods moment caller command reply added faults (Err why) is
      (replies, none, met) keeps = kept-none added none
  kept-written Unsure site methods moment caller command reply added faults (Ok decided) is
      (inl (replies, adds, met)) keeps =
      subst (λ added. AreKept before s (wrote told added)) (sym adds)
      (kept-entry moment caller command decided decided.entry is refl
      (subst (λ added. Keeps before (state_of s added) told) adds keeps))
  kept-written Unsure site methods moment caller command reply added faults (Ok decided) is
      (inr (unsure, entry, replies, none, met)) keeps = kept-none added none

  kept-added : (Unsure : Type 0) (clock : ℤ → Bool) (site : Site) (response : Response)
      (reply : Reply) (added : List Write) (faults : ℕ)
      → IsAnswer Unsure clock site s response reply added faults
      → Keeps before (state_of s added) told → AreKept before s (wrote told added)
  kept-added Unsure clock site (response.Ready meant) reply added faults
      (replies, none, met) keeps = kept-none added none
  kept-added Unsure clock site (response.Write methods caller command) reply added faults
      (moment, tells, is_moment, written) keeps =
      kept-written Unsure site methods moment caller command reply added faults
      (step s moment caller command) refl written keeps

-- ---- one answer

module _ (Unsure : Type 0) (clock : ℤ → Bool) (site : Site) (request : Request)
    (old new : Store) where
  -- an answer is one at the list behind which the desk stands
  stands-on : (reply : Reply) (known : Known Event) → StandsFor old known
      → DeskComes Unsure clock site (response_of site old.state request) old reply new
      → (to : Known Event) × StandsFor new to
      × Answers (desk_rules Unsure clock site) request reply known to
  stands-on reply known stands comes =
      let answers : IsAnswer Unsure clock site (state_at known.list)
      (response_of site (state_at known.list) request) reply comes.added comes.faults =
      subst (λ s.
      IsAnswer Unsure clock site s (response_of site s request) reply comes.added comes.faults)
      stands.state comes.answers in
      let added : List Event = wrote new.told comes.added in
      let leads : new.state ≡ state_of (state_at known.list) comes.added =
      comes.leads ∙ ap (λ s. state_of s comes.added) stands.state in
      let keeps : Keeps (told_at known.list) new.state new.told =
      keeps-then (told_at known.list) old.told new.told old.state new.state stands.keeps
      comes.keeps in
      let legal : IsLegal (known.list ++ added) =
      legal-on known.list added stands.legal
      (kept-added (told_at known.list) new.told (state_at known.list) Unsure clock site
      (response_of site (state_at known.list) request) reply comes.added comes.faults answers
      (subst (λ s. Keeps (told_at known.list) s new.told) leads keeps)) in (
        record {
          list = known.list ++ added;
          own = known.own ++ added;
          faults = known.faults + comes.faults;
        },
        record {
          legal = legal;
          state = leads ∙ sym (state-on known.list new.told comes.added);
          keeps =
              subst (λ told. Keeps told new.state new.told) (sym (told-on None known.list added))
              (keeps-on (told_at known.list) new.told new.state comes.added keeps);
          counted = comes.counted known.faults stands.counted;
        },
        record {
          at = known.list;
          added = added;
          faults = comes.faults;
          found = refl;
          is = record {
            writes = comes.added;
            told = new.told;
            are = refl;
            legal = legal;
            answers = answers;
          };
          seen = refl;
          own = refl;
          counted = refl;
        },
      )

  -- nothing came of the request
  stands-still : (known : Known Event) → StandsFor old known → DeskRests old new
      → old.faults ≤ new.faults
      → (to : Known Event) × StandsFor new to × Rests (desk_rules Unsure clock site) known to
  stands-still known stands rests kept = (
    known,
    record {
      legal = stands.legal;
      state = rests.state ∙ stands.state;
      keeps =
          keeps-then (told_at known.list) old.told new.told old.state new.state stands.keeps
          rests.keeps;
      counted =
          λ below.
          let few : known.faults ≤ old.faults = stands.counted (omega (arith, kept, below)) in
          omega (arith, kept, few);
    },
    (refl, refl, refl),
  )

  desk-by : {F : Type 0} (result : Result Reply F) (known : Known Event) → StandsFor old known
      → old.faults ≤ new.faults
      → IfOk result
      (λ reply. DeskComes Unsure clock site (response_of site old.state request) old reply new)
      → OnErr result (DeskRests old new
      ⊎ ((reply : Reply)
      × DeskComes Unsure clock site (response_of site old.state request) old reply new))
      → (to : Known Event) × StandsFor new to
      × Comes (desk_rules Unsure clock site) request result known to
  desk-by (Ok reply) known stands kept comes lost = stands-on reply known stands comes
  desk-by (Err e) known stands kept comes (inl rests) =
      let (to, stands', same) = stands-still known stands rests kept in (to, stands', inl same)
  desk-by (Err e) known stands kept comes (inr (reply, written)) =
      let (to, stands', answers) = stands-on reply known stands written in
      (to, stands', inr (reply, answers))

  -- what a desk comes to is an answer, whatever list it stands for
  pub desk-goes : {F : Type 0} (result : Result Reply F) (response : Response)
      → response ≡ response_of site old.state request → old.faults ≤ new.faults
      → IfOk result (λ reply. DeskComes Unsure clock site response old reply new)
      → OnErr result
      (DeskRests old new ⊎ ((reply : Reply) × DeskComes Unsure clock site response old reply new))
      → Goes StandsFor (Comes (desk_rules Unsure clock site) request result) old new
  desk-goes result response is kept comes lost = record {
    goes = λ known stands. desk-by result known stands kept
        (subst
        (λ response. IfOk result (λ reply. DeskComes Unsure clock site response old reply new)) is
        comes)
        (subst (λ response. OnErr result
        (DeskRests old new
        ⊎ ((reply : Reply) × DeskComes Unsure clock site response old reply new))) is lost);
  }

-- what is answered at once leaves the desk as it is
pub desk-replies : (Unsure : Type 0) (clock : ℤ → Bool) (site : Site) (request : Request)
    (now : Store) (reply : Reply) → response.Ready reply ≡ response_of site now.state request
    → Goes StandsFor (Answers (desk_rules Unsure clock site) request reply) now now
desk-replies Unsure clock site request now reply is = record {
  goes = λ known stands. stands-on Unsure clock site request now now reply known stands
      (subst (λ response. DeskComes Unsure clock site response now reply now) is
      (comes-ready Unsure clock site reply now
      (keeps-again (told_at known.list) now.told now.state stands.keeps)));
}

-- what a desk comes to behind the entry that waited, it comes to
pub desk-settles : (old mid new : Store) (P : Known Event → Known Event → Type 0)
    → mid ≡ settled old → Goes StandsFor P mid new → Goes StandsFor P old new
desk-settles old mid new P is h = record {
  goes =
      λ known stands. h.goes known
      (subst (λ d. StandsFor d known) (sym is) (record {
        legal = stands.legal;
        state = stands.state;
        keeps = stands.keeps;
        counted = stands.counted;
      }));
}

-- ---- one connection

pub desk-connection : (Unsure : Type 0) (clock : ℤ → Bool) (site : Site) (ended : Ended)
    (before behind : Line) (old new : Store)
    → Goes StandsFor (Session (desk_rules Unsure clock site) ended before behind) old new
    → Goes StandsFor (Connection Unsure clock site ended before behind) old new
desk-connection Unsure clock site ended before behind old new h = record {
  goes = λ from stands.
      let (to, stands', session) = h.goes from stands in (
        to,
        stands',
        record {
          session = session;
          one =
              ran_one (desk_rules Unsure clock site)
              (session.trail ++ session.lost) from to refl session.ran;
        },
      );
}

-- a desk stands for its state, with which it was opened
pub stands-opened : (desk : Store) → Stands desk.told desk.state
    → StandsFor desk (opened desk.state desk.told)
stands-opened desk its = record {
  legal = (its.valid, its.sound, its.cells_are, tt);
  state = refl;
  keeps = keeps-still desk.told desk.state its.cells_are;
  counted = λ below. omega arith;
}

pub desk-reads : (Unsure : Type 0) (clock : ℤ → Bool) (site : Site) (ended : Ended)
    (before behind : Line) (old new : Store) → Stands old.told old.state
    → Goes StandsFor (Session (desk_rules Unsure clock site) ended before behind) old new
    → ReadsRequests before.traffic behind.traffic
desk-reads Unsure clock site ended before behind old new its h =
    let (to, stands, session) = h.goes (opened old.state old.told) (stands-opened old its) in
    session_reads (desk_rules Unsure clock site) ended before behind
    (opened old.state old.told) to session

-- ---- what is told of a write

pub told-or : {E : Type 0} (result : Result Reply E) (P : Reply → Type 0) (reply : Reply)
    (Sure : Type 0) → IfOk result (λ r. r ≡ reply) → IfOk result (λ _. Sure) → (Sure → P reply)
    → IfOk result P
told-or (Ok r) P reply Sure is sure holds = subst P (sym is) (holds sure)
told-or (Err e) P reply Sure is sure holds = tt

pub err-or : {A E : Type 0} (result : Result A E) (P : Type 0) → P → OnErr result P
err-or (Ok x) P p = tt
err-or (Err e) P p = p
