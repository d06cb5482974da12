-- What a seat learns by a write.
use Rattle.std.proofs.Common.{◌≡◌, ℤ, true, false, List, [], ◌∷◌, ◌++◌, Option, Some, None, Result, Ok, sym, ap, subst, ◌∙◌, inl, inr}
use Rattle.std.proofs.lemmas.Bool.{false≢true}
use Rattle.std.proofs.lemmas.List.{append-nil}
use mathlib.Core.List.{IsPrefix}
use Rattle.an_keep.specs.Keeper.{Told}
use Rattle.an_machine.specs.Accepted.{decided}
use Rattle.an_machine.specs.Step.{step}
use Rattle.an_machine.specs.declared.command.Decided.{Decided}
use Rattle.an_machine.specs.declared.command.Refused.{Refused}
use Rattle.an_machine.specs.declared.command.WriteReply.{WriteReply}
use Rattle.an_machine.specs.declared.effect.Effect.{Effect}
use Rattle.an_policy.specs.Audience.{Identity}
use Rattle.an_policy.specs.declared.who.Caller.{Caller}
use Rattle.an_state.specs.State.{State}
use Rattle.an_state.specs.declared.command.Command.{Command}
use Rattle.an_state.specs.declared.entry.Entry.{Entry}
use Rattle.an_shelf.specs.Store as shelf
use Rattle.an_shelf.proofs.ClosingLemmas.{stand-for}
use Rattle.an_shelf.proofs.WritingLemmas.{decided-by, repeat-none}
use Rattle.an_laws.specs.Events.{Event, IsLegal, Keeps, added_by, state_at, told_at, wrote}
use Rattle.an_laws.specs.Events as event
use Rattle.an_published.specs.Lists.{Seated, Stands, last_of}
use Rattle.an_store.specs.Opening.{Closes}
use Rattle.an_store.specs.Stock.{Stock, Stocked, LacksOne, Settled, Took}
use Rattle.an_store.specs.Writing.{Wrote, WasRefused}
use Rattle.an_published.proofs.Lists.{prefix_more, prefix_self, prefix_trans, stands_longer, last_of-push}

-- ---- whether a write adds something

decided-adds : (who : Identity) (at : ℤ) (command : Command) (effect : Option Effect) (d : Decided)
    → decided who at command effect ≡ d → d.reply.repeat ≡ false → (e : Entry) × (d.entry ≡ Some e)
decided-adds who at command None d is first =
    absurd (false≢true (sym first ∙ ap (λ d. d.reply.repeat) (sym is)))
decided-adds who at command (Some effect) d is first = (_, ap (λ d. d.entry) (sym is))

-- one that is no repeat does
pub repeat-some : (s : State) (moment : ℤ) (caller : Caller) (command : Command) (d : Decided)
    → step s moment caller command ≡ Ok d → d.reply.repeat ≡ false
    → (e : Entry) × (d.entry ≡ Some e)
repeat-some s moment caller command d is first =
    let (who, at, effect, by) = decided-by s moment caller command d is in
    decided-adds who at command effect d by first

-- ---- what a seat learns

-- what is published is a beginning of what was accepted
pub published-before : (s : Stock) → Stocked s → IsPrefix s.published s.accepted
published-before s k = by_lack k.lacks
  where
    by_lack : LacksOne s.published s.accepted → IsPrefix s.published s.accepted
    by_lack (inl is) =
        subst (λ (l : List Event). IsPrefix s.published l) (sym is) (prefix_self s.published)
    by_lack (inr one) =
        subst (λ (l : List Event). IsPrefix s.published l) (sym one.2) (prefix_more s.published _)

module _ (moment : ℤ) (caller : Caller) (command : Command) (v w : Seated) (s t : Stock)
    (k : Stocked s) (first : IsPrefix v.seen s.published) (last : IsPrefix t.published w.seen) where
  found : IsPrefix v.seen s.accepted
  found = prefix_trans v.seen s.published s.accepted first (published-before s k)

  -- of a write that was done
  pub took-wrote : (reply : WriteReply) (took : Took moment caller command s reply t) → Stocked t
      → w.own ≡ v.own ++ wrote t.told (added_by moment caller command took.write.entry)
      → Wrote moment caller command v reply w
  took-wrote reply took after own = record {
    at = s.accepted;
    found = found;
    write = took.write;
    is = ap (λ (u : State). step u moment caller command) (sym k.state) ∙ took.is;
    replies = took.replies;
    told = t.told;
    legal = subst IsLegal (took.accepted ∙ took.published) after.legal;
    seen = subst (λ (l : List Event). IsPrefix l w.seen) took.published last;
    own = own;
  }

  -- of one that was not
  pub was-refused : (Refusal : Result Decided Refused → Type 0)
      → Refusal (step s.state moment caller command) → Settled s t → w.own ≡ v.own
      → WasRefused moment caller command Refusal v w
  was-refused Refusal is settled own = record {
    at = s.accepted;
    found = found;
    legal = k.legal;
    is = subst (λ (u : State). Refusal (step u moment caller command)) k.state is;
    seen = subst (λ (l : List Event). IsPrefix l w.seen) settled.published last;
    own = own;
  }

-- ---- of a write that was done

module _ (moment : ℤ) (caller : Caller) (command : Command) (v v1 v2 : Seated) (s t : Stock)
    (k : Stocked s) (after : Stocked t) (first : IsPrefix v.seen s.published)
    (one : v1 ≡ record v { seen = s.published }) (two : v2 ≡ record v1 { seen = t.published })
    (reply : WriteReply) (took : Took moment caller command s reply t) where
  its-own : v2.own ≡ v.own
  its-own = ap (λ (u : Seated). u.own) two ∙ ap (λ (u : Seated). u.own) one

  its-list : v2.seen ≡ t.published
  its-list = ap (λ (u : Seated). u.seen) two

  abbrev adds : Option Entry → List Event
  adds found = wrote t.told (added_by moment caller command found)

  -- it had been done already
  pub wrote-again : reply.repeat ≡ true → Wrote moment caller command v reply v2
  wrote-again again =
      let none : took.write.entry ≡ None =
      repeat-none s.state moment caller command took.write took.is
      (ap (λ (r : WriteReply). r.repeat) (sym took.replies) ∙ again) in
      took-wrote moment caller command v v2 s t k first
      (subst (λ (l : List Event). IsPrefix t.published l) (sym its-list) (prefix_self t.published))
      reply took after
      (its-own ∙ (sym (append-nil v.own) ∙ ap (λ (e : Option Entry). v.own ++ adds e) (sym none)))

  some : reply.repeat ≡ false → (e : Entry) × (took.write.entry ≡ Some e)
  some new =
      repeat-some s.state moment caller command took.write took.is
      (ap (λ (r : WriteReply). r.repeat) (sym took.replies) ∙ new)

  abbrev event_of : Entry → Event
  event_of its =
      event.Wrote
      (record { moment = moment; caller = caller; command = command; entry = its }) t.told

  its-last : (new : reply.repeat ≡ false) → v2.seen ≡ s.accepted ++ event_of (some new).0 ∷ []
  its-last new =
      its-list ∙ (took.published ∙ ap (λ (e : Option Entry). s.accepted ++ adds e) (some new).1)

  pub earns-last : reply.repeat ≡ false → Stands v.own s.published
      → (before : List Event) × (event : Event) × (v2.seen ≡ before ++ event ∷ [])
      × Stands v2.own before
  earns-last new own = (
    s.accepted,
    event_of (some new).0,
    its-last new,
    subst (λ (l : List Event). Stands l s.accepted) (sym its-own)
        (stands_longer v.own s.published s.accepted own (published-before s k)),
  )

  -- its event was earned
  pub wrote-earned : (w : Seated) → reply.repeat ≡ false → IsPrefix v2.seen w.seen
      → w.own ≡ v2.own ++ last_of v2.seen → Wrote moment caller command v reply w
  wrote-earned w new later own =
      let last : last_of v2.seen ≡ event_of (some new).0 ∷ [] =
      ap last_of (its-last new) ∙ last_of-push s.accepted (event_of (some new).0) in
      took-wrote moment caller command v w s t k first
      (subst (λ (l : List Event). IsPrefix l w.seen) its-list later) reply took after
      (own
      ∙ (ap (λ (l : List Event). v2.own ++ l) last
      ∙ (ap (λ (l : List Event). l ++ event_of (some new).0 ∷ []) its-own
      ∙ ap (λ (e : Option Entry). v.own ++ adds e) (sym (some new).1))))

-- ---- a store that is closed

pub closes : (seen : List Event) (s : Stock) (told : Told) → Stocked s → IsPrefix seen s.published
    → told ≡ s.told → Closes seen told
closes seen s told k later is =
    let stands : shelf.Stands told (state_at s.accepted) =
    subst (λ (p : Told × State). shelf.Stands p.0 p.1) (λ i. (sym is i, k.state i)) k.stands in
    record {
      list = s.accepted;
      later = prefix_trans seen s.published s.accepted later (published-before s k);
      legal = k.legal;
      keeps =
          subst (λ (p : Told × State). Keeps (told_at s.accepted) p.1 p.0)
          (λ i. (sym is i, k.state i)) k.keeps;
      cells = stands.cells_are;
      stand = stand-for told (state_at s.accepted) stands;
    }
