use Rattle.std.proofs.Common.{sym, ap, subst, ◌∙◌}
use mathlib.Core.List.{IsPrefix}
use Rattle.an_published.specs.Lists.{Seated, Stands}
use Rattle.an_store.specs.Stock.{Stock}
use Rattle.an_store.proofs.Writes.{earns-last, wrote-again, wrote-earned}
use Rattle.an_store.proofs.under_lock.UnderLock.write.Goals as goal

pub returns-then-reply-clause-wrote : goal.returns-then-reply-clause-wrote
returns-then-reply-clause-wrote g c =
    let v : Seated = c.args.seat.now in
    let s : Stock = c.align.new.self in
    let same = sym c.align.ensures.same in
    let first : IsPrefix v.seen s.published =
    subst (λ (z : Stock). IsPrefix v.seen z.published) same c.align.ensures.later in
    let at : Stock → Seated = λ z. record v { seen = z.published } in
    wrote-again c.args.moment c.args.caller.now c.args.command v c.align.new.seat
    c.align-in-Ok.new.seat s c.take.new.self c.align.ensures.stocked c.take.ensures.stocked first
    (c.align.ensures.seat ∙ ap at same) c.align-in-Ok.ensures.seat c.in-Ok.reply
    c.in-Ok.ensures.took c.if-reply.true

pub earn-requires : goal.earn-requires
earn-requires g c =
    let v : Seated = c.args.seat.now in
    let s : Stock = c.align.new.self in
    let same = sym c.align.ensures.same in
    let first : IsPrefix v.seen s.published =
    subst (λ (z : Stock). IsPrefix v.seen z.published) same c.align.ensures.later in
    let own : Stands v.own s.published =
    subst (λ (z : Stock). Stands v.own z.published) same c.align.ensures.own in
    let at : Stock → Seated = λ z. record v { seen = z.published } in record {
      last =
          earns-last c.args.moment c.args.caller.now c.args.command v c.align.new.seat
          c.align-in-Ok.new.seat s c.take.new.self c.align.ensures.stocked
          c.take.ensures.stocked first
          (c.align.ensures.seat ∙ ap at same) c.align-in-Ok.ensures.seat c.in-Ok.reply
          c.in-Ok.ensures.took c.if-reply.false own;
    }

pub returns-else-reply-clause-wrote : goal.returns-else-reply-clause-wrote
returns-else-reply-clause-wrote g c =
    let v : Seated = c.args.seat.now in
    let s : Stock = c.align.new.self in
    let same = sym c.align.ensures.same in
    let first : IsPrefix v.seen s.published =
    subst (λ (z : Stock). IsPrefix v.seen z.published) same c.align.ensures.later in
    let at : Stock → Seated = λ z. record v { seen = z.published } in
    wrote-earned c.args.moment c.args.caller.now c.args.command v c.align.new.seat
    c.align-in-Ok.new.seat s c.take.new.self c.align.ensures.stocked c.take.ensures.stocked first
    (c.align.ensures.seat ∙ ap at same) c.align-in-Ok.ensures.seat c.in-Ok.reply
    c.in-Ok.ensures.took c.earn.new.seat c.if-reply.false c.earn.ensures.later c.earn.ensures.own
