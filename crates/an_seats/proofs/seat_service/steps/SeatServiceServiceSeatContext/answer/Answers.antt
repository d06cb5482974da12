use Rattle.std.proofs.Common.{rules, refl, sym, ◌∙◌}
use Rattle.an_serve.proofs.SendableLemmas.{response-sendable}
use Rattle.an_seats.proofs.SeatLemmas.{seat-asks, seat-replies, seat-rests}
use Rattle.an_seats.specs.declared.seat_service.SeatService.{SeatService}
use Rattle.an_seats.proofs.seat_service.steps.SeatServiceServiceSeatContext.answer.Goals as goal

pub returns-in_err-reply-clause-answered : goal.returns-in_err-reply-clause-answered
returns-in_err-reply-clause-answered g c =
    seat-rests _ _ _ (λ (guest : SeatService g.row.J.Denot g.J.Naming). guest.seat)
    c.args.request.now _ c.hear.new.seat _ c.hear.ensures.looked c.from_residual.result
    (search rules) refl

pub returns-in-Ready-clause-answered : goal.returns-in-Ready-clause-answered
returns-in-Ready-clause-answered g c =
    let is = rw c.settings.ensures at c.in_ok-reply.ensures.response in
    seat-replies _ _ _ (λ guest. guest.seat) c.args.request.now _ c.hear.new.seat _
    c.hear.ensures.looked c.in-Ready.reply refl (sym c.in-Ready.is ∙ is)

pub returns-in-Write-clause-answered : goal.returns-in-Write-clause-answered
returns-in-Write-clause-answered g c =
    let is = rw c.settings.ensures at c.in_ok-reply.ensures.response in
    seat-asks _ _ _ (λ guest. guest.seat) c.args.request.now _
    c.hear.new.seat _ c.hear.ensures.looked c.write.result _ _ _
    (sym c.in-Write.is ∙ is) c.write.ensures.comes c.write.ensures.loses

pub write-requires-clause-sendable : goal.write-requires-clause-sendable
write-requires-clause-sendable g c =
    response-sendable _ _ c.args.request.now _ (sym c.in-Write.is ∙ c.in_ok-reply.ensures.response)
