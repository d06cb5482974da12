use Rattle.std.proofs.Common.{sym, ap, ◌∙◌}
use Rattle.an_serve.proofs.DeskLemmas.{desk-goes, desk-replies, desk-settles}
use Rattle.an_serve.proofs.SendableLemmas.{response-sendable}
use Rattle.an_shelf.specs.Store.{Store}
use Rattle.an_serve.proofs.at_desk.DeskServiceContext.answer.Goals as goal

pub returns-in-Ready-clause-answered : goal.returns-in-Ready-clause-answered
returns-in-Ready-clause-answered g c =
    let state =
    c.look.ensures.state (ap (λ (d : Store). d.waiting) c.in_ok-settle.ensures.settled) in
    let is = rw (c.settings.ensures, state) at c.in_ok-reply.ensures in
    desk-settles _ _ _ _ c.in_ok-settle.ensures.settled
    (desk-replies _ _ _ c.args.request.now c.settle.new.self c.in-Ready.reply
    (sym c.in-Ready.is ∙ is))

pub returns-in-Write-clause-answered : goal.returns-in-Write-clause-answered
returns-in-Write-clause-answered g c =
    let state =
    c.look.ensures.state (ap (λ (d : Store). d.waiting) c.in_ok-settle.ensures.settled) in
    let is = rw (c.settings.ensures, state) at c.in_ok-reply.ensures in
    desk-settles _ _ _ _ c.in_ok-settle.ensures.settled
    (desk-goes _ _ _ c.args.request.now _ _ c.write.result _ (sym c.in-Write.is ∙ is)
    c.write.ensures.kept.faults c.write.ensures.comes c.write.ensures.memory)

pub write-requires : goal.write-requires
write-requires g c =
    response-sendable _ _ c.args.request.now _ (sym c.in-Write.is ∙ c.in_ok-reply.ensures)
