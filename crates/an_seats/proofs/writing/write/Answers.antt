use Rattle.an_serve.proofs.DeskLemmas.{err-or, told-or}
use Rattle.an_seats.proofs.SeatLemmas.{comes-lost, comes-written}
use Rattle.an_seats.proofs.writing.write.Goals as goal

pub returns-clause-comes : goal.returns-clause-comes
returns-clause-comes g c =
    let written = c.write-written in
    told-or c.reply_to_write.result _ _ _
    (rw c.settings.ensures at c.reply_to_write.ensures.reply) c.reply_to_write.ensures.memory
    (λ memory.
    comes-written _ _ _ _ _ _ _ _ _ c.moment-moment.ensures.answered c.moment-moment.ensures.moment
    written.result written.ensures.wrote written.ensures.missed
    (λ is. λ sure. written.ensures.sure sure is) memory)

pub returns-clause-loses : goal.returns-clause-loses
returns-clause-loses g c =
    let written = c.write-written in
    err-or c.reply_to_write.result _
    (comes-lost _ _ _ _ _ _ _ _ _ c.moment-moment.ensures.answered c.moment-moment.ensures.moment
    written.result written.ensures.wrote written.ensures.missed
    (λ is. λ sure. written.ensures.sure sure is))
