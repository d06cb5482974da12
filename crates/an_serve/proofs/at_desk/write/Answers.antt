use Rattle.an_serve.proofs.DeskLemmas.{comes-lost, comes-written, err-or, tells-on, told-or}
use Rattle.an_serve.proofs.at_desk.write.Goals as goal

pub returns-clause-comes : goal.returns-clause-comes
returns-clause-comes g c =
    let written = c.write-written in
    told-or c.reply_to_write.result _ _ _
    (rw c.settings.ensures at c.reply_to_write.ensures.reply) c.reply_to_write.ensures.memory
    (λ memory. comes-written _ _ _ _ _ _ _ _ _ c.moment-moment.ensures.answered
    c.moment-moment.ensures.moment written.ensures.faults_kept written.ensures.told written.result
    written.ensures.written written.ensures.refused written.ensures.leaves
    (λ is. ((λ sure. written.ensures.sure sure is), written.ensures.counted is)) memory)

pub returns-clause-memory : goal.returns-clause-memory
returns-clause-memory g c =
    let written = c.write-written in
    err-or c.reply_to_write.result _
    (comes-lost _ _ _ _ _ _ _ _ _ c.moment-moment.ensures.answered c.moment-moment.ensures.moment
    written.ensures.faults_kept written.ensures.told written.result
    written.ensures.written written.ensures.refused written.ensures.leaves
    (λ is. ((λ sure. written.ensures.sure sure is), written.ensures.counted is))
    written.ensures.memory)

pub returns-clause-kept : goal.returns-clause-kept
returns-clause-kept g c = record {
  told = tells-on _ _ _ c.write-written.ensures.told;
  faults = c.write-written.ensures.faults_kept;
}
