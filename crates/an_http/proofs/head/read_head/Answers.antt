use Rattle.an_http.proofs.NameLemmas.{request_texts}
use Rattle.an_http.proofs.head.read_head.Goals as goal

pub invariant_of-result : goal.invariant_of-result
invariant_of-result c =
    let within = rw c.in-Ok-Complete.field-0-is at c.in-Ok-Complete.ensures.within in
    let complete = rw c.in-Ok-Complete.field-0-is at c.in-Ok-Complete.ensures.complete in
    let texts = request_texts _ _ _ complete in
    (within, c.if-found-text.true, texts.0, texts.1)
