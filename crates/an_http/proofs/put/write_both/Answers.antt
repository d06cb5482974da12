use Rattle.an_http.proofs.ReplyLemmas.{WritesFront-first, WritesFront-next}
use Rattle.an_http.proofs.put.write_both.Goals as goal

pub returns-in_err-write_all-clause-front : goal.returns-in_err-write_all-clause-front
returns-in_err-write_all-clause-front g c =
    WritesFront-first c.args.first.now c.args.next.now _ _ c.write_all.ensures.front

pub returns-clause-front : goal.returns-clause-front
returns-clause-front g c =
    WritesFront-next c.args.first.now c.args.next.now _ _ _ c.in_ok-write_all.ensures.whole
    c.write_all-2.ensures.front
