use Rattle.std.proofs.Common.{ap, Err}
use Rattle.an_harvest.proofs.ReplyLemmas.{sent_whole, sent_front}
use Rattle.an_harvest.proofs.reply.get_reply.Goals as goal

pub returns-in-Ok-clause-reply : goal.returns-in-Ok-clause-reply
returns-in-Ok-clause-reply g c =
    sent_whole _ _ _ _ _ _ c.read_held.result c.in-Ok.ensures.whole c.read_held.ensures.read

pub returns-in-Err-clause-reply : goal.returns-in-Err-clause-reply
returns-in-Err-clause-reply g c =
    sent_front _ _ _ c.args.held.now c.in-Err.error c.in-Err.ensures.front
    (λ same. c.in-Err.ensures.no_reply (ap (λ e. Err e) same))
