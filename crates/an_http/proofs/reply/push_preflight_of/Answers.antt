use Rattle.an_http.proofs.ReplyLemmas.{pushed_four}
use Rattle.an_http.proofs.reply.push_preflight_of.Goals as goal

pub returns : goal.returns
returns c = record {
  lines =
      pushed_four _ _ _ _ _ _ _ _ _ c.in_ok-out.ensures c.in_ok-out-2.ensures c.in_ok-out-3.ensures
      c.in_ok-out-4.ensures;
}
