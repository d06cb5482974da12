use Rattle.std.proofs.Common.{ap, ◌++◌, ◌∙◌}
use Rattle.an_http.proofs.ReplyLemmas.{pushed_four}
use Rattle.an_http.proofs.reply.push_first_lines.Goals as goal

pub returns : goal.returns
returns c = record {
  lines =
      pushed_four _ _ _ _ _ _ _ _ _ c.in_ok-out.ensures.line c.in_ok-out-2.ensures.lines
      c.in_ok-out-3.ensures
      (c.in_ok-out-4.ensures ∙ ap (λ line. c.in_ok-out-3.out.items ++ line) c.allow_line.ensures);
}
