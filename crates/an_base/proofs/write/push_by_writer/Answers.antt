use Rattle.std.proofs.Common.{◌∙◌}
use Rattle.json.specs.Token.{string}
use Rattle.an_base.proofs.WriteLemmas.{one_token}
use Rattle.an_base.proofs.write.push_by_writer.Goals as goal

pub returns : goal.returns
returns c = record {
  text =
      one_token (string c.args.text.now) c.args.out.items _ _ _ _ c.into_inner.ensures.items
      c.in_ok-string.ensures.ok c.new-writer.ensures.tokens
      (c.in_ok-string.ensures.room.0 ∙ c.new-writer.ensures.before);
}
