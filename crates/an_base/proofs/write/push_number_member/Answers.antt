use Rattle.serde_json.specs.Data.{number, unsigned}
use Rattle.an_base.proofs.WriteLemmas.{member_joined}
use Rattle.an_base.proofs.write.push_number_member.Goals as goal

pub returns : goal.returns
returns c = record {
  text =
      member_joined c.args.name.now (number (unsigned c.args.n)) c.args.out.items _ _
      c.in_ok-out.ensures.text c.in_ok-out-2.ensures.text;
}
