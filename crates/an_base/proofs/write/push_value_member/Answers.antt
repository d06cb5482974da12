use Rattle.serde_json.specs.View.{view}
use Rattle.an_base.proofs.WriteLemmas.{member_joined}
use Rattle.an_base.proofs.write.push_value_member.Goals as goal

pub returns : goal.returns
returns c = record {
  text =
      member_joined c.args.name.now (view c.args.value.now) c.args.out.items _ _
      c.in_ok-out.ensures.text c.in_ok-out-2.ensures.text;
}
