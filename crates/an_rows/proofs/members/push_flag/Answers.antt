use Rattle.std.proofs.Common.{codes}
use Rattle.serde_json.specs.Data.{boolean}
use Rattle.an_base.proofs.WriteLemmas.{member_joined}
use Rattle.an_rows.proofs.members.push_flag.Goals as goal

pub returns : goal.returns
returns c = record {
  text =
      member_joined (codes "live") (boolean c.args.live) c.args.out.items _ _
      c.in_ok-out.ensures.text c.in_ok-out-2.ensures.text;
}
