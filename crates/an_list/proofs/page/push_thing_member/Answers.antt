use Rattle.an_base.proofs.WriteLemmas.{member_joined}
use Rattle.an_list.specs.Page.{thing}
use Rattle.an_list.proofs.page.push_thing_member.Goals as goal

pub returns : goal.returns
returns c = record {
  text =
      member_joined c.args.name.now (thing c.args.iri.now c.args.kind.now) c.args.out.items _ _
      c.in_ok-out.ensures.text c.in_ok-out-2.ensures.text;
}
