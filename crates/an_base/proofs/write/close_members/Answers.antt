use Rattle.an_base.proofs.WriteLemmas.{members_closed}
use Rattle.an_base.proofs.write.close_members.Goals as goal

pub returns : goal.returns
returns c = record {
  text =
      λ before members.
      members_closed c.args.out.items before _ c.args.start members c.in_ok-out.ensures.text;
  grows = c.in_ok-out.ensures.grows;
}
