use Rattle.serde_json.proofs.Views.{members_len-members_view}
use Rattle.an_base.proofs.member.member_count.Goals as goal

pub returns-in-Some : goal.returns-in-Some
returns-in-Some c =
    record { count = rw (← c.in-Some.ensures, members_len-members_view) c.len.ensures.len }
