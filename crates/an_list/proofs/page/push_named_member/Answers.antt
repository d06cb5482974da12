use Rattle.an_list.proofs.page.push_named_member.Goals as goal

pub returns-in-Changes : goal.returns-in-Changes
returns-in-Changes c =
    record { text = rw c.in-Changes.is c.push_thing_member-in-Changes.ensures.text }
