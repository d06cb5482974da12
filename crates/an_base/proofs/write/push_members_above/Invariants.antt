use Rattle.std.proofs.Common.{◌≡◌, ◌++◌, false}
use Rattle.serde_json.specs.View.{members_view}
use Rattle.serde_json.specs.Written.{members_have_float}
use Rattle.an_base.specs.Cut.{above}
use Rattle.an_base.specs.Write.{commas}
use Rattle.an_base.proofs.write.push_members_above.Given as goal

-- what was written, and what the members that are left are to add
abbrev pub invariant-loop-name : goal.invariant-loop-name
invariant-loop-name l = record {
  no_float : members_have_float (members_view l.name-iterator) ≡ false;
  text : l.out.items ++ commas (above l.low (members_view l.name-iterator))
      ≡ l.initial.out.items ++ commas (above l.low (members_view l.members.entries));
}
