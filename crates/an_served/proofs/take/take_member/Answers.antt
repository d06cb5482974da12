use Rattle.std.proofs.Common.{◌≡◌, option_map, ap, ◌∙◌}
use Rattle.serde_json.specs.Data.{object}
use Rattle.serde_json.specs.View.{view, members_view}
use Rattle.serde_json.proofs.Views.{view-Object, view-lookup}
use Rattle.an_base.proofs.ObjectLemmas.{members_view-remove_entry}
use Rattle.an_base.proofs.TreeLemmas.{ascend-names}
use Rattle.an_manifest.proofs.TakeLemmas.{put-without}
use Rattle.an_served.proofs.take.take_member.Goals as goal

tree_of : (c : goal.After-remove-taken)
    → view c.args.tree ≡ object (members_view c.in-Object.members.entries)
tree_of c = ap view c.in-Object.is ∙ view-Object c.in-Object.members

pub returns-in-Object-clause-taken : goal.returns-in-Object-clause-taken
returns-in-Object-clause-taken c =
    rw (tree_of c) (ap (option_map view) c.remove-taken.ensures.value
    ∙ view-lookup c.args.name.now c.in-Object.members.entries)

pub returns-in-Object-clause-back : goal.returns-in-Object-clause-back
returns-in-Object-clause-back c value =
    rw (
      view-Object c.remove-taken.new.self,
      c.remove-taken.ensures.entries,
      tree_of c,
      members_view-remove_entry c.args.name.now c.in-Object.members.entries,
    )
    (ap object (put-without c.args.name.now value (members_view c.in-Object.members.entries)
    (ascend-names c.in-Object.members.entries c.len.ensures.ordered)))
