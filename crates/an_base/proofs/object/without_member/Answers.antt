use Rattle.std.proofs.Common.{◌≡◌, ap, ◌∙◌}
use Rattle.serde_json.specs.Data.{object}
use Rattle.serde_json.specs.View.{view, members_view}
use Rattle.serde_json.proofs.Views.{view-Object}
use Rattle.an_base.proofs.ObjectLemmas.{members_view-remove_entry, is_tree-without_member}
use Rattle.an_base.proofs.object.without_member.Goals as goal

tree_of : (c : goal.After-drop)
    → view c.args.tree ≡ object (members_view c.in-Object.members.entries)
tree_of c = ap view c.in-Object.is ∙ view-Object c.in-Object.members

pub returns-in-Object-clause-value : goal.returns-in-Object-clause-value
returns-in-Object-clause-value c =
    rw (view-Object c.remove.new.self, c.remove.ensures.entries, tree_of c)
    (ap object (members_view-remove_entry c.args.name.now c.in-Object.members.entries))

pub returns-in-Object-clause-tree : goal.returns-in-Object-clause-tree
returns-in-Object-clause-tree c t =
    rw (returns-in-Object-clause-value c)
    (is_tree-without_member c.args.name.now (view c.args.tree) t)
