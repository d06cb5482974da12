use Rattle.std.proofs.Common.{◌≡◌, ap, sym, ◌∙◌}
use Rattle.serde_json.specs.Data.{object, put}
use Rattle.serde_json.specs.View.{view, members_view}
use Rattle.serde_json.specs.Written.{has_float}
use Rattle.serde_json.specs.declared.value.Value.{Object}
use Rattle.serde_json.proofs.Views.{view-Object}
use Rattle.an_base.proofs.ObjectLemmas.{has_float-with_member}
use Rattle.an_base.proofs.object.with_member.Goals as goal

pub returns-in_ok-put-in-Object-clause-no_float : goal.returns-in_ok-put-in-Object-clause-no_float
returns-in_ok-put-in-Object-clause-no_float c v t =
    let tree : view c.args.tree ≡ object (members_view c.in-Object.members.entries) =
    ap view c.in-Object.is ∙ view-Object c.in-Object.members in
    let made : view (Object c.put.new.map)
    ≡ object (put c.args.name.now (view c.args.value) (members_view c.in-Object.members.entries)) =
    view-Object c.put.new.map ∙ ap object ((c.in_ok-put-in-Object.ensures).ok) in
    rw made (has_float-with_member c.args.name.now (view c.args.value)
    (object (members_view c.in-Object.members.entries)) v (sym (ap has_float tree) ∙ t))
