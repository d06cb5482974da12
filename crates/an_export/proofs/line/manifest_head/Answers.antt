use Rattle.std.proofs.Common.{rules, ◌≡◌}
use Rattle.std.proofs.lemmas.Result.{IfOk-weaker}
use Rattle.an_base.specs.Moment.{moment_text}
use Rattle.an_policy.specs.Group.{group_text}
use Rattle.an_export.proofs.line.manifest_head.Goals as goal

pub returns : goal.returns
returns c =
    let row = c.args.row.now in
    let created : c.as_str-created.result.now ≡ moment_text c.args.created = search rules in
    let name : c.as_str-name.result.now ≡ row.name = search rules in
    let group : c.group_text-group.result.now ≡ group_text row.group = search rules in
    record { text = IfOk-weaker c.format.result _ _ (λ head is. cc) c.format.ensures.ok }
