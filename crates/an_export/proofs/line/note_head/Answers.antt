use Rattle.std.proofs.Common.{rules, ◌≡◌}
use Rattle.std.proofs.lemmas.Result.{IfOk-weaker}
use Rattle.an_base.specs.Moment.{moment_text}
use Rattle.an_policy.specs.Inner.{inner_text}
use Rattle.an_export.proofs.line.note_head.Goals as goal

pub returns : goal.returns
returns c =
    let row = c.args.row.now in
    let live = c.args.live.now in
    let created : c.as_str-created.result.now ≡ moment_text live.created = search rules in
    let owner : c.as_str-owner.result.now ≡ row.owner = search rules in
    let name : c.as_str-name.result.now ≡ row.name = search rules in
    let manifest : c.as_str-manifest.result.now ≡ live.manifest.now = search rules in
    let group : c.as_str-group.result.now ≡ inner_text live.group.now = search rules in
    record { text = IfOk-weaker c.format.result _ _ (λ head is. cc) c.format.ensures.ok }
