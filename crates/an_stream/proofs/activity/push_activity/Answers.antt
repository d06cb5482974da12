use Rattle.std.proofs.Common.{rules, ◌≡◌, ◌++◌, codes, ap, ◌∙◌}
use Rattle.serde_json.specs.Data.{string}
use Rattle.serde_json.specs.Written.{compact_text}
use Rattle.an_base.specs.Moment.{moment_text}
use Rattle.an_base.specs.Write.{member_text}
use Rattle.an_stream.specs.Activity.{kind_text}
use Rattle.an_stream.proofs.TextLemmas.{activity_members, activity_pieces, written_activity}
use Rattle.an_stream.proofs.activity.push_activity.Goals as goal

pub returns : goal.returns
returns c =
    let base = c.args.base.now in
    let seen = c.args.seen.now in
    let moment : c.as_str.result.now ≡ moment_text seen.moment = search rules in
    let kind : c.kind_text.result.now ≡ kind_text seen.kind = search rules in
    record {
      text = c.in_ok-out-4.ensures.text c.args.out.items (activity_members base seen)
          (activity_pieces base seen c.args.out.items _ _ _
          (c.in_ok-out.ensures.text
          ∙ ap (λ text. c.args.out.items ++ member_text (codes "endTime") (string text)) moment)
          c.in_ok-out-2.ensures.text
          (c.in_ok-out-3.ensures.text
          ∙ ap (λ text. c.in_ok-out-2.out.items ++ member_text (codes "type") (string text)) kind))
          (c.len-start.ensures ∙ c.args.out.ok.0)
          ∙ ap (λ tree. c.args.out.items ++ compact_text tree) (written_activity base seen);
    }
