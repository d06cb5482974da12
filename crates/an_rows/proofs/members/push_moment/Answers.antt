use Rattle.std.proofs.Common.{◌++◌, SFits, w64, ap, ◌∙◌, rules}
use Rattle.std.proofs.lemmas.Int.{to_z-of_z}
use Rattle.serde_json.specs.Written.{compact_text}
use Rattle.an_base.proofs.WriteLemmas.{member_joined}
use Rattle.an_rows.specs.RowTree.{moment_tree}
use Rattle.an_rows.proofs.members.push_moment.Goals as goal

pub returns : goal.returns
returns c =
    let fits : SFits w64 c.seconds.result = search rules in
    record {
      text =
          member_joined c.args.name.now
          (moment_tree c.args.moment) c.args.out.items _ _ c.in_ok-out.ensures.text
          (c.in_ok-out-2.ensures.text
          ∙ ap (λ m. c.in_ok-out.out.items ++ compact_text (moment_tree m))
          (to_z-of_z w64 c.seconds.result fits ∙ c.seconds.ensures.value));
    }
