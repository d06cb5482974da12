use Rattle.std.proofs.Common.{◌≡◌, ℕ, ◌≤◌, List, ◌++◌, length, length-append, ap, arith, codes, option_map, ◌∙◌}
use Rattle.serde_json.specs.Data.{member, no_members, string}
use Rattle.an_base.proofs.WriteLemmas.{member_joined}
use Rattle.an_policy.specs.Group.{group_text}
use Rattle.an_rows.specs.Format.{inner_tree}
use Rattle.an_rows.specs.RowTree.{audience_tree, given, text_member}
use Rattle.an_rows.proofs.activities.push_one.Goals as goal

no_shorter : (out new x : List ℕ) (start end : ℕ) → start ≡ length out → end ≡ length new
    → new ≡ out ++ x → start ≤ end
no_shorter out new x start end s e text = omega (arith, ap length text, length-append out x)

pub close_members-requires : goal.close_members-requires
close_members-requires c = record {
  start =
      no_shorter c.in_ok-out.out.items c.in_ok-out-2.out.items _ _ _
      (c.len-start.ensures ∙ c.in_ok-out.out.ok.0) c.in_ok-out-2.out.ok.0
      c.in_ok-out-2.ensures.text;
}

pub returns : goal.returns
unfolding audience_tree
returns c =
    let a = c.args.audience.now in
    record {
      text =
          member_joined c.args.name.now (audience_tree c.args.format a) c.args.out.items _ _
          c.in_ok-out.ensures.text
          (c.in_ok-out-3.ensures.text c.in_ok-out.out.items
          (member (codes "inner") (inner_tree c.args.format a.inner)
          (text_member (codes "outer") (group_text a.outer)
          (given (codes "owner") (option_map string a.owner) no_members)))
          c.in_ok-out-2.ensures.text (c.len-start.ensures ∙ c.in_ok-out.out.ok.0));
    }
