use Rattle.std.proofs.Common.{[], ◌++◌, refl, ap, ◌∙◌}
use Rattle.an_base.specs.Write.{commas}
use Rattle.an_rows.specs.RowTree.{activity_members, row_text}
use Rattle.an_rows.specs.declared.format.Format.TheVariants.{Second}
use Rattle.an_rows.proofs.quick.activity_bytes.Goals as goal

pub returns : goal.returns
unfolding row_text
returns c =
    c.in_ok-out-3.ensures.text [] (activity_members Second c.args.activity.now)
    (c.in_ok-out-2.ensures.text
    ∙ ap (λ front. front ++ commas (activity_members Second c.args.activity.now))
    c.in_ok-out.ensures.items) refl
