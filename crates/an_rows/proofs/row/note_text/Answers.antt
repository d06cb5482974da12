use Rattle.std.proofs.Common.{[], ◌++◌, refl, ap, ◌∙◌}
use Rattle.an_base.specs.Write.{commas}
use Rattle.an_rows.specs.RowTree.{note_members, row_text}
use Rattle.an_rows.specs.declared.format.Format.TheVariants.{Second}
use Rattle.an_rows.proofs.row.note_text.Goals as goal

pub returns : goal.returns
unfolding row_text
returns c = record {
  text = c.from_vec.ensures.value
      ∙ c.in_ok-out-2.ensures.text [] (note_members Second c.args.row.now)
      (c.in_ok-out.ensures.text
      ∙ ap (λ front. front ++ commas (note_members Second c.args.row.now)) c.new.ensures.items)
      refl;
}
