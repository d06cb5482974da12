use Rattle.std.proofs.Common.{w64, ap, ◌∙◌}
use Rattle.std.proofs.lemmas.Int.{to_z-of_z}
use Rattle.an_base.specs.Moment.{is_moment}
use Rattle.an_base.specs.Outcome.{only_if}
use Rattle.an_rows.proofs.FieldLemmas.{moment_is}
use Rattle.an_rows.proofs.fields.moment_of.Goals as goal

pub returns : goal.returns
returns c =
    moment_is _ _ c.new.ensures.range c.new.ensures.value
    ∙ ap (only_if is_moment) (to_z-of_z w64 c.args.seconds c.ranges.seconds)
