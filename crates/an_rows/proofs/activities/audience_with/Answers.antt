use Rattle.std.proofs.Common.{Result, subst, sym}
use Rattle.std.specs.Option.{option_copied}
use Rattle.serde_json.specs.View.{view}
use Rattle.an_base.specs.Outcome.{Gives}
use Rattle.an_policy.specs.declared.group.Audience.{Audience}
use Rattle.an_rows.specs.declared.refusal.RowError.{RowError}
use Rattle.an_rows.specs.declared.refusal.RowError.TheVariants.{Memory}
use Rattle.an_rows.proofs.FieldLemmas.{audience_read}
use Rattle.an_rows.proofs.activities.audience_with.Goals as goal

pub returns : goal.returns
returns c =
    let P : Result Audience RowError → Type 0 =
    λ meant.
    Gives {A = Audience} {B = Audience} {E = RowError} (λ a. a) Memory c.if_audience.result meant in
    subst P
    (sym (audience_read c.args.inner c.in_ok-outer.outer c.in_ok-its_owner.its_owner
    (option_copied c.args.owner) (view c.args.tree.now)
    c.in_ok-outer.ensures.group c.in_ok-its_owner.ensures.name)) c.if_audience.ensures
