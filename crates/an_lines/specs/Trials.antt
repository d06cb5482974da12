-- What a trial tells.
use Rattle.std.specs.Prelude.{ℕ}
use Rattle.an_trial.specs.Trial.{trial_text}
use Rattle.an_lines.specs.Find.{Report}
use Rattle.an_lines.specs.declared.status.Status.TheVariants.{Done}

-- how many annotations a trial has, and the seed from which they are drawn
pub record Trial : Type 0 where
  pub count : ℕ
  pub seed : ℕ

-- what a trial tells
abbrev pub trial_report : Trial → Report
trial_report asked = record { status = Done; text = trial_text asked.count asked.seed }
