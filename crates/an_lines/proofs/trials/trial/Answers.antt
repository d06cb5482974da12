use Rattle.an_lines.specs.Trials.{trial_report}
use Rattle.an_lines.proofs.StatusLemmas.{TellsReport-nothing, reads_little-nothing}
use Rattle.an_lines.proofs.trials.trial.Goals as goal

pub returns-in-Err-clause-tries : goal.returns-in-Err-clause-tries
returns-in-Err-clause-tries g c =
    TellsReport-nothing (trial_report (record { count = c.args.count; seed = c.args.seed })) _
    (g.L.Link.traffic c.args.link.now)

pub returns-in-Err-clause-bounded : goal.returns-in-Err-clause-bounded
returns-in-Err-clause-bounded g c = reads_little-nothing (g.L.Link.traffic c.args.link.now)
