use Rattle.an_trial.proofs.report.report_uncounted.Given as goal

-- the ledger of the blank
abbrev pub ghosts-report : goal.ghosts-report
ghosts-report a = record { name = a.blank.name; parts = a.blank.parts }
