-- What a report of a case tells.
use Rattle.std.specs.Prelude.{◌≡◌}
use Rattle.an_report.specs.declared.outcome.Outcome.{Outcome}

-- the status and the whole output are those that are due
abbrev pub IsAsDue : Outcome → Outcome → Type 0
IsAsDue due found = (due.status ≡ found.status) × (due.output.items ≡ found.output.items)
