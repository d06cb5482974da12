-- What was decided, as far as the history goes.
use Rattle.std.specs.Prelude.{◌≡◌, Result, Ok, Err, None, ⊤}
use Rattle.an_machine.specs.declared.command.Decided.{Decided}
use Rattle.an_machine.specs.declared.command.Refused.{Refused}

-- what was decided changes nothing: a repeat, or a refusal
abbrev pub AddsNothing : Result Decided Refused → Type 0
AddsNothing (Ok decided) = decided.entry ≡ None
AddsNothing (Err refusal) = ⊤
