-- What an export tells.
use Rattle.std.specs.Prelude.{ℕ, List, codes, Option, Some, None, option_and_then, option_map}
use Rattle.an_export.specs.Export.{exported}
use Rattle.an_state.specs.State.{State, who_of}
use Rattle.an_state.specs.View.{View, view_of}
use Rattle.an_lines.specs.Find.{Report, reader}
use Rattle.an_lines.specs.Line.{by_of}
use Rattle.an_lines.specs.declared.status.Status.TheVariants.{Done, NoReader}

-- the view of who is named so, as a line names who reads; there is none where the name is no live
-- reader's
abbrev pub view_named : State → List ℕ → Option View
view_named s by =
    option_map (view_of s) (option_and_then (λ by. who_of s (reader by)) (by_of by))

-- the name is no live reader's
abbrev pub no_reader : Report
no_reader = record { status = NoReader; text = codes "no reader\n" }

-- what an export of a view tells
abbrev pub export_told : Option View → Report
export_told None = no_reader
export_told (Some view) = record { status = Done; text = exported view }

abbrev pub export_report : State → List ℕ → Report
export_report s by = export_told (view_named s by)
