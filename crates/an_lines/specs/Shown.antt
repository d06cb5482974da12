-- For private clauses: what was played or imported, as the definitions say it.
use Rattle.an_state.specs.State.{State}
use Rattle.std.specs.Prelude.{◌≡◌, ◌⊎◌, Result, Ok, Err}
use Rattle.an_code.specs.declared.code.Code.{Code}
use Rattle.an_lines.specs.Find as find
use Rattle.an_lines.specs.Import as import
use Rattle.an_lines.specs.declared.counts.Counts.{Counts}
use Rattle.an_lines.specs.declared.importing.Imported.{Imported}
use Rattle.an_lines.specs.declared.lines.Played.{Played}

abbrev pub shown : Played → find.Played
shown played = record { output = played.output.items; stop = played.stop }

-- the lines led to this state
abbrev pub shown_import : State → Imported → import.Imported
shown_import s i = record {
  progress = record { state = s; counts = i.counts };
  stop = i.stop;
}

-- a line led to this state and these counts, or was refused and left the state
abbrev pub Leads : Result import.Progress Code → State → State → Result Counts Code → Type 0
Leads (Ok p) s t (Ok counts) = (t ≡ p.state) × (counts ≡ p.counts)
Leads (Ok p) s t (Err why) = ⊥
Leads (Err why) s t (Ok counts) = ⊥
Leads (Err why) s t (Err other) = (other ≡ why) × (t ≡ s)

-- where memory ran out the state is as it was, or the one that the line led to
abbrev pub StaysOrLeads : Result import.Progress Code → State → State → Type 0
StaysOrLeads meant s t = (t ≡ s) ⊎ ((p : import.Progress) × (meant ≡ Ok p) × (t ≡ p.state))
