use Rattle.std.proofs.Common.{◌≡◌, ◌++◌, drop, map}
use Rattle.std.specs.Prelude.{filter}
use Rattle.an_machine.specs.Accepted.{buried, notes_on}
use Rattle.an_state.specs.View.{is_on}
use Rattle.an_state.specs.declared.entry.Row.TheVariants as kept
use Rattle.an_machine.proofs.deletion.buried_notes.Given as goal

-- the tombstones so far and those of the rest are those of all
abbrev pub invariant-loop-row : goal.invariant-loop-row
invariant-loop-row l =
    l.rows.items
    ++ map (λ row. kept.Note (buried row))
    (filter (is_on l.manifest) (drop l.row-index l.row-items))
    ≡ map (λ row. kept.Note (buried row)) (notes_on l.book.state l.manifest)
