use Rattle.std.proofs.Common.{◌≡◌, ◌++◌, drop, map}
use Rattle.std.specs.Prelude.{filter}
use Rattle.an_policy.specs.Audience.{identity}
use Rattle.an_machine.specs.Accepted.{burial, notes_on}
use Rattle.an_state.specs.View.{is_on}
use Rattle.an_machine.proofs.deletion.note_burials.Given as goal

-- the deletions so far and those of the rest are those of all
abbrev pub invariant-loop-row : goal.invariant-loop-row
invariant-loop-row l =
    l.activities.items
    ++ map (burial l.book.state (identity l.who) l.at)
    (filter (is_on l.manifest) (drop l.row-index l.row-items))
    ≡ map (burial l.book.state (identity l.who) l.at) (notes_on l.book.state l.manifest)
