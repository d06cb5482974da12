use Rattle.std.proofs.Common.{◌≡◌, take}
use Rattle.std.specs.Prelude.{filter}
use Rattle.std.specs.Option.{option_copied}
use Rattle.an_policy.specs.Audience.{identity}
use Rattle.an_state.specs.Terms.{totals_in}
use Rattle.an_state.specs.View.{is_sought}
use Rattle.an_state.proofs.readable.sought_totals.Given as goal

-- the totals so far are those of the rows so far
abbrev pub invariant-loop-row : goal.invariant-loop-row
invariant-loop-row l =
    l.totals ≡ totals_in l.prefix
    (filter (is_sought l.book.state (identity l.who) (option_copied l.manifest))
    (take l.row-index l.book.state.notes))
