use Rattle.std.proofs.Common.{◌≡◌, ◌++◌, ◌&&◌, drop}
use Rattle.std.specs.Prelude.{filter, slice_get}
use Rattle.std.specs.Option.{option_copied}
use Rattle.an_base.specs.Outcome.{passes}
use Rattle.an_policy.specs.Audience.{identity}
use Rattle.an_state.specs.Terms.{has_term}
use Rattle.an_state.specs.View.{is_sought}
use Rattle.an_state.proofs.among.among_with_term_in.Given as goal

-- those so far and those of what is left are those of all
abbrev pub invariant-loop-place : goal.invariant-loop-place
invariant-loop-place l =
    let s = l.book.state in
    l.having.items
    ++ filter (λ place. passes
    (λ row. is_sought s (identity l.who) (option_copied l.manifest) row && has_term l.term row)
    (slice_get s.notes place))
    (drop l.place-index l.places)
    ≡ filter (λ place. passes
    (λ row. is_sought s (identity l.who) (option_copied l.manifest) row && has_term l.term row)
    (slice_get s.notes place)) l.places
