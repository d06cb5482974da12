use Rattle.std.proofs.Common.{◌≡◌, ◌++◌, ◌&&◌, append-nil, ap, arith, sym, ◌∙◌}
use Rattle.std.proofs.lemmas.List.{drop_all}
use Rattle.std.specs.Option.{option_copied}
use Rattle.std.specs.Prelude.{filter, slice_get}
use Rattle.an_base.specs.Outcome.{passes}
use Rattle.an_policy.specs.Audience.{identity}
use Rattle.an_slots.specs.Places.{has}
use Rattle.an_state.specs.State.{NoteState}
use Rattle.an_state.specs.Terms.{has_term, places_with_term}
use Rattle.an_state.specs.View.{is_sought}
use Rattle.an_state.proofs.AmongLemmas.{filter-same, has-places_from}
use Rattle.an_state.proofs.among.among_with_term_in.Goals as goal

pub returns : goal.returns
returns c =
    let s = c.args.book.now.state in
    let who = identity c.args.who.now in
    let manifest = option_copied c.args.manifest in
    let term = c.args.term.now in
    let places = c.args.places.now in
    let having = c.loop-place.having.items in
    let none = drop_all c.loop-place.place-index places (omega (arith, c.loop-place-test.false)) in
    sym (append-nil having)
    ∙ ap (λ left. having
    ++ filter (λ place.
    passes (λ row. is_sought s who manifest row && has_term term row) (slice_get s.notes place))
    left) (sym none)
    ∙ c.loop-place.invariant
    ∙ filter-same (λ place.
    passes (λ row. is_sought s who manifest row && has_term term row) (slice_get s.notes place))
    (λ place. has place (places_with_term s who manifest term)) places
    (λ place. sym (has-places_from {A = NoteState}
    (λ row. is_sought s who manifest row && has_term term row) place s.notes))
