use Rattle.std.proofs.Common.{◌≡◌, ℕ, List, IfOk, subst, ap, ◌∙◌}
use Rattle.std.specs.Prelude.{filter}
use Rattle.std.specs.Option.{option_copied}
use Rattle.an_policy.specs.Audience.{identity}
use Rattle.an_slots.specs.Places.{has}
use Rattle.an_state.specs.Terms.{places_with_term}
use Rattle.an_snapshot.specs.Absorbed.{Absorbed}
use Rattle.an_snapshot.proofs.ReadLemmas.{with_term-is}
use Rattle.an_snapshot.proofs.snapshot.Snapshot.places_among.Goals as goal

pub returns : goal.returns
returns c =
    let inside = c.self.inside in
    let whole =
    with_term-is inside.book.state inside.classes (identity c.args.who.now)
    (option_copied c.args.manifest) inside.listed.rows c.self.invariant.listing c.args.term.now
    ∙ ap (λ (a : Absorbed).
    let s = a.state in
    places_with_term s (identity c.args.who.now) (option_copied c.args.manifest) c.args.term.now)
    c.self.view_is in
    record {
      having =
          subst (λ (meant : List ℕ). IfOk c.among_with_term.result
          (λ having. having.items ≡ filter (λ place. has place meant) c.args.places.now)) whole
          c.among_with_term.ensures.having;
    }
