use Rattle.std.proofs.Common.{◌≡◌, ℕ, List, IfOk, subst, ap, ◌∙◌}
use Rattle.std.specs.Option.{option_copied}
use Rattle.an_policy.specs.Audience.{identity}
use Rattle.an_state.specs.View.{sought_places}
use Rattle.an_snapshot.specs.Absorbed.{Absorbed}
use Rattle.an_snapshot.proofs.ReadLemmas.{readable-is}
use Rattle.an_snapshot.proofs.snapshot.Snapshot.places.Goals as goal

pub returns : goal.returns
returns c =
    let inside = c.self.inside in
    let whole =
    readable-is inside.book.state inside.classes (identity c.args.who.now)
    (option_copied c.args.manifest) inside.listed.rows c.self.invariant.listing
    ∙ ap (λ (a : Absorbed).
    let s = a.state in sought_places s (identity c.args.who.now) (option_copied c.args.manifest))
    c.self.view_is in
    record {
      places =
          subst (λ (meant : List ℕ). IfOk c.readable.result (λ places. places.items ≡ meant)) whole
          c.readable.ensures.places;
    }
