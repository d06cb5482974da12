use Rattle.std.proofs.Common.{◌≡◌, List, IfOk, subst, ap, ◌∙◌}
use Rattle.an_base.specs.declared.span.TermTotal.{TermTotal}
use Rattle.std.specs.Option.{option_copied}
use Rattle.an_policy.specs.Audience.{identity}
use Rattle.an_state.specs.Terms.{terms_with_prefix}
use Rattle.an_snapshot.specs.Absorbed.{Absorbed}
use Rattle.an_snapshot.proofs.ReadLemmas.{terms-are}
use Rattle.an_snapshot.proofs.snapshot.Snapshot.terms.Goals as goal

pub returns : goal.returns
returns c =
    let inside = c.self.inside in
    let whole =
    terms-are inside.book.state inside.classes (identity c.args.who.now)
    (option_copied c.args.manifest) inside.listed.rows c.self.invariant.listing c.args.prefix.now
    ∙ ap (λ (a : Absorbed).
    let s = a.state in
    terms_with_prefix s (identity c.args.who.now) (option_copied c.args.manifest) c.args.prefix.now)
    c.self.view_is in
    record {
      terms =
          subst
          (λ (meant : List TermTotal). IfOk c.terms_from.result (λ terms. terms.items ≡ meant))
          whole c.terms_from.ensures.terms;
    }
