use Rattle.std.proofs.Common.{◌≡◌, ℕ, List, ◌&&◌, IfOk, ap, subst, ◌∙◌}
use Rattle.std.specs.Option.{option_copied}
use Rattle.std.specs.Prelude.{filter}
use Rattle.an_policy.specs.Audience.{identity}
use Rattle.an_slots.specs.Places.{has, places_from}
use Rattle.an_state.specs.Terms.{has_term}
use Rattle.an_listed.specs.Filed.{reads_within}
use Rattle.an_listed.specs.Stands.{Listings}
use Rattle.an_listed.specs.declared.filed.Filed.{Filed}
use Rattle.an_listed.proofs.listed.Listed.among_with_term.Goals as goal

pub returns : goal.returns
returns c =
    let found : List Filed → List ℕ =
    λ rows. filter (λ place. has place
    (places_from (λ row. reads_within (identity c.args.who.now) c.args.classes.now
    (option_copied c.args.manifest) row && has_term c.args.term.now row.note) 0 rows))
    c.args.places.now in
    let rows = c.as_slice-rows.ensures.value ∙ ap (λ (l : Listings). l.rows) c.self.view_is in
    record {
      having =
          subst (λ rows. IfOk c.among_with_term.result (λ having. having.items ≡ found rows)) rows
          c.among_with_term.ensures.having;
    }
