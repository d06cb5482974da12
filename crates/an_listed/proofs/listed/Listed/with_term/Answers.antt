use Rattle.std.proofs.Common.{ℕ, List, ◌&&◌, ap, ◌∙◌}
use Rattle.std.specs.Option.{option_copied}
use Rattle.std.proofs.lemmas.Result.{IfOk-weaker}
use Rattle.an_policy.specs.Audience.{identity}
use Rattle.an_slots.specs.Places.{places_from}
use Rattle.an_state.specs.Terms.{has_term}
use Rattle.an_listed.specs.Filed.{reads_within}
use Rattle.an_listed.specs.Stands.{Listings}
use Rattle.an_listed.specs.declared.filed.Filed.{Filed}
use Rattle.an_listed.proofs.listed.Listed.with_term.Goals as goal

pub returns : goal.returns
returns c =
    let found : List Filed → List ℕ =
    places_from (λ row. reads_within (identity c.args.who.now) c.args.classes.now
    (option_copied c.args.manifest) row && has_term c.args.term.now row.note) 0 in
    record {
      places =
          IfOk-weaker c.with_term.result _ _
          (λ places is. is c.self.inside.rows.items c.self.invariant.stands
          ∙ ap (λ (l : Listings). found l.rows) c.self.view_is) c.with_term.ensures.places;
    }
