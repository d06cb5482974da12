use Rattle.std.proofs.Common.{List, ℕ, subst, sym, ap, ◌∙◌}
use Rattle.std.specs.List.{AllPass}
use Rattle.std.specs.Prelude.{filter}
use Rattle.an_base.specs.Name.{is_name}
use Rattle.an_policy.specs.Audience.{identity}
use Rattle.an_search.specs.Gathered.{each_once}
use Rattle.an_state.specs.View.{view_of}
use Rattle.an_gather.specs.Chosen.{is_shown}
use Rattle.an_gather.proofs.ChosenLemmas.{chosen_once}
use Rattle.an_gather.proofs.PieceLemmas.{ascending_named}
use Rattle.an_gather.proofs.choosing.shown_among.Goals as goal

pub shown_in-requires : goal.shown_in-requires
shown_in-requires g c =
    record {
      names =
          subst (λ (names : List (List ℕ)). AllPass is_name names) (sym c.in_ok-names.ensures.value)
          (ascending_named c.args.names.now c.requires.names);
    }

pub returns-clause-once : goal.returns-clause-once
returns-clause-once g c =
    let shown = is_shown (view_of (g.T.Look.state c.args.look.now) (identity c.args.who.now)) in
    ap each_once (c.in_ok-found.ensures ∙ ap (filter shown) c.in_ok-names.ensures.value)
    ∙ chosen_once shown c.args.names.now
