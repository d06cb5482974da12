use Rattle.std.proofs.Common.{ℕ, List, subst, sym, ap, ◌∙◌}
use Rattle.std.specs.Prelude.{filter}
use Rattle.std.specs.List.{AllPass}
use Rattle.std.specs.Option.{option_copied}
use Rattle.an_base.specs.Name.{is_name}
use Rattle.an_base.specs.TextSet.{ascending}
use Rattle.an_policy.specs.Audience.{identity}
use Rattle.an_search.specs.Gathered.{searched}
use Rattle.an_state.specs.View.{view_of}
use Rattle.an_gather.specs.Chosen.{chosen, is_shown}
use Rattle.an_gather.proofs.ChosenLemmas.{chosen-searched}
use Rattle.an_gather.proofs.PieceLemmas.{pieces_named}
use Rattle.an_gather.proofs.choosing.chosen.Goals as goal

pub shown_among-requires : goal.shown_among-requires
shown_among-requires g c =
    record {
      names =
          subst (λ (names : List (List ℕ)). AllPass is_name names)
          (sym (c.as_slice.ensures.value ∙ c.in_ok-pieces.ensures.pieces))
          (pieces_named (option_copied c.args.manifests) c.requires.names);
    }

pub returns-clause-chosen : goal.returns-clause-chosen
returns-clause-chosen g c =
    let view = view_of (g.T.Look.state c.args.look.now) (identity c.args.who.now) in
    let found = c.in_ok-names.names.items in
    let pieces = c.as_slice-2.ensures.value ∙ c.in_ok-pieces.ensures.pieces in
    ap (λ scope. searched view scope found) c.scope_of.ensures
    ∙ chosen-searched view c.as_slice-2.result.now found
    (c.in_ok-names.ensures.names
    ∙ ap (λ (names : List (List ℕ)). filter (is_shown view) (ascending names))
    (c.as_slice.ensures.value ∙ sym c.as_slice-2.ensures.value))
    ∙ ap (chosen view) pieces
