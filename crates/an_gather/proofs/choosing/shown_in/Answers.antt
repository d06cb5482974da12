use Rattle.std.proofs.Common.{ℕ, List, [], ◌∷◌, ◌++◌, take, cond, sym, ap, ◌∙◌, take_all, arith}
use Rattle.std.specs.Prelude.{filter}
use Rattle.an_policy.specs.Audience.{identity}
use Rattle.an_state.specs.View.{view_of}
use Rattle.an_gather.specs.Chosen.{is_shown}
use Rattle.an_gather.proofs.NameLemmas.{filter-more}
use Rattle.an_gather.proofs.choosing.shown_in.Goals as goal

pub loop-place-preserved : goal.loop-place-preserved
loop-place-preserved g c =
    let shown = is_shown (view_of (g.T.Look.state c.args.look.now) (identity c.args.who.now)) in
    let names = c.args.names.now in
    c.in_ok-push_named.ensures
    ∙ ap (λ (l : List (List ℕ)). l ++ cond (shown c.text.result.now) (c.text.result.now ∷ []) [])
    c.loop-place.invariant
    ∙ ap (λ (text : List ℕ).
    filter shown (take c.loop-place.place names) ++ cond (shown text) (text ∷ []) [])
    c.text.ensures.text
    ∙ sym (filter-more shown names c.loop-place.place
    (omega (arith, c.loop-place-test.true, c.len-place-end.ensures.length)))

pub returns : goal.returns
returns g c =
    let shown = is_shown (view_of (g.T.Look.state c.args.look.now) (identity c.args.who.now)) in
    c.loop-place.invariant
    ∙ ap (filter shown) (take_all c.loop-place.place c.args.names.now
    (omega (arith, c.loop-place-test.false, c.len-place-end.ensures.length)))
