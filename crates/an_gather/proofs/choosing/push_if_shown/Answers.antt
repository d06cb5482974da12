use Rattle.std.proofs.Common.{◌≡◌, ℕ, List, [], ◌∷◌, ◌++◌, true, cond, Some, sym, ap, ◌∙◌}
use Rattle.std.specs.Prelude.{is_some}
use Rattle.an_policy.specs.Audience.{identity}
use Rattle.an_search.specs.Gathered.{lent_names}
use Rattle.an_state.specs.View.{manifest_in, view_of}
use Rattle.an_gather.specs.Chosen.{is_shown}
use Rattle.an_gather.proofs.NameLemmas.{found-name, lent-push}
use Rattle.an_gather.proofs.choosing.push_if_shown.Goals as goal

pub returns-in_ok-push-in-Some : goal.returns-in_ok-push-in-Some
returns-in_ok-push-in-Some g c =
    let view = view_of (g.T.Look.state c.args.look.now) (identity c.args.who.now) in
    let text = c.args.name.now in
    let named = lent_names c.args.found.now.items in
    let at : Some c.in-Some.row.now ≡ manifest_in view text = c.in-Some.ensures.row in
    let shown : is_shown view text ≡ true = ap is_some (sym at) in
    ap lent_names c.in_ok-push-in-Some.ensures.items
    ∙ lent-push c.args.found.now.items c.name.result
    ∙ ap (λ (name : List ℕ). named ++ name ∷ [])
    (c.name.ensures.name ∙ found-name view text c.in-Some.row.now at)
    ∙ ap (λ b. named ++ cond b (text ∷ []) []) (sym shown)
