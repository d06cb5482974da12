use Rattle.std.proofs.Common.{[], ◌∷◌, ap, refl, ◌∙◌}
use Rattle.an_laws.specs.Events.{Opened}
use Rattle.an_state.specs.State.{State}
use Rattle.an_published.specs.declared.published.Published.{Published}
use Rattle.an_store.proofs.Opens.{one-list}
use Rattle.an_store.proofs.opened.begin_writer.Goals as goal

pub new-requires-clause-rule : goal.new-requires-clause-rule
new-requires-clause-rule g c =
    let x : Published = record { snapshot = c.args.snapshot; mark = c.again.result } in
    one-list x _ _ (ap (λ m. m.list) c.again.ensures
    ∙ (c.begin-head.ensures.list
    ∙ ap (λ (s : State). Opened s (g.K.Keeper.told c.args.keeper.now) ∷ []) c.book.ensures.state))
    refl c.requires.stands
