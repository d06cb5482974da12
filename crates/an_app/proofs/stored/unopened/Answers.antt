use Rattle.std.proofs.Common.{sym, ◌∙◌}
use Rattle.an_app.proofs.RunLemmas.{Unopened-damaged, Unopened-keeper, Unopened-no_memory}
use Rattle.an_lines.proofs.StatusLemmas.{reads_little-none, reads_little-nothing}
use Rattle.an_app.proofs.stored.unopened.Goals as goal

pub returns-in-Keeper-clause-told : goal.returns-in-Keeper-clause-told
returns-in-Keeper-clause-told g c =
    Unopened-keeper _ _ _ _ _ _ c.as_bytes.ensures.value
    (sym c.in-Keeper.is, λ is. absurd (cc)) c.tell.ensures.front c.tell.ensures.tells

pub returns-in-Keeper-clause-bounded : goal.returns-in-Keeper-clause-bounded
returns-in-Keeper-clause-bounded g c = reads_little-none _ _ _ c.tell.ensures.front

pub returns-in-Ok-clause-told : goal.returns-in-Ok-clause-told
returns-in-Ok-clause-told g c =
    let text = c.as_bytes-in-Ok.ensures.value ∙ c.as_str.ensures.value ∙ c.in-Ok.ensures in
    Unopened-damaged _ _ _ _ _ _ _ _ text
    (sym c.in-Damaged.is, λ is. absurd (cc)) c.tell-in-Ok.ensures.front c.tell-in-Ok.ensures.tells

pub returns-in-Ok-clause-bounded : goal.returns-in-Ok-clause-bounded
returns-in-Ok-clause-bounded g c = reads_little-none _ _ _ c.tell-in-Ok.ensures.front

pub returns-in-Err-clause-told : goal.returns-in-Err-clause-told
returns-in-Err-clause-told g c = Unopened-no_memory _ _ (g.L.Link.traffic c.args.link.now)

pub returns-in-Err-clause-bounded : goal.returns-in-Err-clause-bounded
returns-in-Err-clause-bounded g c = reads_little-nothing (g.L.Link.traffic c.args.link.now)

pub returns-in-Memory-clause-told : goal.returns-in-Memory-clause-told
returns-in-Memory-clause-told g c = Unopened-no_memory _ _ (g.L.Link.traffic c.args.link.now)

pub returns-in-Memory-clause-bounded : goal.returns-in-Memory-clause-bounded
returns-in-Memory-clause-bounded g c = reads_little-nothing (g.L.Link.traffic c.args.link.now)
