use Rattle.std.proofs.Common.{ap, sym, subst}
use mathlib.Core.List.{IsPrefix}
use Rattle.an_published.proofs.Lists.{prefix_self}
use Rattle.an_app.proofs.serving.serve_opened.Goals as goal

pub serve-requires-clause-seats : goal.serve-requires-clause-seats
serve-requires-clause-seats g c =
    λ κs outlives k d within. ap (λ s. s.book) (c.named-store.ensures.seated k d within)

pub returns-clause-closes : goal.returns-clause-closes
returns-clause-closes g c =
    let list = c.args.opened.list in
    c.serve.ensures.closes list
    (λ k d within. subst (IsPrefix list)
    (sym (ap (λ s. s.seen) (c.named-store.ensures.seated k d within))) (prefix_self list))
