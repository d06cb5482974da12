use Rattle.std.proofs.Common.{◌≡◌, true, ◌∙◌}
use Rattle.an_pages.proofs.ContainerLemmas.{iris_on}
use Rattle.an_pages.proofs.items.items_at.Goals as goal

pub returns-in_ok-items-clause-items : goal.returns-in_ok-items-clause-items
returns-in_ok-items-clause-items g c = λ rows stand.
    let is : c.args.iris ≡ true = cc in
    c.in_ok-items.ensures.items
    ∙ iris_on c.args.base.now c.args.iris _ c.args.places.now rows is stand
