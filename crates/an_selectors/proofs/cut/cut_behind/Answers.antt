use Rattle.an_selectors.proofs.CutLemmas.{IsRestOf-front, IsRestOf-text}
use Rattle.an_selectors.proofs.cut.cut_behind.Goals as goal

pub returns-clause-text : goal.returns-clause-text
returns-clause-text c =
    IsRestOf-text c.args.text.now _ _ c.args.count c.utf8.text c.rest_behind-rest.ensures
    c.split_at.ensures.front

pub returns-clause-front : goal.returns-clause-front
returns-clause-front c =
    IsRestOf-front c.args.text.now _ _ c.args.count c.utf8.text c.rest_behind-rest.ensures
    c.split_at.ensures.front
