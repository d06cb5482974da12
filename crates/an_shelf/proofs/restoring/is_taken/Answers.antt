use Rattle.an_shelf.proofs.RestoringLemmas.{is_taken, is_free}
use Rattle.an_shelf.proofs.restoring.is_taken.Goals as goal

pub returns-in-Some : goal.returns-in-Some
returns-in-Some c =
    is_taken c.args.book.now.state _ _ _ c.in_ok-copy.ensures.equal c.in-Some.ensures.who

pub returns : goal.returns
returns c = is_free c.args.book.now.state _ _ c.in_ok-copy.ensures.equal c.in-None.ensures.who
