use Rattle.std.proofs.Common.{subst}
use Rattle.an_sqlite.specs.Ahead.{AreNext, HaveRead}
use Rattle.an_sqlite.proofs.AheadLemmas.{may_left, may_next, may_none}
use Rattle.an_sqlite.proofs.base.Base.next_ahead.Goals as goal

pub returns-in-Some-clause-next : goal.returns-in-Some-clause-next
returns-in-Some-clause-next g c cells up next =
    may_next c.args.tab c.args.key c.in-Some.ahead c.next_after.new.self cells up
    c.next_after.result c.next_after.ensures.given (subst (λ a. AreNext a cells) c.in-Some.is next)

pub returns-in-Some-clause-left : goal.returns-in-Some-clause-left
returns-in-Some-clause-left g c cells up next =
    may_left c.args.tab c.args.key c.in-Some.ahead c.next_after.new.self cells
    up c.next_after.result c.next_after.ensures.given c.next_after.ensures.kept
    (subst (λ a. AreNext a cells) c.in-Some.is next)

pub returns-in-Some-clause-none : goal.returns-in-Some-clause-none
returns-in-Some-clause-none g c cells up read is =
    may_none c.args.tab c.args.key c.in-Some.ahead c.next_after.new.self
    cells up c.next_after.result c.next_after.ensures.given
    (subst (HaveRead c.args.tab c.args.key cells) c.in-Some.is read) is
