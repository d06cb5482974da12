use Rattle.std.proofs.Common.{sym, subst}
use mathlib.Core.List.{IsPrefix}
use Rattle.an_store.specs.Stock.{Stock}
use Rattle.an_store.proofs.Writes.{closes}
use Rattle.an_store.proofs.store.Store.close.Goals as goal

pub returns-clause-closes : goal.returns-clause-closes
returns-clause-closes g c =
    closes c.args.seat.now.seen c.align.new.self _ c.align.ensures.stocked
    (subst (λ (z : Stock). IsPrefix c.args.seat.now.seen z.published)
    (sym c.align.ensures.same) c.align.ensures.later) c.end.ensures.told

pub returns-clause-later : goal.returns-clause-later
returns-clause-later g c = rw (c.align.ensures.seat) c.align.ensures.later
