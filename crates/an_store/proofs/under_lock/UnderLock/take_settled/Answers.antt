use Rattle.std.proofs.Common.{rules, refl}
use Rattle.an_store.proofs.under_lock.UnderLock.take_settled.Goals as goal

pub returns-in-None-clause-took : goal.returns-in-None-clause-took
returns-in-None-clause-took g c = record {
  write = c.in_ok-entry.field-0;
  is = search (rules, c.in_ok-entry.ensures.decided, c.book.ensures.state);
  replies = refl;
  published = search (rules, c.in-None.is, c.requires.settled);
  accepted = search (rules, c.requires.settled);
  rests = λ _. record { same_state = refl; same_told = refl; same_faults = refl };
}
