use Rattle.an_published.proofs.Lists.{prefix_trans}
use Rattle.an_seats.proofs.CauseLemmas.{sitting-caused, sitting-later}
use Rattle.an_seats.proofs.server.ServerSessions.session.Goals as goal

pub returns-clause-ran : goal.returns-clause-ran
returns-clause-ran g c = record {
  clock = _;
  site = _;
  from = _;
  to = _;
  sitting = c.session.ensures.session;
}

pub returns-clause-caused : goal.returns-clause-caused
returns-clause-caused g c = sitting-caused _ _ _ _ _ _ _ _ c.session.ensures.session

pub returns-clause-seat : goal.returns-clause-seat
returns-clause-seat g c =
    let later = sitting-later _ _ _ _ _ _ _ _ c.session.ensures.session in
    (c.session.ensures.seat, λ list since. prefix_trans _ _ _ (c.requires.1 list since) later)
