use Rattle.an_keep.specs.Cells.{put_changes}
use Rattle.an_sqlite.proofs.ToldLemmas.{knows_committed, stays_committed, turns_committed}
use Rattle.an_sqlite.proofs.teller.Teller.commit.Goals as goal

pub invariant_of-self : goal.invariant_of-self
invariant_of-self g c =
    let self = c.args.self.now in
    let done = c.commit in
    record {
      known =
          knows_committed g.S.Store self.came.value self.base done.new.self done.ensures.goes_on
          (put_changes c.args.changes.now) done.result done.ensures.done
          done.ensures.still self.known;
    }

pub returns-clause-turns : goal.returns-clause-turns
returns-clause-turns g c =
    let self = c.args.self.now in
    let done = c.commit in
    turns_committed g.S.Store self.came.value self.base done.new.self done.ensures.goes_on
    (put_changes c.args.changes.now) done.result done.ensures.done self.known

pub returns-clause-stays : goal.returns-clause-stays
returns-clause-stays g c =
    let self = c.args.self.now in
    let done = c.commit in
    stays_committed g.S.Store self.came.value self.base done.new.self done.ensures.goes_on
    (put_changes c.args.changes.now) done.result done.ensures.still self.known
