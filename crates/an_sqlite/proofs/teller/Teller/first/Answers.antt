use Rattle.an_keep.specs.Cells.{first_of}
use Rattle.an_sqlite.proofs.ToldLemmas.{gives_asked, knows_asked, stays_asked}
use Rattle.an_sqlite.proofs.teller.Teller.first.Goals as goal

pub invariant_of-self : goal.invariant_of-self
invariant_of-self g c =
    let self = c.args.self.now in
    let done = c.first in
    record {
      known =
          knows_asked g.S.Store self.came.value self.base done.new.self done.ensures.goes_on
          done.result done.ensures.stays done.ensures.still self.known;
    }

pub returns-clause-gives : goal.returns-clause-gives
returns-clause-gives g c =
    let self = c.args.self.now in
    let done = c.first in
    gives_asked g.S.Store self.came.value self.base done.new.self done.ensures.goes_on first_of
    done.result done.ensures.stays done.ensures.cell self.known

pub returns-clause-told : goal.returns-clause-told
returns-clause-told g c =
    let self = c.args.self.now in
    let done = c.first in
    stays_asked g.S.Store self.came.value self.base done.new.self done.ensures.goes_on done.result
    done.ensures.stays done.ensures.still self.known
