use Rattle.std.proofs.Common.{sym}
use Rattle.an_slots.proofs.NestLemmas.{missing-there, set-written, written_here}
use Rattle.an_postings.proofs.ChangeLemmas.{changed-written}
use Rattle.an_postings.proofs.SoughtLemmas.{found_by, set_by, sought_as_text}
use Rattle.an_postings.proofs.manifest_postings.ManifestPostings.room_add.Goals as goal

pub begin-requires : goal.begin-requires
begin-requires c =
    let same =
    sought_as_text c.of.result.head c.of.result.text.now c.args.term.now c.of.ensures.head
    c.of.ensures.text c.utf8.term in
    record {
      nowhere =
          rw (c.get_mut.follows.holds-at-none, c.self.view_is)
          (missing-there c.self.inside.terms.entries c.args.self.now c.self.view_is c.args.term.now
          (found_by same _ _ (sym c.in-None.ensures.value)));
    }

pub returns-in-Some-clause-ok : goal.returns-in-Some-clause-ok
returns-in-Some-clause-ok c =
    let same =
    sought_as_text c.of.result.head c.of.result.text.now c.args.term.now c.of.ensures.head
    c.of.ensures.text c.utf8.term in
    let wr =
    set-written c.self.inside.terms.entries c.args.self.now c.self.view_is c.args.term.now
    (c.get_mut.follows.lender c.room_add.new.self).entries c.in-Some.postings.now
    c.room_add.new.self (found_by same _ _ (sym c.in-Some.ensures.value))
    (set_by same _ _ _ (c.get_mut.follows.holds c.room_add.new.self).0) in
    rw (written_here wr) c.room_add.ensures.ok

pub returns-in-Some-clause-roomier : goal.returns-in-Some-clause-roomier
returns-in-Some-clause-roomier c =
    let same =
    sought_as_text c.of.result.head c.of.result.text.now c.args.term.now c.of.ensures.head
    c.of.ensures.text c.utf8.term in
    changed-written c.args.term.now _
    (set-written c.self.inside.terms.entries c.args.self.now c.self.view_is c.args.term.now
    (c.get_mut.follows.lender c.room_add.new.self).entries c.in-Some.postings.now
    c.room_add.new.self (found_by same _ _ (sym c.in-Some.ensures.value))
    (set_by same _ _ _ (c.get_mut.follows.holds c.room_add.new.self).0)) c.room_add.ensures.roomier
