use Rattle.std.proofs.Common.{sym}
use Rattle.an_slots.proofs.NestLemmas.{missing-there, set-written, written_here}
use Rattle.an_postings.proofs.ChangeLemmas.{changed-written}
use Rattle.an_postings.proofs.postings.Postings.room_under.Goals as goal

pub begin-requires : goal.begin-requires
begin-requires c = record {
  nowhere =
      rw (c.get_mut.follows.holds-at-none, c.self.view_is)
      (missing-there c.self.inside.manifests.entries c.args.self.now c.self.view_is
      c.args.manifest.now (sym c.in-None.ensures.value));
}

pub returns-in-Some-clause-ok : goal.returns-in-Some-clause-ok
returns-in-Some-clause-ok c =
    let wr =
    set-written c.self.inside.manifests.entries c.args.self.now c.self.view_is c.args.manifest.now
    (c.get_mut.follows.lender c.room_add.new.self).entries c.in-Some.terms.now c.room_add.new.self
    (sym c.in-Some.ensures.value) (c.get_mut.follows.holds c.room_add.new.self).0 in
    rw (written_here wr) c.room_add.ensures.ok

pub returns-in-Some-clause-roomier : goal.returns-in-Some-clause-roomier
returns-in-Some-clause-roomier c =
    changed-written c.args.manifest.now _
    (set-written c.self.inside.manifests.entries c.args.self.now c.self.view_is c.args.manifest.now
    (c.get_mut.follows.lender c.room_add.new.self).entries c.in-Some.terms.now c.room_add.new.self
    (sym c.in-Some.ensures.value) (c.get_mut.follows.holds c.room_add.new.self).0)
    c.room_add.ensures.roomier
