use Rattle.an_slots.proofs.NestLemmas.{insert-written, written_here}
use Rattle.an_postings.proofs.ChangeLemmas.{changed-written}
use Rattle.an_postings.proofs.postings.Postings.begin.Goals as goal

pub returns-in-Ok-clause-ok : goal.returns-in-Ok-clause-ok
returns-in-Ok-clause-ok c =
    let wr =
    insert-written c.self.inside.manifests.entries c.args.self.now c.self.view_is
    c.args.manifest.now c.insert.new.self.entries c.room_add.new.self c.in_ok-key.key
    c.requires.nowhere c.in_ok-key.ensures.ok c.in-Ok.ensures.entries in
    rw (written_here wr) c.in_ok-room_add.ensures.ok

pub returns-in-Ok-clause-roomier : goal.returns-in-Ok-clause-roomier
returns-in-Ok-clause-roomier c =
    changed-written c.args.manifest.now _
    (insert-written c.self.inside.manifests.entries c.args.self.now c.self.view_is
    c.args.manifest.now c.insert.new.self.entries c.room_add.new.self c.in_ok-key.key
    c.requires.nowhere c.in_ok-key.ensures.ok c.in-Ok.ensures.entries)
    (rw c.new-terms.ensures.empty at c.room_add.ensures.roomier)
