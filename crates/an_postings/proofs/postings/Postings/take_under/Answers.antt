use Rattle.std.proofs.Common.{sym, refl, []}
use Rattle.an_slots.proofs.NestLemmas.{found-there, missing-there, set-written}
use Rattle.an_postings.proofs.ChangeLemmas.{changed-written, changed-nothing}
use Rattle.an_postings.proofs.ListLemmas.{taken-nothing}
use Rattle.an_postings.proofs.postings.Postings.take_under.Goals as goal
use Rattle.an_postings.proofs.postings.Postings.take_under.Goals.{in-Some, in-None}

pub take-requires : goal.take-requires
take-requires c = record {
  enough =
      rw (found-there c.self.inside.manifests.entries c.args.self.now c.self.view_is
      c.args.manifest.now c.in-Some.terms.now (sym c.in-Some.ensures.value)) at c.requires.enough;
}

pub returns : goal.returns
returns c =
    elim c.match-get_mut.branch [
      | in-Some w ↦
          (rw w.self-inside-is (record {
            taken =
                changed-written c.args.manifest.now _
                (set-written c.self.inside.manifests.entries c.args.self.now c.self.view_is
                c.args.manifest.now (c.get_mut.follows.lender w.take.new.self).entries
                w.in-Some.terms.now w.take.new.self (sym w.in-Some.ensures.value)
                (c.get_mut.follows.holds w.take.new.self).0) w.take.ensures.taken;
          }))
      | in-None w ↦ (
          let none =
          missing-there c.self.inside.manifests.entries c.args.self.now c.self.view_is
          c.args.manifest.now (sym w.in-None.ensures.value) in
          rw (w.self-inside-is, c.get_mut.follows.holds-at-none, c.self.view_is) (record {
            taken =
                changed-nothing c.args.manifest.now _ c.args.self.now none
                (changed-nothing c.args.term.now _ [] refl
                (taken-nothing c.args.class c.args.times (rw none at c.requires.enough)));
          }))
    ]
