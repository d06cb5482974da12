use Rattle.std.proofs.Common.{[], ◌∙◌, refl, sym}
use Rattle.an_slots.proofs.NestLemmas.{found-there, missing-there, set-written, written_here}
use Rattle.an_postings.proofs.ChangeLemmas.{changed-nothing, changed-written}
use Rattle.an_postings.proofs.ListLemmas.{out-nothing}
use Rattle.an_postings.proofs.postings.Postings.take_out_in.Goals as goal
use Rattle.an_postings.proofs.postings.Postings.take_out_in.Goals.{in-Some, in-None}

pub take_out-requires : goal.take_out-requires
take_out-requires c = record {
  enough =
      rw (found-there c.self.inside.manifests.entries c.args.self.now c.self.view_is
      c.args.manifest.now c.in-Some.terms.now (sym c.in-Some.ensures.value)) at c.requires.enough;
}

pub returns-clause-out : goal.returns-clause-out
returns-clause-out c =
    elim c.match-get_mut.branch [
      | in-Some w ↦
          (rw w.self-inside-is (changed-written c.args.manifest.now _
          (set-written c.self.inside.manifests.entries c.args.self.now c.self.view_is
          c.args.manifest.now (c.get_mut.follows.lender w.take_out.new.self).entries
          w.in-Some.terms.now w.take_out.new.self (sym w.in-Some.ensures.value)
          (c.get_mut.follows.holds w.take_out.new.self).0) w.take_out.ensures.out))
      | in-None w ↦ (
          let none =
          missing-there c.self.inside.manifests.entries c.args.self.now c.self.view_is
          c.args.manifest.now (sym w.in-None.ensures.value) in
          rw (w.self-inside-is, c.get_mut.follows.holds-at-none, c.self.view_is)
          (changed-nothing c.args.manifest.now _ c.args.self.now none
          (changed-nothing c.args.term.now _ [] refl
          (out-nothing c.args.stays c.args.class c.args.place c.args.times
          (rw none at c.requires.enough)))))
    ]

pub returns-clause-none : goal.returns-clause-none
returns-clause-none c =
    elim c.match-get_mut.branch [
      | in-Some w ↦
          (rw (w.self-inside-is, w.result-is)
          (λ is. written_here (set-written c.self.inside.manifests.entries c.args.self.now
          c.self.view_is c.args.manifest.now (c.get_mut.follows.lender w.take_out.new.self).entries
          w.in-Some.terms.now w.take_out.new.self (sym w.in-Some.ensures.value)
          (c.get_mut.follows.holds w.take_out.new.self).0)
          ∙ w.take_out.ensures.none is))
      | in-None w ↦ (rw w.result-is (λ is. cc))
    ]
