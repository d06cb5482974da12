use Rattle.std.proofs.Common.{[], ◌∙◌, refl, sym}
use Rattle.an_slots.proofs.NestLemmas.{missing-there, set-written, written_here}
use Rattle.an_postings.proofs.ChangeLemmas.{changed-nothing, changed-written}
use Rattle.an_postings.proofs.LeanLemmas.{leaner-nothing}
use Rattle.an_postings.proofs.postings.Postings.let_go_in.Goals as goal
use Rattle.an_postings.proofs.postings.Postings.let_go_in.Goals.{in-Some, in-None}

pub returns-clause-leaner : goal.returns-clause-leaner
returns-clause-leaner c =
    elim c.match-get_mut.branch [
      | in-Some w ↦
          (rw w.self-inside-is (changed-written c.args.manifest.now _
          (set-written c.self.inside.manifests.entries
          c.args.self.now c.self.view_is c.args.manifest.now
          (c.get_mut.follows.lender w.let_go.new.self).entries w.in-Some.terms.now w.let_go.new.self
          (sym w.in-Some.ensures.value) (c.get_mut.follows.holds w.let_go.new.self).0)
          w.let_go.ensures.leaner))
      | in-None w ↦ (
          let none =
          missing-there c.self.inside.manifests.entries c.args.self.now c.self.view_is
          c.args.manifest.now (sym w.in-None.ensures.value) in
          rw (w.self-inside-is, c.get_mut.follows.holds-at-none, c.self.view_is)
          (changed-nothing c.args.manifest.now _ c.args.self.now none
          (changed-nothing c.args.term.now _ [] refl leaner-nothing)))
    ]

pub returns-clause-none : goal.returns-clause-none
returns-clause-none c =
    elim c.match-get_mut.branch [
      | in-Some w ↦
          (rw (w.self-inside-is, w.result-is)
          (λ is. written_here (set-written c.self.inside.manifests.entries
          c.args.self.now c.self.view_is c.args.manifest.now
          (c.get_mut.follows.lender w.let_go.new.self).entries w.in-Some.terms.now w.let_go.new.self
          (sym w.in-Some.ensures.value) (c.get_mut.follows.holds w.let_go.new.self).0)
          ∙ w.let_go.ensures.none is))
      | in-None w ↦ (rw w.result-is (λ is. cc))
    ]
