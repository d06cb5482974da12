use Rattle.std.proofs.Common.{◌∙◌, sym}
use Rattle.an_slots.proofs.NestLemmas.{missing-there, set-written, written_here}
use Rattle.an_postings.proofs.ChangeLemmas.{changed-nothing, changed-written}
use Rattle.an_postings.proofs.LeanLemmas.{leaner-nothing}
use Rattle.an_postings.proofs.SoughtLemmas.{found_by, set_by, sought_as_text}
use Rattle.an_postings.proofs.manifest_postings.ManifestPostings.let_go_in.Goals as goal
use Rattle.an_postings.proofs.manifest_postings.ManifestPostings.let_go_in.Goals.{in-Some, in-None}

pub returns-clause-leaner : goal.returns-clause-leaner
returns-clause-leaner c =
    let same =
    sought_as_text c.of.result.head c.of.result.text.now c.args.term.now c.of.ensures.head
    c.of.ensures.text c.utf8.term in
    elim c.match-get_mut.branch [
      | in-Some w ↦
          (rw w.self-inside-is (changed-written c.args.term.now _
          (set-written c.self.inside.terms.entries c.args.self.now c.self.view_is c.args.term.now
          (c.get_mut.follows.lender w.let_go.new.self).entries w.in-Some.postings.now
          w.let_go.new.self (found_by same _ _ (sym w.in-Some.ensures.value))
          (set_by same _ _ _ (c.get_mut.follows.holds w.let_go.new.self).0))
          w.let_go.ensures.leaner))
      | in-None w ↦ (
          let none =
          missing-there c.self.inside.terms.entries c.args.self.now c.self.view_is c.args.term.now
          (found_by same _ _ (sym w.in-None.ensures.value)) in
          rw (w.self-inside-is, c.get_mut.follows.holds-at-none, c.self.view_is)
          (changed-nothing c.args.term.now _ c.args.self.now none leaner-nothing))
    ]

pub returns-clause-none : goal.returns-clause-none
returns-clause-none c =
    let same =
    sought_as_text c.of.result.head c.of.result.text.now c.args.term.now c.of.ensures.head
    c.of.ensures.text c.utf8.term in
    elim c.match-get_mut.branch [
      | in-Some w ↦
          (rw (w.self-inside-is, w.result-is)
          (λ is. written_here (set-written c.self.inside.terms.entries c.args.self.now
          c.self.view_is c.args.term.now (c.get_mut.follows.lender w.let_go.new.self).entries
          w.in-Some.postings.now w.let_go.new.self (found_by same _ _ (sym w.in-Some.ensures.value))
          (set_by same _ _ _ (c.get_mut.follows.holds w.let_go.new.self).0))
          ∙ w.let_go.ensures.none is))
      | in-None w ↦ (rw w.result-is (λ is. cc))
    ]
