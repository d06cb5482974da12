use Rattle.std.proofs.Common.{◌∙◌, sym}
use Rattle.an_slots.proofs.NestLemmas.{found-there, missing-there, set-written, written_here}
use Rattle.an_postings.proofs.ChangeLemmas.{changed-nothing, changed-written}
use Rattle.an_postings.proofs.ListLemmas.{out-nothing}
use Rattle.an_postings.proofs.SoughtLemmas.{found_by, set_by, sought_as_text}
use Rattle.an_postings.proofs.manifest_postings.ManifestPostings.take_out_in.Goals as goal
use Rattle.an_postings.proofs.manifest_postings.ManifestPostings.take_out_in.Goals.{in-Some, in-None}

pub take_out-requires : goal.take_out-requires
take_out-requires c =
    let same =
    sought_as_text c.of.result.head c.of.result.text.now c.args.term.now c.of.ensures.head
    c.of.ensures.text c.utf8.term in
    record {
      enough =
          rw (found-there c.self.inside.terms.entries c.args.self.now c.self.view_is c.args.term.now
          c.in-Some.postings.now (found_by same _ _ (sym c.in-Some.ensures.value))) at
          c.requires.enough;
    }

pub returns-clause-out : goal.returns-clause-out
returns-clause-out c =
    let same =
    sought_as_text c.of.result.head c.of.result.text.now c.args.term.now c.of.ensures.head
    c.of.ensures.text c.utf8.term in
    elim c.match-get_mut.branch [
      | in-Some w ↦
          (rw w.self-inside-is (changed-written c.args.term.now _
          (set-written c.self.inside.terms.entries c.args.self.now c.self.view_is c.args.term.now
          (c.get_mut.follows.lender w.take_out.new.self).entries w.in-Some.postings.now
          w.take_out.new.self (found_by same _ _ (sym w.in-Some.ensures.value))
          (set_by same _ _ _ (c.get_mut.follows.holds w.take_out.new.self).0))
          w.take_out.ensures.out))
      | in-None w ↦ (
          let none =
          missing-there c.self.inside.terms.entries c.args.self.now c.self.view_is c.args.term.now
          (found_by same _ _ (sym w.in-None.ensures.value)) in
          rw (w.self-inside-is, c.get_mut.follows.holds-at-none, c.self.view_is)
          (changed-nothing c.args.term.now _ c.args.self.now none
          (out-nothing c.args.stays c.args.class c.args.place c.args.times
          (rw none at c.requires.enough))))
    ]

pub returns-clause-none : goal.returns-clause-none
returns-clause-none c =
    let same =
    sought_as_text c.of.result.head c.of.result.text.now c.args.term.now c.of.ensures.head
    c.of.ensures.text c.utf8.term in
    elim c.match-get_mut.branch [
      | in-Some w ↦
          (rw (w.self-inside-is, w.result-is)
          (λ is. written_here (set-written c.self.inside.terms.entries
          c.args.self.now c.self.view_is c.args.term.now
          (c.get_mut.follows.lender w.take_out.new.self).entries w.in-Some.postings.now
          w.take_out.new.self (found_by same _ _ (sym w.in-Some.ensures.value))
          (set_by same _ _ _ (c.get_mut.follows.holds w.take_out.new.self).0))
          ∙ w.take_out.ensures.none is))
      | in-None w ↦ (rw w.result-is (λ is. cc))
    ]
