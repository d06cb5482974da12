use Rattle.std.proofs.Common.{sym}
use Rattle.an_slots.proofs.NestLemmas.{found-there, missing-there, set-written}
use Rattle.an_postings.proofs.ChangeLemmas.{changed-written, changed-nothing}
use Rattle.an_postings.proofs.ListLemmas.{taken-nothing}
use Rattle.an_postings.proofs.SoughtLemmas.{found_by, set_by, sought_as_text}
use Rattle.an_postings.proofs.manifest_postings.ManifestPostings.take.Goals as goal
use Rattle.an_postings.proofs.manifest_postings.ManifestPostings.take.Goals.{in-Some, in-None}

pub take-requires : goal.take-requires
take-requires c =
    let same =
    sought_as_text c.of.result.head c.of.result.text.now c.args.term.now c.of.ensures.head
    c.of.ensures.text c.utf8.term in
    record {
      enough =
          rw (found-there c.self.inside.terms.entries c.args.self.now c.self.view_is c.args.term.now
          c.in-Some.postings.now (found_by same _ _ (sym c.in-Some.ensures.value))) at
          c.requires.enough;
    }

pub returns : goal.returns
returns c =
    let same =
    sought_as_text c.of.result.head c.of.result.text.now c.args.term.now c.of.ensures.head
    c.of.ensures.text c.utf8.term in
    elim c.match-get_mut.branch [
      | in-Some w ↦
          (rw w.self-inside-is (record {
            taken =
                changed-written c.args.term.now _
                (set-written c.self.inside.terms.entries c.args.self.now c.self.view_is
                c.args.term.now (c.get_mut.follows.lender w.take.new.self).entries
                w.in-Some.postings.now w.take.new.self
                (found_by same _ _ (sym w.in-Some.ensures.value))
                (set_by same _ _ _ (c.get_mut.follows.holds w.take.new.self).0))
                w.take.ensures.taken;
          }))
      | in-None w ↦ (
          let none =
          missing-there c.self.inside.terms.entries c.args.self.now c.self.view_is c.args.term.now
          (found_by same _ _ (sym w.in-None.ensures.value)) in
          rw (w.self-inside-is, c.get_mut.follows.holds-at-none, c.self.view_is) (record {
            taken =
                changed-nothing c.args.term.now _ c.args.self.now none
                (taken-nothing c.args.class c.args.times (rw none at c.requires.enough));
          }))
    ]
