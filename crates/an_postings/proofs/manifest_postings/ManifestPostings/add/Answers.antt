use Rattle.std.proofs.Common.{◌≡◌, true, false, sym}
use Rattle.an_slots.proofs.NestLemmas.{found-there, missing-there, set-written}
use Rattle.an_postings.proofs.ChangeLemmas.{changed-written}
use Rattle.an_postings.proofs.SoughtLemmas.{found_by, set_by, sought_as_text}
use Rattle.an_postings.proofs.manifest_postings.ManifestPostings.add.Goals as goal

pub add-requires : goal.add-requires
add-requires c =
    let same =
    sought_as_text c.of.result.head c.of.result.text.now c.args.term.now c.of.ensures.head
    c.of.ensures.text c.utf8.term in
    record {
      room =
          rw (found-there c.self.inside.terms.entries c.args.self.now c.self.view_is c.args.term.now
          c.in-Some.postings.now (found_by same _ _ (sym c.in-Some.ensures.value))) at
          c.requires.room;
    }

pub unreachable-requires : goal.unreachable-requires
unreachable-requires c =
    let same =
    sought_as_text c.of.result.head c.of.result.text.now c.args.term.now c.of.ensures.head
    c.of.ensures.text c.utf8.term in
    let none =
    missing-there c.self.inside.terms.entries c.args.self.now c.self.view_is c.args.term.now
    (found_by same _ _ (sym c.in-None.ensures.value)) in
    let no : false ≡ true = rw none at c.requires.room in
    cc

pub returns : goal.returns
returns c =
    let same =
    sought_as_text c.of.result.head c.of.result.text.now c.args.term.now c.of.ensures.head
    c.of.ensures.text c.utf8.term in
    record {
      added =
          changed-written c.args.term.now _
          (set-written c.self.inside.terms.entries c.args.self.now c.self.view_is c.args.term.now
          (c.get_mut.follows.lender c.add.new.self).entries c.in-Some.postings.now c.add.new.self
          (found_by same _ _ (sym c.in-Some.ensures.value))
          (set_by same _ _ _ (c.get_mut.follows.holds c.add.new.self).0)) c.add.ensures.added;
    }
