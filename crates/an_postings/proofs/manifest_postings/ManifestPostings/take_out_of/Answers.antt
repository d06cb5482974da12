use Rattle.an_postings.proofs.LeanLemmas.{changed-removed}
use Rattle.an_postings.proofs.SoughtLemmas.{found_by, removed_by, sought_as_text}
use Rattle.an_postings.proofs.manifest_postings.ManifestPostings.take_out_of.Goals as goal

pub returns-then-take_out_in : goal.returns-then-take_out_in
returns-then-take_out_in c =
    let same =
    sought_as_text c.of.result.head c.of.result.text.now c.args.term.now c.of.ensures.head
    c.of.ensures.text c.utf8.term in
    record {
      out =
          changed-removed c.args.term.now _ c.args.self.now c.take_out_in.new.self
          c.self.inside.terms.entries c.remove.new.self.entries c.self.view_is
          (removed_by same _ _ c.remove.ensures.entries)
          (found_by same _ _ c.remove.ensures.updates.1)
          (c.take_out_in.ensures.none c.if-take_out_in.true) c.take_out_in.ensures.out;
    }
