use Rattle.an_postings.proofs.LeanLemmas.{changed-removed}
use Rattle.an_postings.proofs.SoughtLemmas.{found_by, removed_by, sought_as_text}
use Rattle.an_postings.proofs.manifest_postings.ManifestPostings.let_go_of.Goals as goal

pub returns-then-let_go_in : goal.returns-then-let_go_in
returns-then-let_go_in c =
    let same =
    sought_as_text c.of.result.head c.of.result.text.now c.args.term.now c.of.ensures.head
    c.of.ensures.text c.utf8.term in
    record {
      leaner =
          changed-removed c.args.term.now _ c.args.self.now c.let_go_in.new.self
          c.self.inside.terms.entries c.remove.new.self.entries c.self.view_is
          (removed_by same _ _ c.remove.ensures.entries)
          (found_by same _ _ c.remove.ensures.updates.1)
          (c.let_go_in.ensures.none c.if-let_go_in.true) c.let_go_in.ensures.leaner;
    }
