use Rattle.std.proofs.Common.{sym, ◌∙◌}
use Rattle.an_slots.proofs.NestLemmas.{found-there, missing-there}
use Rattle.an_postings.proofs.SoughtLemmas.{found_by, sought_as_text}
use Rattle.an_postings.proofs.manifest_postings.ManifestPostings.lists_of.Goals as goal

pub returns-in-Some-clause-lists : goal.returns-in-Some-clause-lists
returns-in-Some-clause-lists c =
    let same =
    sought_as_text c.of.result.head c.of.result.text.now c.args.term.now c.of.ensures.head
    c.of.ensures.text c.utf8.term in
    c.lists.ensures.lists
    ∙ sym (found-there c.self.inside.terms.entries c.args.self.now c.self.view_is c.args.term.now
    c.in-Some.postings.now (found_by same _ _ (sym c.in-Some.ensures.value)))

pub returns-in-None-clause-lists : goal.returns-in-None-clause-lists
returns-in-None-clause-lists c =
    let same =
    sought_as_text c.of.result.head c.of.result.text.now c.args.term.now c.of.ensures.head
    c.of.ensures.text c.utf8.term in
    sym (missing-there c.self.inside.terms.entries c.args.self.now c.self.view_is c.args.term.now
    (found_by same _ _ (sym c.in-None.ensures.value)))
