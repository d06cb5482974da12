use Rattle.std.proofs.Common.{List, sym, ap, ◌∙◌}
use Rattle.an_slots.proofs.NestLemmas.{found-there, missing-there}
use Rattle.an_postings.specs.declared.class_postings.ClassPostings.{ClassPostings}
use Rattle.an_postings.specs.Lists.{places_at}
use Rattle.std.proofs.lemmas.Result.{IfOk-weaker}
use Rattle.an_postings.proofs.SoughtLemmas.{found_by, sought_as_text}
use Rattle.an_postings.proofs.manifest_postings.ManifestPostings.classes.Goals as goal

pub returns-in-Some-clause-others : goal.returns-in-Some-clause-others
returns-in-Some-clause-others c =
    let same =
    sought_as_text c.of.result.head c.of.result.text.now c.args.term.now c.of.ensures.head
    c.of.ensures.text c.utf8.term in
    IfOk-weaker c.classes.result _ _
    (λ p h class none. ap (λ (l : List ClassPostings). places_at l class)
    (found-there c.self.inside.terms.entries c.args.self.now c.self.view_is c.args.term.now
    c.in-Some.postings.now (found_by same _ _ (sym c.in-Some.ensures.value)))
    ∙ h class none) c.classes.ensures.others

pub returns-in-None-clause-others : goal.returns-in-None-clause-others
returns-in-None-clause-others c =
    let same =
    sought_as_text c.of.result.head c.of.result.text.now c.args.term.now c.of.ensures.head
    c.of.ensures.text c.utf8.term in
    λ class none. ap (λ (l : List ClassPostings). places_at l class)
    (missing-there c.self.inside.terms.entries c.args.self.now c.self.view_is c.args.term.now
    (found_by same _ _ (sym c.in-None.ensures.value)))
