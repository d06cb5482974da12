use Rattle.std.proofs.Common.{ℕ, List, sym, ap, ◌∙◌}
use Rattle.an_slots.specs.Texts.{under}
use Rattle.an_slots.proofs.NestLemmas.{found-there, missing-there}
use Rattle.an_postings.specs.declared.class_postings.ClassPostings.{ClassPostings}
use Rattle.an_postings.specs.Lists.{places_at}
use Rattle.std.proofs.lemmas.Result.{IfOk-weaker}
use Rattle.an_postings.proofs.postings.Postings.classes.Goals as goal

pub returns-in-Some-clause-others : goal.returns-in-Some-clause-others
returns-in-Some-clause-others c =
    IfOk-weaker c.classes.result _ _
    (λ p h class none. ap
    (λ (l : List (List ℕ × List ClassPostings)). places_at (under c.args.term.now l) class)
    (found-there c.self.inside.manifests.entries c.args.self.now c.self.view_is c.args.manifest.now
    c.in-Some.terms.now (sym c.in-Some.ensures.value))
    ∙ h class none) c.classes.ensures.others

pub returns-in-None-clause-others : goal.returns-in-None-clause-others
returns-in-None-clause-others c =
    λ class none. ap
    (λ (l : List (List ℕ × List ClassPostings)). places_at (under c.args.term.now l) class)
    (missing-there c.self.inside.manifests.entries c.args.self.now c.self.view_is
    c.args.manifest.now (sym c.in-None.ensures.value))
