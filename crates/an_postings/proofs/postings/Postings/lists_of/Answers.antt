use Rattle.std.proofs.Common.{List, ℕ, sym, ap, ◌∙◌}
use Rattle.an_slots.specs.Texts.{under}
use Rattle.an_slots.proofs.NestLemmas.{found-there, missing-there}
use Rattle.an_postings.specs.declared.class_postings.ClassPostings.{ClassPostings}
use Rattle.an_postings.proofs.postings.Postings.lists_of.Goals as goal

pub returns-in-Some-clause-lists : goal.returns-in-Some-clause-lists
returns-in-Some-clause-lists c =
    c.lists_of.ensures.lists
    ∙ ap (λ (l : List (List ℕ × List ClassPostings)). under c.args.term.now l)
    (sym (found-there c.self.inside.manifests.entries c.args.self.now c.self.view_is
    c.args.manifest.now c.in-Some.terms.now (sym c.in-Some.ensures.value)))

pub returns-in-None-clause-lists : goal.returns-in-None-clause-lists
returns-in-None-clause-lists c =
    ap (λ (l : List (List ℕ × List ClassPostings)). under c.args.term.now l)
    (sym (missing-there c.self.inside.manifests.entries c.args.self.now c.self.view_is
    c.args.manifest.now (sym c.in-None.ensures.value)))
