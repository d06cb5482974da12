use Rattle.std.proofs.Common.{ℕ, List, sym, ap, ◌∙◌}
use Rattle.std.proofs.lemmas.Result.{IfOk-weaker, on_ok_weaker}
use Rattle.an_slots.proofs.NestLemmas.{found-there, missing-there}
use Rattle.an_postings.specs.declared.class_postings.ClassPostings.{ClassPostings}
use Rattle.an_postings.specs.Totals.{told_from}
use Rattle.std.specs.List.Sorted.{IsStrictlySortedBy}
use Rattle.an_postings.proofs.postings.Postings.from_prefix.Goals as goal

pub returns-in-Some-clause-told : goal.returns-in-Some-clause-told
returns-in-Some-clause-told c =
    IfOk-weaker c.from_prefix.result _ _
    (λ p h. h
    ∙ ap
    (λ (l : List (List ℕ × List ClassPostings)). told_from c.args.prefix.now c.args.classes.now l)
    (sym (found-there c.self.inside.manifests.entries c.args.self.now c.self.view_is
    c.args.manifest.now c.in-Some.terms.now (sym c.in-Some.ensures.value))))
    c.from_prefix.ensures.told

pub returns-in-Some-clause-ascending : goal.returns-in-Some-clause-ascending
returns-in-Some-clause-ascending c =
    on_ok_weaker c.from_prefix.result
    (λ h. rw (found-there c.self.inside.manifests.entries c.args.self.now c.self.view_is
    c.args.manifest.now c.in-Some.terms.now (sym c.in-Some.ensures.value)) h)
    c.from_prefix.ensures.ascending

pub returns-in-None-clause-told : goal.returns-in-None-clause-told
returns-in-None-clause-told c =
    c.new.ensures.items
    ∙ ap
    (λ (l : List (List ℕ × List ClassPostings)). told_from c.args.prefix.now c.args.classes.now l)
    (sym (missing-there c.self.inside.manifests.entries c.args.self.now c.self.view_is
    c.args.manifest.now (sym c.in-None.ensures.value)))

pub returns-in-None-clause-ascending : goal.returns-in-None-clause-ascending
unfolding IsStrictlySortedBy
returns-in-None-clause-ascending c =
    rw (missing-there c.self.inside.manifests.entries c.args.self.now c.self.view_is
    c.args.manifest.now (sym c.in-None.ensures.value)) tt
