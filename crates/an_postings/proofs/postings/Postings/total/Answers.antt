use Rattle.std.proofs.Common.{ℕ, List, sym, ap, ◌∙◌}
use Rattle.std.specs.List.{sum_by}
use Rattle.an_base.specs.Totals.{capped}
use Rattle.an_slots.specs.Texts.{under}
use Rattle.an_slots.proofs.NestLemmas.{found-there, missing-there}
use Rattle.an_postings.specs.declared.class_postings.ClassPostings.{ClassPostings}
use Rattle.an_postings.specs.Lists.{count_at}
use Rattle.an_postings.proofs.SumsOverClasses.{total_none}
use Rattle.an_postings.proofs.postings.Postings.total.Goals as goal

pub returns-in-Some : goal.returns-in-Some
returns-in-Some c = record {
  total =
      c.total.ensures.total
      ∙ ap (λ (l : List (List ℕ × List ClassPostings)).
      capped (sum_by (count_at (under c.args.term.now l)) c.args.classes.now))
      (sym (found-there c.self.inside.manifests.entries c.args.self.now c.self.view_is
      c.args.manifest.now c.in-Some.terms.now (sym c.in-Some.ensures.value)));
}

pub returns-in-None : goal.returns-in-None
returns-in-None c = record {
  total =
      total_none c.args.classes.now
      ∙ ap (λ (l : List (List ℕ × List ClassPostings)).
      capped (sum_by (count_at (under c.args.term.now l)) c.args.classes.now))
      (sym (missing-there c.self.inside.manifests.entries c.args.self.now c.self.view_is
      c.args.manifest.now (sym c.in-None.ensures.value)));
}
