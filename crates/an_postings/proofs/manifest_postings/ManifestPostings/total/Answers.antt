use Rattle.std.proofs.Common.{List, sym, ap, ◌∙◌}
use Rattle.std.specs.List.{sum_by}
use Rattle.an_base.specs.Totals.{capped}
use Rattle.an_slots.proofs.NestLemmas.{found-there, missing-there}
use Rattle.an_postings.specs.declared.class_postings.ClassPostings.{ClassPostings}
use Rattle.an_postings.specs.Lists.{count_at}
use Rattle.an_postings.proofs.SumsOverClasses.{total_none}
use Rattle.an_postings.proofs.SoughtLemmas.{found_by, sought_as_text}
use Rattle.an_postings.proofs.manifest_postings.ManifestPostings.total.Goals as goal

pub returns-in-Some : goal.returns-in-Some
returns-in-Some c =
    let same =
    sought_as_text c.of.result.head c.of.result.text.now c.args.term.now c.of.ensures.head
    c.of.ensures.text c.utf8.term in
    record {
      total =
          c.total.ensures.total
          ∙ ap (λ (l : List ClassPostings). capped (sum_by (count_at l) c.args.classes.now))
          (sym (found-there c.self.inside.terms.entries c.args.self.now
          c.self.view_is c.args.term.now c.in-Some.postings.now
          (found_by same _ _ (sym c.in-Some.ensures.value))));
    }

pub returns-in-None : goal.returns-in-None
returns-in-None c =
    let same =
    sought_as_text c.of.result.head c.of.result.text.now c.args.term.now c.of.ensures.head
    c.of.ensures.text c.utf8.term in
    record {
      total =
          total_none c.args.classes.now
          ∙ ap (λ (l : List ClassPostings). capped (sum_by (count_at l) c.args.classes.now))
          (sym (missing-there c.self.inside.terms.entries c.args.self.now c.self.view_is
          c.args.term.now (found_by same _ _ (sym c.in-None.ensures.value))));
    }
