use Rattle.std.proofs.Common.{List, sym, ap, ◌∙◌}
use Rattle.std.specs.List.{flat_map}
use Rattle.an_slots.specs.Places.{ascending}
use Rattle.an_slots.proofs.NestLemmas.{found-there, missing-there}
use Rattle.an_postings.specs.declared.class_postings.ClassPostings.{ClassPostings}
use Rattle.an_postings.specs.Lists.{places_at}
use Rattle.an_postings.proofs.GatherLemmas.{flat-none}
use Rattle.std.proofs.lemmas.Result.{IfOk-weaker}
use Rattle.an_postings.proofs.SoughtLemmas.{found_by, sought_as_text}
use Rattle.an_postings.proofs.manifest_postings.ManifestPostings.places.Goals as goal

pub returns-in-Some : goal.returns-in-Some
returns-in-Some c =
    let same =
    sought_as_text c.of.result.head c.of.result.text.now c.args.term.now c.of.ensures.head
    c.of.ensures.text c.utf8.term in
    record {
      places =
          IfOk-weaker c.places.result _ _
          (λ p h. h
          ∙ ap (λ (l : List ClassPostings). ascending (flat_map (places_at l) c.args.classes.now))
          (sym (found-there c.self.inside.terms.entries c.args.self.now
          c.self.view_is c.args.term.now c.in-Some.postings.now
          (found_by same _ _ (sym c.in-Some.ensures.value))))) c.places.ensures.places;
    }

pub returns-in-None : goal.returns-in-None
returns-in-None c =
    let same =
    sought_as_text c.of.result.head c.of.result.text.now c.args.term.now c.of.ensures.head
    c.of.ensures.text c.utf8.term in
    record {
      places =
          c.new.ensures.items ∙ sym (flat-none c.args.classes.now)
          ∙ ap (λ (l : List ClassPostings). ascending (flat_map (places_at l) c.args.classes.now))
          (sym (missing-there c.self.inside.terms.entries c.args.self.now c.self.view_is
          c.args.term.now (found_by same _ _ (sym c.in-None.ensures.value))));
    }
