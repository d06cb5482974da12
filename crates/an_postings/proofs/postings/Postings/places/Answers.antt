use Rattle.std.proofs.Common.{ℕ, List, sym, ap, ◌∙◌}
use Rattle.std.specs.List.{flat_map}
use Rattle.an_slots.specs.Places.{ascending}
use Rattle.an_slots.specs.Texts.{under}
use Rattle.an_slots.proofs.NestLemmas.{found-there, missing-there}
use Rattle.an_postings.specs.declared.class_postings.ClassPostings.{ClassPostings}
use Rattle.an_postings.specs.Lists.{places_at}
use Rattle.an_postings.proofs.GatherLemmas.{flat-none}
use Rattle.std.proofs.lemmas.Result.{IfOk-weaker}
use Rattle.an_postings.proofs.postings.Postings.places.Goals as goal

pub returns-in-Some : goal.returns-in-Some
returns-in-Some c = record {
  places =
      IfOk-weaker c.places.result _ _
      (λ p h. h
      ∙ ap (λ (l : List (List ℕ × List ClassPostings)).
      ascending (flat_map (places_at (under c.args.term.now l)) c.args.classes.now))
      (sym (found-there c.self.inside.manifests.entries c.args.self.now c.self.view_is
      c.args.manifest.now c.in-Some.terms.now (sym c.in-Some.ensures.value))))
      c.places.ensures.places;
}

pub returns-in-None : goal.returns-in-None
returns-in-None c = record {
  places =
      c.new.ensures.items ∙ sym (flat-none c.args.classes.now)
      ∙ ap (λ (l : List (List ℕ × List ClassPostings)).
      ascending (flat_map (places_at (under c.args.term.now l)) c.args.classes.now))
      (sym (missing-there c.self.inside.manifests.entries c.args.self.now c.self.view_is
      c.args.manifest.now (sym c.in-None.ensures.value)));
}
