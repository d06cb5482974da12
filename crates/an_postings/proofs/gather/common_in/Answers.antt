use Rattle.std.proofs.Common.{ℕ, List, Bor, ap, ◌∙◌}
use Rattle.std.proofs.lemmas.Result.{IfOk-weaker}
use Rattle.std.specs.List.{flat_map}
use Rattle.std.specs.Prelude.{filter}
use Rattle.an_slots.specs.Places.{ascending, has}
use Rattle.an_postings.specs.Gather.{places_of_run}
use Rattle.an_postings.proofs.GatherLemmas.{picked_are}
use Rattle.an_postings.proofs.gather.common_in.Goals as goal

pub returns : goal.returns
returns c =
    let same =
    ap (λ (l : List (Bor (List ℕ))). ascending (flat_map (λ (l : Bor (List ℕ)). l.now) l))
    c.as_slice-2.ensures.value
    ∙ ap ascending (c.in_ok-slices.ensures.slices
    ∙ ap (flat_map places_of_run) c.as_slice.ensures.value ∙ c.in_ok-chosen.ensures.chosen)
    ∙ picked_are c.args.lists.now c.args.classes.now c.requires.ordered in
    let common =
    ap (λ (others : List ℕ). filter (λ place. has place others) c.args.places.now) same in
    record {
      common =
          IfOk-weaker c.common_among.result _ _ (λ p h. h ∙ common) c.common_among.ensures.common;
    }
