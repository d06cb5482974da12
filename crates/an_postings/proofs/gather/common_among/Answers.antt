use Rattle.std.proofs.Common.{ℕ, List, Bor, ap, subst, sym, ◌∙◌}
use Rattle.std.proofs.lemmas.Result.{IfOk-weaker}
use Rattle.std.specs.List.{flat_map}
use Rattle.std.specs.Prelude.{filter}
use Rattle.an_slots.proofs.PlacesLemmas.{Rises-ascending}
use Rattle.an_slots.specs.Places.{Rises, has}
use Rattle.an_postings.proofs.GatherLemmas.{one_list}
use Rattle.an_postings.proofs.gather.common_among.Goals as goal

pub returns-then-count-eq1 : goal.returns-then-count-eq1
returns-then-count-eq1 c =
    let same =
    ap (λ (others : List ℕ). filter (λ place. has place others) c.args.places.now)
    (sym (one_list c.args.lists.now _ c.if-count-eq1.true c.requires.rise)) in
    record { common = IfOk-weaker c.common.result _ _ (λ p h. h ∙ same) c.common.ensures.common }

pub common-requires-2-clause-others : goal.common-requires-2-clause-others
common-requires-2-clause-others c =
    subst (Rises 0) (sym (c.as_slice.ensures.value ∙ c.in_ok-others.ensures.places))
    (Rises-ascending (flat_map (λ (l : Bor (List ℕ)). l.now) c.args.lists.now))
