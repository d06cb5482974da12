use Rattle.std.proofs.Common.{rules, ◌∙◌}
use Rattle.std.proofs.lemmas.List.Sorted.{answers_always}
use Rattle.an_slots.proofs.PlacesLemmas.{among}
use Rattle.an_postings.proofs.places.is_in.Goals as goal

pub returns : goal.returns
returns c = λ rises.
    let found =
    c.binary_search_by_key.ensures.position (λ own. own)
    (answers_always _ _ _ (λ f a r g called. search rules)) in
    c.is_ok.ensures.value
    ∙ among c.args.places.now c.args.place c.binary_search_by_key.result rises found
