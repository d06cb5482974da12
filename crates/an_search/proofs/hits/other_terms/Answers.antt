use Rattle.std.proofs.Common.{ℕ, List, Bool, ◌&&◌, not, sym, ap, ◌∙◌}
use Rattle.std.proofs.lemmas.List.Sorted.{IsPermutation-map, list_any-IsPermutation}
use Rattle.std.specs.Prelude.{bytes_eq}
use Rattle.an_base.specs.TextSet.{ascending, has_text}
use Rattle.an_base.proofs.AscendLemmas.{has_text-ascending, has_text-filter}
use Rattle.an_search.specs.Found.{is_first}
use Rattle.an_search.proofs.hits.other_terms.Goals as goal

pub returns : goal.returns
returns g c = λ term.
    let terms = c.args.terms.now in
    let first : List ℕ → Bool = λ term. not (is_first term terms) in
    let moved =
    IsPermutation-map (λ other. other.term) _ _ c.sort_unstable_by_key.ensures.permutation in
    sym (list_any-IsPermutation (λ other. bytes_eq other term) _ _ moved)
    ∙ ap (has_text term) c.in_ok-others.ensures
    ∙ has_text-filter first term (ascending terms)
    ∙ ap (λ b. b && not (is_first term terms)) (has_text-ascending term terms)
