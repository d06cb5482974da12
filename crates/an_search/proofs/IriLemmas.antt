-- Where an IRI begins in a piece of a query.
use Rattle.std.proofs.Common.{◌≡◌, ℕ, ◌+◌, ◌<◌, suc, List, ◌-◌, length, take, drop, true, false, ◌||◌, nat_eq, codes, ap, ◌∙◌, drop-cons, add-one}
use Rattle.std.proofs.lemmas.List.{take_rest}
use Rattle.std.specs.List.{starts_with}
use Rattle.an_search.specs.Wanted.{is_iri}

-- no IRI begins at this place
pub is_iri_next : (bytes : List ℕ) (at : ℕ) → at < length bytes
    → starts_with nat_eq (take (length bytes - at) (drop at bytes)) (codes "://") ≡ false
    → is_iri bytes ≡ is_iri (drop at bytes) → is_iri bytes ≡ is_iri (drop (at + 1) bytes)
is_iri_next bytes at within none so_far =
    let front = drop-cons bytes at 0 within in
    let here = rw take_rest at none in
    so_far
    ∙ rw (add-one, front) (ap (λ test. test || is_iri (drop (suc at) bytes)) (rw front at here))

-- one begins there
pub is_iri_here : (bytes : List ℕ) (at : ℕ) → at < length bytes
    → starts_with nat_eq (take (length bytes - at) (drop at bytes)) (codes "://") ≡ true
    → is_iri bytes ≡ is_iri (drop at bytes) → is_iri bytes ≡ true
is_iri_here bytes at within begins so_far =
    let front = drop-cons bytes at 0 within in
    let here = rw take_rest at begins in
    so_far ∙ rw front (ap (λ test. test || is_iri (drop (suc at) bytes)) (rw front at here))
