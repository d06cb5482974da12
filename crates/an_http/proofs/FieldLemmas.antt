-- What the loop over the bytes of a value keeps.
use Rattle.std.proofs.Common.{◌≡◌, ℕ, ◌+◌, ◌-◌, ◌<◌, List, length, take, drop, false, ◌||◌, ap, ◌∙◌, suc, add-one, drop-cons}
use Rattle.std.proofs.lemmas.List.{take_rest}
use Rattle.an_http.specs.declared.fields.Case.{Case}
use Rattle.an_http.specs.Fields.{begins, says}

-- the word doesn't begin at this place
pub says-next : (case : Case) (word bytes : List ℕ) (at : ℕ) → at < length bytes
    → begins case word (take (length bytes - at) (drop at bytes)) ≡ false
    → says case word bytes ≡ says case word (drop at bytes)
    → says case word bytes ≡ says case word (drop (at + 1) bytes)
says-next case word bytes at within none so_far =
    let front = drop-cons bytes at 0 within in
    let here = rw take_rest at none in
    so_far
    ∙ rw (add-one, front)
    (ap (λ test. test || says case word (drop (suc at) bytes)) (rw front at here))
