use Rattle.std.proofs.Common.{◌≡◌, drop}
use Rattle.std.specs.List.{list_any}
use Rattle.an_base.specs.TextSet.{has_text}
use Rattle.an_search.proofs.pieces.has_one_of.Given as goal

-- none so far is among the others
abbrev pub invariant-loop-place : goal.invariant-loop-place
invariant-loop-place l =
    list_any (λ text. has_text text l.others) l.texts
    ≡ list_any (λ text. has_text text l.others) (drop l.place l.texts)
