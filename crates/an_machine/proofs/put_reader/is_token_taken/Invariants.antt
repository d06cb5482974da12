use Rattle.std.proofs.Common.{◌≡◌, ◌-◌, drop, length}
use Rattle.std.specs.List.{filter_map, list_any}
use Rattle.an_machine.specs.Refusals.{is_taken_from, is_token_taken}
use Rattle.an_machine.proofs.put_reader.is_token_taken.Given as goal

-- the answer for the rows that are left is the answer for all
abbrev pub invariant-marked : goal.invariant-marked
invariant-marked l =
    list_any (is_taken_from l.name l.token)
    (filter_map (λ row. row.live) (drop l.start l.book.state.readers))
    ≡ is_token_taken l.book.state l.name l.token

abbrev pub decreases-marked : goal.decreases-marked
decreases-marked l = length l.book.state.readers - l.start
