use Rattle.an_calls.proofs.differences.differences.Given as goal

-- the ledger of the blank
abbrev pub ghosts-compare_rows : goal.ghosts-compare_rows
ghosts-compare_rows a = record { name = a.blank.name; parts = a.blank.parts }
