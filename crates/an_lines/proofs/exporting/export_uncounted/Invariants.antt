use Rattle.an_lines.proofs.exporting.export_uncounted.Given as goal

-- the ledger of the blank
abbrev pub ghosts-export_from : goal.ghosts-export_from
ghosts-export_from g a = record { name = a.blank.name; parts = a.blank.parts }
