use Rattle.an_answers.proofs.uncounted.answer_uncounted.Given as goal

-- the ledger of the blank
abbrev pub ghosts-answer_from : goal.ghosts-answer_from
ghosts-answer_from g a = record { name = a.blank.name; parts = a.blank.parts }
