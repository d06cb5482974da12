use Rattle.an_cases.proofs.failing.at_store.Given as goal

abbrev pub ghosts-at_opened : goal.ghosts-at_opened
ghosts-at_opened g a = record { book = a.opened.book }
