use Rattle.an_cases.proofs.seats.play_seats.Given as goal

abbrev pub ghosts-at_opened : goal.ghosts-at_opened
ghosts-at_opened g a = record { book = a.opened.book }
