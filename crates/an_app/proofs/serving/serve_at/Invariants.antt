use Rattle.an_app.proofs.serving.serve_at.Given as goal

abbrev pub ghosts-serve_opened : goal.ghosts-serve_opened
ghosts-serve_opened g a = record { book = a.opened.book }
