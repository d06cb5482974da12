use Rattle.std.specs.Prelude.{All}
use mathlib.Core.List.{IsPrefix}
use Rattle.an_app.proofs.serving.serve.Given as goal

abbrev pub ghosts-serve_since : goal.ghosts-serve_since
ghosts-serve_since g a =
    record { since = λ first. All (λ seat. IsPrefix first seat.seen) a.seats.items }
