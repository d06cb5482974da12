use Rattle.an_app.proofs.serving.serve.Goals as goal

pub serve_since-requires-clause-seats : goal.serve_since-requires-clause-seats
serve_since-requires-clause-seats g c =
    λ κs outlives k d within. (c.requires.seats k d within, λ list all. all k d within)

pub returns-clause-closes : goal.returns-clause-closes
returns-clause-closes g c = c.serve_since.ensures.closes
