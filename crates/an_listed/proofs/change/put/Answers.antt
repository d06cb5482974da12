use Rattle.an_listed.proofs.change.put.Goals as goal

pub returns-in-Some-clause-rest : goal.returns-in-Some-clause-rest
returns-in-Some-clause-rest c =
    λ rest enough. c.put_all.ensures.rest rest (rw c.in-Some.is at enough)
