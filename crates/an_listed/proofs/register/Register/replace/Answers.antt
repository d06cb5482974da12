use Rattle.an_listed.proofs.AlikeLemmas.{stands-alike}
use Rattle.an_listed.proofs.register.Register.replace.Goals as goal

pub returns-then-is_alike-clause-stands : goal.returns-then-is_alike-clause-stands
returns-then-is_alike-clause-stands c =
    stands-alike c.args.rows.now c.args.place c.index-rows-place.result
    c.args.row.now c.requires.place c.index-rows-place.is
    (c.is_alike.ensures.alike c.if-is_alike.true) c.args.self.now c.requires.stands
