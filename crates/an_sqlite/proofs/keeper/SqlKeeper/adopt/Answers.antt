use Rattle.std.proofs.Common.{IsSome, subst, ◌∙◌}
use Rattle.sqlite.specs.Held.{state}
use Rattle.an_keep.specs.Keeper.{Told}
use Rattle.an_sqlite.proofs.FoundLemmas.{tells_none, tells_table, told_of, told_settled}
use Rattle.an_sqlite.proofs.PlaceLemmas.{first_begins}
use Rattle.an_sqlite.proofs.ToldLemmas.{told_first}
use Rattle.an_sqlite.proofs.keeper.SqlKeeper.adopt.Goals as goal

pub returns-clause-tells : goal.returns-clause-tells
returns-clause-tells g c none settled well =
    told_first g.S.Store c.new.result.came.value c.args.connection c.new.result.base
    c.new.ensures.came c.new.ensures.base
    ∙ tells_none (state g.S.Store c.args.connection) none settled well

pub returns-clause-tells_found : goal.returns-clause-tells_found
returns-clause-tells_found g c tells settled well =
    told_first g.S.Store c.new.result.came.value c.args.connection c.new.result.base
    c.new.ensures.came c.new.ensures.base
    ∙ tells_table (state g.S.Store c.args.connection) tells settled well

pub returns-clause-told : goal.returns-clause-told
returns-clause-told g c some =
    let first =
    told_first g.S.Store c.new.result.came.value c.args.connection c.new.result.base
    c.new.ensures.came c.new.ensures.base in
    told_of (state g.S.Store c.args.connection) c.new.ensures.live
    (subst (λ (told : Told). IsSome told) first some)

pub returns-clause-settled : goal.returns-clause-settled
returns-clause-settled g c some =
    let first =
    told_first g.S.Store c.new.result.came.value c.args.connection c.new.result.base
    c.new.ensures.came c.new.ensures.base in
    told_settled (state g.S.Store c.args.connection)
    (subst (λ (told : Told). IsSome told) first some)

pub returns-clause-begins : goal.returns-clause-begins
returns-clause-begins g c cells begins =
    first_begins g.S.Store c.new.result.came.value c.args.connection c.new.result.base cells
    c.new.ensures.came c.new.ensures.base begins
