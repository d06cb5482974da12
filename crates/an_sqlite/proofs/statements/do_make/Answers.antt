use Rattle.std.proofs.Common.{◌≡◌, rules}
use Rattle.an_sqlite.proofs.ChangeLemmas.{still_there}
use Rattle.an_sqlite.proofs.statements.do_make.Goals as goal

pub returns-in_err-commit-clause-still : goal.returns-in_err-commit-clause-still
returns-in_err-commit-clause-still g c clean is_open =
    let old = c.args.conn.now in
    let mid = c.make_in.new.tx.conn.now in
    let end = c.commit.new.self.0 in
    let same : end ≡ c.conn-2-1.given.0 = search rules in
    search (rules, still_there)
