use Rattle.std.proofs.Common.{None, arith}
use Rattle.sqlite.specs.Held.{state}
use Rattle.sqlite.specs.State.{HasCleanDisk}
use Rattle.an_keep.specs.Cells.{put_changes}
use Rattle.an_sqlite.proofs.AheadLemmas.{still_next}
use Rattle.an_sqlite.proofs.FirstLemmas.{commits, stays_failed, on_ok, on_err}
use Rattle.an_sqlite.proofs.base.Base.commit.Goals as goal

pub returns-clause-done : goal.returns-clause-done
returns-clause-done g c clean cells held =
    let mid = state g.S.Store c.make.new.self.conn in
    let new = state g.S.Store c.commit.new.conn in
    let early : HasCleanDisk mid = omega (arith, c.commit.ensures.clean, clean) in
    let made = c.in_ok-make.ensures.made early cells (held.0, tt) in
    let changed = put_changes c.args.changes.now cells in
    let next = still_next None c.make.new.self.ahead changed tt c.in_ok-make.ensures.ahead in
    on_ok c.commit.result (λ done.
    (commits mid new c.make.new.self.is_made c.args.changes.now cells made (λ _. done), next))
    (c.commit.ensures.done clean made.0)

pub returns-clause-still : goal.returns-clause-still
returns-clause-still g c clean is_open cells held =
    let mid = state g.S.Store c.make.new.self.conn in
    let new = state g.S.Store c.commit.new.conn in
    let early : HasCleanDisk mid = omega (arith, c.commit.ensures.clean, clean) in
    let made = c.in_ok-make.ensures.made early cells (held.0, tt) in
    let next = still_next None c.make.new.self.ahead cells tt c.in_ok-make.ensures.ahead in
    on_err c.commit.result
    (λ is. (stays_failed mid new c.make.new.self.is_made cells made is, next))
    (c.commit.ensures.still clean is_open)
