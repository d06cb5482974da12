use Rattle.an_routes.proofs.SendableLemmas.{routes-sendable}
use Rattle.an_calls.proofs.twin_calls.write_in.Goals as goal

pub returns-in-Ok-Write : goal.returns-in-Ok-Write
returns-in-Ok-Write c =
    let is = rw c.in-Ok-Write.field-0-is at c.in-Ok-Write.ensures.route in
    routes-sendable _ _ _ is
