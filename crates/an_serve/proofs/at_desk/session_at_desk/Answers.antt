use Rattle.an_serve.proofs.DeskLemmas.{desk-connection, desk-reads}
use Rattle.an_serve.proofs.at_desk.session_at_desk.Goals as goal

pub returns-clause-session : goal.returns-clause-session
returns-clause-session g c = desk-connection _ _ _ _ _ _ _ _ c.serve_link-ended.ensures.session

pub returns-clause-bounded : goal.returns-clause-bounded
returns-clause-bounded g c =
    let before = c.stands.ensures in
    desk-reads _ _ _ _ _ _ _ _
    (record { cells_are = before.cells; valid = before.valid; sound = before.sound })
    c.serve_link-ended.ensures.session
