use Rattle.an_lines.proofs.turn.write.Goals as goal

pub returns-in-Ok : goal.returns-in-Ok
returns-in-Ok c = rw (← c.writer-caller.ensures, c.in-Ok.ensures.decided) c.apply.ensures
