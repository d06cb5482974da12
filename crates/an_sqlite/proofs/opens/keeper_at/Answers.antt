use Rattle.sqlite.specs.Files.{file_state, over_files}
use Rattle.an_sqlite.specs.Connecting.{told_in}
use Rattle.an_sqlite.proofs.PlaceLemmas.{clean_in, none_clean, tells_begins}
use Rattle.an_sqlite.proofs.opens.keeper_at.Goals as goal

pub returns-in-Ok : goal.returns-in-Ok
returns-in-Ok g c = record {
  tells = λ clean cells holds.
      let its =
      clean_in over_files c.adopt.result.place c.in-Ok.conn c.adopt.ensures.connection clean in
      tells_begins (file_state c.in-Ok.conn) cells (told_in over_files c.adopt.result.place)
      c.adopt.ensures.tells c.adopt.ensures.tells_found its
      (c.in-Ok.ensures.opened its) c.in-Ok.ensures.settled (c.in-Ok.ensures.finds its cells holds);
}

pub returns-in-Err : goal.returns-in-Err
returns-in-Err g c = record {
  tells =
      λ clean cells holds.
      absurd (none_clean over_files c.refused.result.place c.refused.ensures.connection clean);
}
