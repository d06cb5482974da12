use Rattle.std.proofs.Common.{IfSome, IsTrue, false, map, string_bytes}
use Rattle.an_app.specs.Outside.{outside_of}
use Rattle.an_app.specs.Runs.{Runs}
use Rattle.an_base.specs.Faults.{Rises}
use Rattle.an_app.specs.Form.{form_of}
use Rattle.an_keep.specs.Keeper.{Told}
use Rattle.an_session.specs.Session.{line}
use Rattle.an_sqlite.specs.Connecting.{told_in}
use Rattle.an_sqlite.proofs.PlaceLemmas.{told_clean}
use Rattle.sqlite.specs.Files.{over_files}
use Rattle.anno.proofs.filed.run_at.Goals as goal

pub returns : goal.returns
returns g c = record {
  found = λ cells holds some.
      let after = told_in over_files c.run_kept.result.keeper.place in
      let old = c.args.link.now in
      let new = c.run_kept.new.link in
      told_clean over_files c.keeper_for-keeper.result.place
      (λ (told : Told). IfSome (form_of (map string_bytes c.args.words.now)) (Runs
      (outside_of told after (¬ (IsTrue false))
      (Rises (g.L.Link.read_faults old) (g.L.Link.read_faults new))
      (Rises (g.L.Link.write_faults old) (g.L.Link.write_faults new)))
      (record { tally = c.run_kept.new.door.tally; faults = c.run_kept.new.door.faults })
      (g.C.Clock.answers c.args.clock.now)
      (line (g.L.Link.traffic old) (g.L.Link.read_faults old) (g.L.Link.write_faults old))
      (line (g.L.Link.traffic new) (g.L.Link.read_faults new) (g.L.Link.write_faults new))
      c.run_kept.result.status))
      cells c.run_kept.ensures.runs (c.run_kept.ensures.never some)
      (λ clean. c.keeper_for-keeper.ensures.tells clean cells holds);
}
