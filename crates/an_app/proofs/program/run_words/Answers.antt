use Rattle.std.proofs.Common.{refl, string_bytes}
use Rattle.std.specs.Prelude.{map}
use Rattle.an_session.specs.Session.{line}
use Rattle.an_app.specs.Form.{form_of}
use Rattle.an_app.proofs.RunLemmas.{Misunderstands-nothing_read, ReadsInput-nothing_read, Runs-nothing_read, none-holds}
use Rattle.an_app.proofs.program.run_words.Goals as goal

pub returns-in-Err-clause-understood : goal.returns-in-Err-clause-understood
returns-in-Err-clause-understood g c =
    Runs-nothing_read _ _ _ (line (g.L.Link.traffic c.args.link.now)
    (g.L.Link.read_faults c.args.link.now) (g.L.Link.write_faults c.args.link.now))
    (form_of (map string_bytes c.args.words.now)) refl

pub returns-in-Err-clause-misunderstood : goal.returns-in-Err-clause-misunderstood
returns-in-Err-clause-misunderstood g c =
    Misunderstands-nothing_read _ (g.L.Link.traffic c.args.link.now)
    (form_of (map string_bytes c.args.words.now))

pub returns-in-Err-clause-bounded : goal.returns-in-Err-clause-bounded
returns-in-Err-clause-bounded g c =
    ReadsInput-nothing_read (g.L.Link.traffic c.args.link.now)
    (form_of (map string_bytes c.args.words.now))

pub returns-in-Err-clause-untouched : goal.returns-in-Err-clause-untouched
returns-in-Err-clause-untouched g c =
    none-holds (form_of (map string_bytes c.args.words.now)) _ refl
