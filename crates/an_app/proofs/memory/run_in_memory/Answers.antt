use Rattle.std.proofs.Common.{refl, string_bytes}
use Rattle.std.specs.Prelude.{map}
use Rattle.an_app.specs.Form.{form_of}
use Rattle.an_app.proofs.Exact.{run-damaged, run-stands}
use Rattle.an_app.proofs.memory.run_in_memory.Goals as goal

pub returns-clause-damaged : goal.returns-clause-damaged
returns-clause-damaged g c =
    λ tab key is.
    run-damaged _ _ _ _ _ _ refl refl (form_of (map string_bytes c.args.words.now)) _ tab key
    c.run.ensures.understood c.run.ensures.misunderstood is

pub returns-clause-stands : goal.returns-clause-stands
returns-clause-stands g c =
    run-stands _ _ _ _ _ _ refl refl (form_of (map string_bytes c.args.words.now)) _
    c.run.ensures.understood
