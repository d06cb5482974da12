use Rattle.std.proofs.Common.{rules, tests, ◌∙◌}
use Rattle.std.proofs.lemmas.Iterator.{YieldsList-from_slice}
use Rattle.std.proofs.lemmas.Iterator.Search.{find_from_yields_List}
use Rattle.std.specs.Prelude.{bytes_eq}
use Rattle.an_code.specs.Code.{parameter_text}
use Rattle.an_query.proofs.given.parameter_in.Goals as goal

pub returns : goal.returns
returns c =
    c.copied.ensures
    ∙ find_from_yields_List (λ p. bytes_eq (parameter_text p) c.args.name.now) _ _
    c.find.result c.find.ensures.ran (YieldsList-from_slice c.args.reads.now (cc))
    (λ x b q k. search (rules, tests))
