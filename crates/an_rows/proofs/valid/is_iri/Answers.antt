use Rattle.std.proofs.Common.{ap, ◌∙◌}
use Rattle.an_rows.specs.Valid.{is_iri}
use Rattle.an_rows.proofs.QuickLemmas.{iri-is}
use Rattle.an_rows.proofs.valid.is_iri.Goals as goal

pub returns : goal.returns
returns c =
    c.is_user.ensures ∙ iri-is c.as_str.result.now c.as_str.utf8 ∙ ap is_iri c.as_str.ensures.value
