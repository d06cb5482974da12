use Rattle.std.proofs.Common.{length, take, ◌-◌, [], ◌∷◌, ap, ◌∙◌, arith, length-append}
use Rattle.std.proofs.lemmas.List.{take_at}
use Rattle.an_served.proofs.manifest.without_last.Goals as goal

pub returns : goal.returns
returns c front last is =
    c.pop.ensures.rest ∙ ap (λ t. take (c.args.text.len - 1) t) is
    ∙ take_at front (last ∷ []) _
    (omega (arith, ap length is, length-append front (last ∷ []), c.args.text.ok))
