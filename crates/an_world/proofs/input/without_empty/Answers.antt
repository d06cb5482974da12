use Rattle.std.proofs.Common.{rules, nat_lt}
use Rattle.std.proofs.lemmas.List.Elements.{filter_from_retain}
use Rattle.an_world.proofs.input.without_empty.Goals as goal

pub returns : goal.returns
returns c =
    filter_from_retain _ (nat_lt 0) (λ p x b q h. search rules) _ _ _ c.retain.ensures.filtered
