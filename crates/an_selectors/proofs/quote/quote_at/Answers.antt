use Rattle.std.proofs.Common.{◌∙◌, ap}
use Rattle.std.specs.Str.{chars}
use Rattle.an_selectors.proofs.QuoteLemmas.{quote_of_parts, Contains-parts}
use Rattle.an_selectors.proofs.quote.quote_at.Goals as goal

pub returns-clause-quote : goal.returns-clause-quote
returns-clause-quote c =
    quote_of_parts c.args.text.now c.args.span c.args.around c.saturating_sub.result c.min.result
    _ _ _ c.requires.lies_in.0 c.saturating_sub.ensures c.min.ensures c.cut_behind.ensures.back
    c.cut_behind-2.ensures.back c.cut_behind-3.ensures.back
    _ _ _ (c.in_ok-new.ensures.value ∙ c.cut_behind-3.ensures.text)
    (c.in_ok-new-2.ensures.value ∙ c.cut_behind-2.ensures.text)
    (c.in_ok-new-3.ensures.value ∙ c.cut_behind-4.ensures.text)

pub returns-clause-selected : goal.returns-clause-selected
returns-clause-selected c some =
    Contains-parts c.args.text.now c.args.span c.args.around c.saturating_sub.result c.min.result
    _ _ _ c.requires.lies_in.0 c.saturating_sub.ensures c.min.ensures c.cut_behind.ensures.back
    c.cut_behind-2.ensures.back c.cut_behind-3.ensures.back
    _ _ _ some c.requires.lies_in.1
    (ap chars c.in_ok-new.ensures.value ∙ c.cut_behind-3.ensures.front)
    (ap chars c.in_ok-new-2.ensures.value ∙ c.cut_behind-2.ensures.front)
    (ap chars c.in_ok-new-3.ensures.value ∙ c.cut_behind-4.ensures.front)
