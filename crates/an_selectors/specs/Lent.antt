-- For private clauses: what a tree lends of a selector, as the selector.
use Rattle.std.specs.Prelude.{option_map}
use Rattle.an_selectors.specs.declared.lent.Lent.{Lent}
use Rattle.an_selectors.specs.declared.lent.Lent.TheVariants as lent
use Rattle.an_selectors.specs.declared.selector.Selector.{Selector}
use Rattle.an_selectors.specs.declared.selector.Selector.TheVariants.{Fragment, Quote, Position}
use Rattle.an_selectors.specs.declared.selector.Selector.TheVariants.{Other}

-- the selector that owns what is lent
abbrev pub owned : Lent → Selector
owned (lent.Fragment value conforms) = Fragment value.now (option_map (λ text. text.now) conforms)
owned (lent.Quote exact prefix suffix) = Quote exact.now prefix.now suffix.now
owned (lent.Position start end) = Position start end
owned lent.Other = Other
