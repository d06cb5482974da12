use Rattle.std.specs.Str.Iter.{chars_rest}
use Rattle.an_selectors.specs.Walk.{IsRestOf}
use Rattle.an_selectors.proofs.cut.rest_behind.Given as goal

abbrev pub invariant-loop : goal.invariant-loop
invariant-loop l = IsRestOf l.text l.counter (chars_rest l.rest)
