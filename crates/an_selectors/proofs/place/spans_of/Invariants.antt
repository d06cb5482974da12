use Rattle.std.proofs.Common.{◌-◌, length}
use Rattle.std.specs.Str.{chars}
use Rattle.an_selectors.proofs.PlaceLemmas.{HasCome}
use Rattle.an_selectors.proofs.place.spans_of.Given as goal

abbrev pub invariant-loop-found : goal.invariant-loop-found
invariant-loop-found l = HasCome l.whole l.text l.before l.width l.found.items l.last l.point

abbrev pub decreases-loop-found : goal.decreases-loop-found
decreases-loop-found l = length (chars l.text) - l.point.number
