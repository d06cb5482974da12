use Rattle.std.proofs.Common.{◌≡◌, drop}
use Rattle.an_model.specs.Targets.{fragment_of}
use Rattle.an_model.proofs.target.fragment_of.Given as goal

-- the answer for the selectors that are left is the answer for all
abbrev pub invariant-loop-selector : goal.invariant-loop-selector
invariant-loop-selector l =
    fragment_of l.iri (drop l.selector-index l.selectors) ≡ fragment_of l.iri l.selectors
