use Rattle.std.proofs.Common.{◌≡◌, drop, map}
use Rattle.an_http.specs.Fields.{any_says}
use Rattle.an_http.proofs.fields.any_says.Given as goal

abbrev pub invariant-loop-value : goal.invariant-loop-value
invariant-loop-value l = any_says l.case l.word (map (λ value. value.now) l.values)
    ≡ any_says l.case l.word (map (λ value. value.now) (drop l.value-index l.values))
