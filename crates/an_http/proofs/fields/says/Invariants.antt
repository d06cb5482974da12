use Rattle.std.proofs.Common.{◌≡◌, drop}
use Rattle.an_http.specs.Fields.{says}
use Rattle.an_http.proofs.fields.says.Given as goal

abbrev pub invariant-loop-at : goal.invariant-loop-at
invariant-loop-at l = says l.case l.word l.bytes ≡ says l.case l.word (drop l.at l.bytes)
