use Rattle.std.proofs.Common.{◌≡◌, ◌+◌, drop, option_map}
use Rattle.an_message.specs.Framing.{head_length}
use Rattle.an_message.proofs.head.head_end.Given as goal

abbrev pub invariant-loop-at : goal.invariant-loop-at
invariant-loop-at l =
    option_map (λ n. l.from + n) (head_length (drop l.from l.bytes))
    ≡ option_map (λ n. l.at + n) (head_length (drop l.at l.bytes))
