use Rattle.std.proofs.Common.{◌≡◌, ◌++◌, drop, map}
use Rattle.httparse.specs.Spans.{header_bytes}
use Rattle.an_message.specs.Framing.{values_of}
use Rattle.an_message.proofs.fields.values_in.Given as goal

abbrev pub invariant-loop-field : goal.invariant-loop-field
invariant-loop-field l =
    map (λ value. value.now) l.values.items
    ++ values_of l.name (map (header_bytes l.text) (drop l.field-index l.fields))
    ≡ values_of l.name (map (header_bytes l.text) l.fields)
