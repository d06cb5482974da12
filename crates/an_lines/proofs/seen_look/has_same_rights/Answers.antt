use Rattle.std.proofs.lemmas.Slice.Eq.{bytes_eq-Decides, slice_eq-Decides}
use Rattle.an_lines.proofs.seen_look.has_same_rights.Goals as goal

pub returns-then-eq-clause-groups : goal.returns-then-eq-clause-groups
returns-then-eq-clause-groups c = (slice_eq-Decides bytes_eq-Decides _ _ _ c.eq-then-eq.ensures).0
