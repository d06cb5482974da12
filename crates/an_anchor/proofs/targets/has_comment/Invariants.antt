use Rattle.std.proofs.Common.{◌≡◌, drop}
use Rattle.std.specs.List.{list_any}
use Rattle.an_anchor.specs.Walk.{is_kept_comment}
use Rattle.an_anchor.proofs.targets.has_comment.Given as goal

abbrev pub invariant-loop-target : goal.invariant-loop-target
invariant-loop-target l =
    list_any (is_kept_comment l.base) l.targets
    ≡ list_any (is_kept_comment l.base) (drop l.target-index l.targets)
