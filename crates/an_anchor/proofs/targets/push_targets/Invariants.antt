use Rattle.std.proofs.Common.{◌≡◌, ◌++◌, take}
use Rattle.std.specs.Prelude.{filter}
use Rattle.an_anchor.specs.Comments.{numbered}
use Rattle.an_anchor.specs.Walk.{is_comment}
use Rattle.an_anchor.proofs.targets.push_targets.Given as goal

-- those of the targets so far that are comments stand after the ones before
abbrev pub invariant-loop-target : goal.invariant-loop-target
invariant-loop-target l = record {
  found : l.comments.items
      ≡ l.fn.comments.items
      ++ filter (is_comment l.base) (numbered l.row 0 (take l.target-index l.targets));
  number : l.number ≡ l.target-index;
}
