use Rattle.std.proofs.Common.{◌≡◌, List, ◌++◌, take}
use Rattle.std.specs.Prelude.{filter}
use Rattle.an_anchor.specs.Comments.{anchor_item, is_about, numbered}
use Rattle.an_anchor.specs.Walk.{HasCounted}
use Rattle.an_anchor.specs.declared.comment.Comment.{Comment}
use Rattle.an_anchor.proofs.counting.count_targets.Given as goal

-- those of the targets so far that are comments were counted
abbrev pub invariant-loop-target : goal.invariant-loop-target
invariant-loop-target l = record {
  counted : (comments : List Comment)
      → HasCounted (anchor_item l.asked.base.now l.asked.texts.now) l.asked.window comments
      l.fn.counted
      → HasCounted (anchor_item l.asked.base.now l.asked.texts.now) l.asked.window
      (comments
      ++ filter (is_about l.asked.iri.now) (numbered l.row 0 (take l.target-index l.targets)))
      l.counted;
  number : l.number ≡ l.target-index;
}
