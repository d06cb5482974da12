use Rattle.std.proofs.Common.{◌≡◌, Bool, map, take}
use Rattle.std.specs.Prelude.{filter}
use Rattle.an_anchor.specs.Comments.{orphan_item}
use Rattle.an_anchor.specs.Walk.{HasCounted}
use Rattle.an_anchor.specs.declared.comment.Comment.{Comment}
use Rattle.an_anchor.proofs.orphaned.count_lost.Given as goal

-- the lost ones of the comments so far were counted
abbrev pub invariant-loop-place : goal.invariant-loop-place
invariant-loop-place l =
    (is_lost : Comment → Bool) → l.lost ≡ map is_lost l.comments
    → HasCounted (orphan_item l.base) l.window (filter is_lost (take l.place l.comments)) l.counted
