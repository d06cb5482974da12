use Rattle.std.proofs.Common.{◌++◌, sym, ap, ◌∙◌, append-nil}
use Rattle.std.specs.List.{list_any}
use Rattle.an_model.specs.Targets.{targets_of}
use Rattle.an_anchor.proofs.TargetLemmas.{kept-none}
use Rattle.an_anchor.specs.Walk.{is_kept_comment}
use Rattle.an_anchor.proofs.targets.push_from.Goals as goal

pub returns-else-branch : goal.returns-else-branch
returns-else-branch c =
    let base = c.args.base.now in
    let comments = c.args.comments.now.items in
    let none = kept-none c.args.row.now base 0 (targets_of c.args.kept.now)
    (sym
    (c.in_ok-has_comment.ensures ∙ ap (list_any (is_kept_comment base)) c.targets.ensures.targets)
    ∙ c.if-branch.false) in
    sym (append-nil comments) ∙ ap (λ last. comments ++ last) (sym none)
