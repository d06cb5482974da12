use Rattle.std.proofs.Common.{◌≡◌, List, [], ◌∷◌, ◌++◌, All, sym, ap, subst, ◌∙◌}
use Rattle.std.proofs.lemmas.List.Elements.{All-push}
use Rattle.std.specs.Vec.Iter.{into_iter_items}
use Rattle.an_state.specs.declared.activity.Activity.{Activity}
use Rattle.an_snapshot.specs.Changes.{IsChangeFiled, activities_in}
use Rattle.an_snapshot.specs.declared.change.FiledChange.{FiledChange}
use Rattle.an_snapshot.proofs.AllLemmas.{All-gives}
use Rattle.an_snapshot.proofs.ChangeLemmas.{change-grown}
use Rattle.an_snapshot.proofs.filing.file_all.Goals as goal

-- a change behind others takes the activity before what is left
pushed : (added : List FiledChange) (change : FiledChange) (activity : Activity)
    (left : List Activity) → change.activity ≡ activity
    → activities_in (added ++ change ∷ []) ++ left ≡ activities_in added ++ activity ∷ left
pushed [] change activity left is = ap (λ (a : Activity). a ∷ left) is
pushed (first ∷ added) change activity left is =
    ap (λ (l : List Activity). first.activity ∷ l) (pushed added change activity left is)

pub loop-activity-preserved : goal.loop-activity-preserved
loop-activity-preserved c =
    let left : List Activity = into_iter_items c.next.new.self in
    let next : into_iter_items c.loop-activity.activity-iterator ≡ c.in-Some.activity ∷ left =
    c.in-Some.ensures.steps.0 in
    let added : List FiledChange = c.loop-activity.added.items in
    let change : FiledChange = c.in_ok-file.field-0 in
    let items : c.push.new.self.items ≡ added ++ change ∷ [] = c.in_ok-push.ensures.items in
    let old = c.loop-activity.classes in
    let new = c.file.new.classes in
    let before = c.loop-activity.changes.pairs in
    let later = c.file.new.changes.pairs in
    record {
      next = tt;
      finite = tt;
      grows = λ a k e. c.file.ensures.grows a k (c.loop-activity.invariant.grows a k e);
      added =
          ap (λ (l : List FiledChange). activities_in l ++ left) items
          ∙ pushed added change c.in-Some.activity left c.in_ok-file.ensures.activity
          ∙ ap (λ (l : List Activity). activities_in added ++ l) (sym next)
          ∙ c.loop-activity.invariant.added;
      rows = c.file.ensures.rows ∙ c.loop-activity.invariant.rows;
      extends =
          λ number pair is.
          c.file.ensures.extends number pair (c.loop-activity.invariant.extends number pair is);
      filed = subst (All (IsChangeFiled new later)) (sym items)
          (All-push (IsChangeFiled new later) added change
          (All-gives (IsChangeFiled old before) (IsChangeFiled new later) added
          (change-grown old new c.file.ensures.grows before later c.file.ensures.extends)
          c.loop-activity.invariant.filed)
          c.in_ok-file.ensures.filed);
    }
