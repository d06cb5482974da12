use Rattle.std.proofs.Common.{◌≡◌, true, List, sym, subst}
use Rattle.an_policy.specs.Classes.{classes_are_distinct}
use Rattle.an_policy.specs.declared.group.Audience.{Audience}
use Rattle.an_snapshot.proofs.CopyLemmas.{adds-class}
use Rattle.an_snapshot.proofs.copying.copy_classes.Goals as goal

pub loop-audience-preserved : goal.loop-audience-preserved
loop-audience-preserved c =
    let seen = c.as_slice-audience-items in
    let distinct =
    subst (λ (l : List Audience). classes_are_distinct l ≡ true)
    (sym seen.ensures.audiences) seen.ensures.distinct in
    adds-class seen.result.now c.loop-audience.copy c.add.new.self c.loop-audience.audience-index
    c.audience-item.result c.loop-audience.invariant c.in_ok-add.ensures.ok
    c.loop-audience-test.true c.audience-item.is distinct
