use Rattle.std.proofs.Common.{◌≡◌, List, [], drop, ap, sym, ◌∙◌}
use Rattle.an_published.specs.Rule.{accepted}
use Rattle.an_published.specs.declared.published.Addition.{Addition}
use Rattle.an_store.proofs.Sides.{all-pend, none-pend, same}
use Rattle.an_store.proofs.under_lock.UnderLock.settle.Goals as goal

pub invariant_of-self-then-not-has_pending_operations :
    goal.invariant_of-self-then-not-has_pending_operations
invariant_of-self-then-not-has_pending_operations g c =
    let more = all-pend _ _ _ c.in_ok-append.ensures.none_waits c.in_ok-append.ensures.appended in
    same _ _ _ _ _ _ _ _ c.self.invariant (ap (λ d. d.shown.value) c.in_ok-append.ensures.desk) more

pub returns-then-not-has_pending_operations-clause-stocked :
    goal.returns-then-not-has_pending_operations-clause-stocked
returns-then-not-has_pending_operations-clause-stocked g c =
    let more = all-pend _ _ _ c.in_ok-append.ensures.none_waits c.in_ok-append.ensures.appended in
    (same _ _ _ _ _ _ _ _ c.self.invariant
    (ap (λ d. d.shown.value) c.in_ok-append.ensures.desk) more).stocked

pub returns-then-not-has_pending_operations-clause-published :
    goal.returns-then-not-has_pending_operations-clause-published
returns-then-not-has_pending_operations-clause-published g c =
    let pending : List Addition = drop c.append.new.writer.behind c.append.new.writer.log.items in
    let none : pending ≡ [] =
    none-pend pending (λ h. let some = c.has_pending_operations.ensures.1 h in absurd (cc)) in
    ap (λ d. d.shown.value.mark.list) c.in_ok-append.ensures.desk
    ∙ (ap (accepted c.self.inside.writer.desk.shown.value)
    (sym none ∙ c.in_ok-append.ensures.appended)
    ∙ ap (λ s. s.accepted) c.self.view_is)

pub invariant_of-self-in_err-publish : goal.invariant_of-self-in_err-publish
invariant_of-self-in_err-publish g c =
    let more =
    all-pend _ _ _ c.in_ok-append.ensures.none_waits
    (c.in_err-publish.ensures.pends ∙ c.in_ok-append.ensures.appended) in
    same _ _ _ _ _ _ _ _ c.self.invariant
    (c.in_err-publish.ensures.same ∙ ap (λ d. d.shown.value) c.in_ok-append.ensures.desk) more

pub returns-in_err-publish-clause-stocked : goal.returns-in_err-publish-clause-stocked
returns-in_err-publish-clause-stocked g c =
    let more =
    all-pend _ _ _ c.in_ok-append.ensures.none_waits
    (c.in_err-publish.ensures.pends ∙ c.in_ok-append.ensures.appended) in
    (same _ _ _ _ _ _ _ _ c.self.invariant
    (c.in_err-publish.ensures.same ∙ ap (λ d. d.shown.value) c.in_ok-append.ensures.desk)
    more).stocked
