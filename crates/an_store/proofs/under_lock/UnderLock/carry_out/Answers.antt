use Rattle.std.proofs.Common.{◌≡◌, ℕ, Option, Ok, Err, IsTrue, List, [], ◌∷◌, ◌++◌, drop, option_to_list, ap, sym, subst, ◌∙◌, arith}
use Rattle.std.specs.Prelude.{IfSome}
use Rattle.std.proofs.lemmas.Result.{err_from_is_err_and}
use Rattle.an_base.specs.Faults.{Rises}
use Rattle.an_keep.specs.Keeper.{Told, Stays}
use Rattle.an_shelf.specs.declared.error.WriteError.TheVariants as error
use Rattle.an_machine.specs.Step.{step}
use Rattle.an_rows.specs.Cells.{cells}
use Rattle.an_rows.specs.Changes.{is_settled}
use Rattle.an_state.specs.State.{State}
use Rattle.an_state.specs.declared.entry.Entry.{Entry}
use Rattle.an_shelf.proofs.WritingLemmas.{entry-settled}
use Rattle.an_laws.specs.Events.{Event, Wrote, state_at}
use Rattle.an_published.specs.Rule.{accepted}
use Rattle.an_store.specs.UnderLock.{Sided, stock_of}
use Rattle.an_published.specs.declared.published.Published.{Published}
use Rattle.an_published.specs.declared.published.Addition.{Addition}
use Rattle.an_store.proofs.Sides.{still, shown-state, waits, waits-behind, keep-counted, keep-fails, settle-fails}
use Rattle.an_store.proofs.under_lock.UnderLock.carry_out.Goals as goal

pub keep-requires-clause-settled : goal.keep-requires-clause-settled
keep-requires-clause-settled g c =
    let d = c.requires.decided in
    let w = c.self.inside.writer in
    let x : Published = w.desk.shown.value in
    let more = drop w.behind w.log.items ++ option_to_list c.self.inside.waiting in
    let s : State = state_at (accepted x more) in
    let all =
    ap (λ s. s.published) c.self.view_is
    ∙ (c.requires.settled ∙ sym (ap (λ s. s.accepted) c.self.view_is)) in
    let shown =
    c.book-book.ensures.state ∙ ap (λ (p : Published). p.snapshot.state) c.published-2.ensures
    ∙ shown-state _ _ x more _ _ c.self.invariant all in
    let is : step s c.args.moment c.args.caller.now c.args.command.now ≡ Ok d.0 =
    ap (λ k. step k.state c.args.moment c.args.caller.now c.args.command.now) c.self.view_is
    ∙ d.1 in
    subst (λ (u : State). IsTrue (is_settled u c.args.entry)) (sym shown)
    (subst (λ (e : Option Entry). IfSome e (λ entry. IsTrue (is_settled s entry))) d.2
    (entry-settled s c.args.moment c.args.caller.now c.args.command.now d.0 is))

pub keep-requires-clause-cells : goal.keep-requires-clause-cells
keep-requires-clause-cells g c =
    let w = c.self.inside.writer in
    let x : Published = w.desk.shown.value in
    let more = drop w.behind w.log.items ++ option_to_list c.self.inside.waiting in
    let all =
    ap (λ s. s.published) c.self.view_is
    ∙ (c.requires.settled ∙ sym (ap (λ s. s.accepted) c.self.view_is)) in
    let shown =
    c.book-book.ensures.state ∙ ap (λ (p : Published). p.snapshot.state) c.published-2.ensures
    ∙ shown-state _ _ x more _ _ c.self.invariant all in
    subst (λ (u : State). IfSome (g.K.Keeper.told c.self.inside.keeper) (λ found. found ≡ cells u))
    (sym shown) c.self.invariant.stocked.stands.cells_are

pub invariant_of-self : goal.invariant_of-self
invariant_of-self g c = still _ _ _ _ _ _ _ _ c.self.invariant c.in_err-keep.ensures.stays

pub returns-in_err-keep-clause-stocked : goal.returns-in_err-keep-clause-stocked
returns-in_err-keep-clause-stocked g c =
    (still _ _ _ _ _ _ (g.K.Keeper.faults c.self.inside.keeper) _ c.self.invariant
    c.in_err-keep.ensures.stays).stocked

pub returns-in_err-keep-clause-fails : goal.returns-in_err-keep-clause-fails
returns-in_err-keep-clause-fails g c =
    let d = c.requires.decided in
    let exit = err_from_is_err_and c.from_residual.result c.from_residual.ensures.1 in
    keep-fails c.args.moment c.args.caller.now c.args.command.now c.args.self.now _ d.0 c.args.entry
    d.1 d.2 _ _ exit.0 exit.1 exit.2
    (record {
      accepted = ap (λ s. s.accepted) c.self.view_is;
      published = ap (λ s. s.published) c.self.view_is ∙ c.requires.settled;
    })
    (record {
      same_state = ap (λ s. s.state) c.self.view_is;
      stays =
          subst (λ (b : Told). Stays b (g.K.Keeper.told c.keep.new.keeper))
          (ap (λ s. s.told) c.self.view_is) c.in_err-keep.ensures.stays;
    })

pub returns-in_err-keep-clause-counted : goal.returns-in_err-keep-clause-counted
returns-in_err-keep-clause-counted g c =
    let exit = err_from_is_err_and c.from_residual.result c.from_residual.ensures.1 in
    subst (λ (n : ℕ).
    c.from_residual.result ≡ Err error.Keeper → Rises n (g.K.Keeper.faults c.keep.new.keeper))
    (ap (λ s. s.faults) c.self.view_is)
    (keep-counted c.from_residual.result _ exit.0 (g.K.Keeper.faults c.self.inside.keeper)
    (g.K.Keeper.faults c.keep.new.keeper) exit.1 exit.2 c.in_err-keep.ensures.counted)

pub returns-in_err-keep-clause-sure : goal.returns-in_err-keep-clause-sure
returns-in_err-keep-clause-sure g c sure failed =
    let exit = err_from_is_err_and c.from_residual.result c.from_residual.ensures.1 in
    let old = g.met.K.Keeper.sure_keeps sure c.self.inside.keeper in
    let new = g.met.K.Keeper.sure_keeps sure c.keep.new.keeper in
    let rises : Rises (g.K.Keeper.faults c.self.inside.keeper)
    (g.K.Keeper.faults c.keep.new.keeper) =
    keep-counted c.from_residual.result _ exit.0 _ _ exit.1 exit.2
    c.in_err-keep.ensures.counted failed in
    omega (arith, rises (omega (arith, old)), old, new)

pub invariant_of-self-2 : goal.invariant_of-self-2
invariant_of-self-2 g c =
    let d = c.requires.decided in
    let w = c.self.inside.writer in
    let x : Published = w.desk.shown.value in
    let a : Addition = record { entry = c.args.entry; mark = c.extend-mark.result } in
    let more = drop w.behind w.log.items ++ option_to_list c.self.inside.waiting in
    let all =
    ap (λ s. s.published) c.self.view_is
    ∙ (c.requires.settled ∙ sym (ap (λ s. s.accepted) c.self.view_is)) in
    let is : step (state_at (accepted x more)) c.args.moment c.args.caller.now c.args.command.now
    ≡ Ok d.0 =
    ap (λ k. step k.state c.args.moment c.args.caller.now c.args.command.now) c.self.view_is
    ∙ d.1 in
    let shown =
    c.book-book.ensures.state ∙ ap (λ (p : Published). p.snapshot.state) c.published-2.ensures in
    let list =
    c.extend-mark.ensures.list
    ∙ (ap (λ (p : Published). p.mark.list ++ c.new-kept.result ∷ []) c.published-3.ensures
    ∙ ap (λ (e : Event). x.mark.list ++ e ∷ []) c.new-kept.ensures) in
    let book =
    c.extend-mark.ensures.book ∙ ap (λ (p : Published). p.mark.book) c.published-3.ensures in
    subst
    (λ (o : Option Addition). Sided
    (stock_of x (drop w.behind w.log.items ++ option_to_list o) (g.K.Keeper.told c.keep.new.keeper)
    (g.K.Keeper.faults c.keep.new.keeper))
    g.J.Naming.book c.self.inside.head x (drop w.behind w.log.items ++ option_to_list o))
    (sym c.wait.ensures)
    (waits _ _ c.args.moment c.args.caller.now c.args.command.now a x (drop w.behind w.log.items)
    (option_to_list c.self.inside.waiting) d.0 _ _ _ _ _ c.self.invariant all
    is d.2 c.requires.sent shown c.in_ok-keep.ensures.told book list)

pub returns-in_err-settle-clause-fails : goal.returns-in_err-settle-clause-fails
returns-in_err-settle-clause-fails g c =
    let d = c.requires.decided in
    let w = c.self.inside.writer in
    let x : Published = w.desk.shown.value in
    let a : Addition = record { entry = c.args.entry; mark = c.extend-mark.result } in
    let all =
    ap (λ s. s.published) c.self.view_is
    ∙ (c.requires.settled ∙ sym (ap (λ s. s.accepted) c.self.view_is)) in
    let list =
    c.extend-mark.ensures.list
    ∙ (ap (λ (p : Published). p.mark.list ++ c.new-kept.result ∷ []) c.published-3.ensures
    ∙ ap (λ (e : Event). x.mark.list ++ e ∷ []) c.new-kept.ensures) in
    let exit =
    err_from_is_err_and c.from_residual-in_err-settle.result
    c.from_residual-in_err-settle.ensures.1 in
    let more =
    waits-behind _ _ c.args.moment c.args.caller.now c.args.command.now a x
    (drop w.behind w.log.items) (option_to_list c.self.inside.waiting) _
    (g.K.Keeper.told c.keep.new.keeper) c.settle.new.self.told _
    c.self.invariant all c.in_err-settle.ensures.rests.same_told list in
    settle-fails c.args.moment c.args.caller.now c.args.command.now c.args.self.now
    c.settle.new.self d.0 c.args.entry d.1 d.2 _ exit.0 exit.1 exit.2
    (c.in_err-settle.ensures.waits ∙ (ap (λ s. s.published) c.self.view_is ∙ c.requires.settled))
    (c.in_err-settle.ensures.accepted
    ∙ (ap (λ (o : Option Addition). accepted x (drop w.behind w.log.items ++ option_to_list o))
    c.wait.ensures
    ∙ (more
    ∙ ap (λ (l : List Event). l
    ++ Wrote (record {
      moment = c.args.moment;
      caller = c.args.caller.now;
      command = c.args.command.now;
      entry = c.args.entry;
    }) c.settle.new.self.told ∷ [])
    (ap (λ s. s.accepted) c.self.view_is))))

pub returns-clause-published : goal.returns-clause-published
returns-clause-published g c =
    let w = c.self.inside.writer in
    let x : Published = w.desk.shown.value in
    let a : Addition = record { entry = c.args.entry; mark = c.extend-mark.result } in
    let all =
    ap (λ s. s.published) c.self.view_is
    ∙ (c.requires.settled ∙ sym (ap (λ s. s.accepted) c.self.view_is)) in
    let list =
    c.extend-mark.ensures.list
    ∙ (ap (λ (p : Published). p.mark.list ++ c.new-kept.result ∷ []) c.published-3.ensures
    ∙ ap (λ (e : Event). x.mark.list ++ e ∷ []) c.new-kept.ensures) in
    let more =
    waits-behind _ _ c.args.moment c.args.caller.now c.args.command.now a x
    (drop w.behind w.log.items) (option_to_list c.self.inside.waiting) _
    (g.K.Keeper.told c.keep.new.keeper) c.settle.new.self.told _
    c.self.invariant all c.in_ok-settle.ensures.rests.same_told list in
    c.in_ok-settle.ensures.published
    ∙ (ap (λ (o : Option Addition). accepted x (drop w.behind w.log.items ++ option_to_list o))
    c.wait.ensures
    ∙ (more
    ∙ ap (λ (l : List Event). l
    ++ Wrote (record {
      moment = c.args.moment;
      caller = c.args.caller.now;
      command = c.args.command.now;
      entry = c.args.entry;
    }) c.settle.new.self.told ∷ [])
    (ap (λ s. s.accepted) c.self.view_is)))
