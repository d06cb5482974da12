use Rattle.std.proofs.Common.{◌≡◌, ◌∙◌, ℤ, Ok, refl, subst}
use Rattle.an_machine.specs.Step.{step}
use Rattle.an_machine.specs.declared.command.Decided.{Decided}
use Rattle.an_policy.specs.declared.who.Caller.{Caller}
use Rattle.an_state.specs.State.{State}
use Rattle.an_state.specs.declared.command.Command.{Command}
use Rattle.an_shelf.proofs.FitLemmas.{decided-fits}
use Rattle.an_shelf.proofs.WritingLemmas.{entry-settled, leads-either, leaves-runs_out, repeat-keeps, repeat-still, stands-behind, stops-runs_out}
use Rattle.an_shelf.specs.Front.{behind}
use Rattle.an_shelf.proofs.writing.write_settled.Goals as goal

-- what is decided over the book is decided in the state that is shown
decided-here : (s t : State) (moment : ℤ) (caller : Caller) (command : Command)
    (d : Decided) {u : State} → u ≡ t → t ≡ s → step u moment caller command ≡ Ok d
    → step s moment caller command ≡ Ok d
decided-here s t moment caller command d book look is =
    subst (λ v. step v moment caller command ≡ Ok d) (book ∙ look) is

pub carry_out-requires-clause-settled : goal.carry_out-requires-clause-settled
carry_out-requires-clause-settled g c =
    entry-settled c.args.front.now.state c.args.moment c.args.caller.now c.args.command.now
    c.in_ok-decided.decided (decided-here _ _ _ _ _ _ c.book.ensures.state c.look.ensures.state
    c.in_ok-decided.ensures.decided)

pub carry_out-requires-clause-can_show : goal.carry_out-requires-clause-can_show
carry_out-requires-clause-can_show g c =
    decided-fits c.args.front.now.state c.args.moment c.args.caller.now c.args.command.now
    c.in_ok-decided.decided (decided-here _ _ _ _ _ _ c.book.ensures.state c.look.ensures.state
    c.in_ok-decided.ensures.decided) c.requires.stands.sound

pub returns-clause-repeated : goal.returns-clause-repeated
returns-clause-repeated g c =
    repeat-keeps c.args.front.now.state c.args.moment c.args.caller.now c.args.command.now
    c.in_ok-decided.decided (decided-here _ _ _ _ _ _ c.book.ensures.state c.look.ensures.state
    c.in_ok-decided.ensures.decided)
    (c.carry_out.new.keeper ≡ c.args.keeper.now) c.carry_out.result c.carry_out.ensures.replies
    c.carry_out.ensures.repeated

pub returns-clause-repeats : goal.returns-clause-repeats
returns-clause-repeats g c =
    repeat-still c.args.front.now.state c.args.moment c.args.caller.now c.args.command.now
    c.in_ok-decided.decided (decided-here _ _ _ _ _ _ c.book.ensures.state c.look.ensures.state
    c.in_ok-decided.ensures.decided)
    (behind c.carry_out.new.front) c.carry_out.result c.carry_out.ensures.replies
    c.carry_out.ensures.leads

pub returns-clause-stands : goal.returns-clause-stands
returns-clause-stands g c =
    stands-behind c.args.front.now.state c.args.moment c.args.caller.now c.args.command.now
    c.in_ok-decided.decided (decided-here _ _ _ _ _ _ c.book.ensures.state c.look.ensures.state
    c.in_ok-decided.ensures.decided)
    (c.typed_writes.ensures ∙ c.requires.sendable)
    (behind c.carry_out.new.front) (g.K.Keeper.told c.args.keeper.now)
    (g.K.Keeper.told c.carry_out.new.keeper) c.requires.stands
    (leads-either c.in_ok-decided.decided.entry c.args.front.now
    c.carry_out.new.front c.requires.nothing_waits (g.K.Keeper.told c.args.keeper.now)
    (g.K.Keeper.told c.carry_out.new.keeper)
    c.carry_out.result c.carry_out.ensures.leads c.carry_out.ensures.no_refusal
    c.carry_out.ensures.still c.carry_out.ensures.memory)
    c.carry_out.ensures.told

pub returns-clause-memory : goal.returns-clause-memory
returns-clause-memory g c =
    λ is.
    stops-runs_out c.in_ok-decided.decided.entry c.args.front.now
    c.carry_out.new.front c.requires.nothing_waits (g.K.Keeper.told c.args.keeper.now)
    (g.K.Keeper.told c.carry_out.new.keeper)
    _ c.in_ok-decided.decided _ _
    (decided-here _ _ _ _ _ _ c.book.ensures.state c.look.ensures.state
    c.in_ok-decided.ensures.decided) refl
    (c.carry_out.ensures.memory is)

pub returns-in_err-decided-clause-memory : goal.returns-in_err-decided-clause-memory
returns-in_err-decided-clause-memory g c = λ is. leaves-runs_out _ _ _ _ _ refl
