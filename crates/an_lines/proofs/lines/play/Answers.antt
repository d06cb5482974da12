use Rattle.std.proofs.Common.{rules, ◌≡◌, ◌++◌, ◌-◌, ap, ap₂, drop, length, sym, subst, ◌∙◌, arith}
use Rattle.std.proofs.lemmas.List.{length-drop}
use Rattle.an_lines.specs.Find.{play, turn_of}
use Rattle.an_lines.specs.Split.{lines_of}
use Rattle.an_lines.specs.Turned.{Takes}
use Rattle.an_lines.proofs.FollowLemmas.{ends, follows}
use Rattle.an_lines.proofs.lines.play.Goals as goal

pub lines-init : goal.lines-init
lines-init c = record {
  output = search rules;
  stop = search rules;
  few = search rules;
  within = search rules;
}

pub lines-preserved : goal.lines-preserved
lines-preserved c =
    let site = c.args.settings.now in
    let old = c.lines.book.state in
    let new = c.turn.new.book.state in
    let number = c.lines.number in
    let behind = lines_of (drop c.in-Some.taken c.lines.left) in
    let first = rw c.as_slice.ensures.value at c.in-Some.ensures.first in
    let within = rw c.as_slice.ensures.value at c.in-Some.ensures.within in
    let rest : length c.pass.new.self ≡ length c.lines.left - c.in-Some.taken =
    ap length c.pass.ensures.rest ∙ length-drop c.in-Some.taken c.lines.left in
    let taken =
    follows (turn_of site old c.in-Some.line.now) number
    (play site behind) old new c.lines.output.items c.turn.new.output.items
    (subst (λ stop. Takes (turn_of site old c.in-Some.line.now) old new c.lines.output.items
    c.turn.new.output.items stop) c.in-None.is c.in_ok-why.ensures) in
    record {
      output =
          rw c.pass.ensures.rest (taken.0
          ∙ sym (ap (λ lines. c.lines.output.items ++ (play site lines number old).output) first)
          ∙ c.lines.invariant.output);
      stop =
          rw c.pass.ensures.rest (taken.1
          ∙ sym (ap (λ lines. (play site lines number old).stop) first) ∙ c.lines.invariant.stop);
      few = omega (arith, c.lines.invariant.few, c.in-Some.ensures.some, within, rest);
      within = c.lines.invariant.within;
    }

pub returns-in-Some-2 : goal.returns-in-Some-2
returns-in-Some-2 c =
    let site = c.args.settings.now in
    let old = c.lines.book.state in
    let new = c.turn.new.book.state in
    let number = c.lines.number in
    let behind = lines_of (drop c.in-Some.taken c.lines.left) in
    let first = rw c.as_slice.ensures.value at c.in-Some.ensures.first in
    let ended =
    ends (turn_of site old c.in-Some.line.now) number
    (play site behind) old new c.lines.output.items c.turn.new.output.items c.in-Some-2.why
    (subst (λ stop. Takes (turn_of site old c.in-Some.line.now) old new c.lines.output.items
    c.turn.new.output.items stop) c.in-Some-2.is c.in_ok-why.ensures) in
    let output =
    ended.0 ∙ sym (ap (λ lines. c.lines.output.items ++ (play site lines number old).output) first)
    ∙ c.lines.invariant.output in
    let stop =
    ended.1 ∙ sym (ap (λ lines. (play site lines number old).stop) first)
    ∙ c.lines.invariant.stop in
    ap₂ (λ printed stopped. record { output = printed; stop = stopped }) output stop
