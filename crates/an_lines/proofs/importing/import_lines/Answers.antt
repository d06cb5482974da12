use Rattle.std.proofs.Common.{◌≡◌, ◌-◌, Ok, ap, drop, length, subst, ◌∙◌, arith}
use Rattle.std.proofs.lemmas.List.{length-drop}
use Rattle.an_lines.specs.Import.{Progress, import_line}
use Rattle.an_lines.specs.Shown.{Leads}
use Rattle.an_lines.specs.Split.{lines_of}
use Rattle.an_lines.proofs.ImportLemmas.{front_leaves, leads-ok, lost_front, line_done, line_done-front, counted_most, on_err}
use Rattle.an_lines.proofs.importing.import_lines.Goals as goal

pub returns-in_err-more-clause-front : goal.returns-in_err-more-clause-front
returns-in_err-more-clause-front g c =
    let p : Progress = record { state = c.lines.desk.state; counts = c.lines.counts } in
    let first = rw c.as_slice.ensures.value at c.in-Some.ensures.first in
    let front =
    lost_front c.in-Some.line.now (lines_of (drop c.in-Some.taken c.lines.left))
    (lines_of c.lines.left) c.lines.number p first _ c.in_err-more.ensures.lost in
    on_err _ _ (front_leaves _ _ _ (c.lines.invariant.fronts _ front))

pub lines-preserved : goal.lines-preserved
lines-preserved g c =
    let p : Progress = record { state = c.lines.desk.state; counts = c.lines.counts } in
    let q : Progress = record { state = c.import_line.new.desk.state; counts = c.in-Ok.more } in
    let line = c.in-Some.line.now in
    let behind = lines_of (drop c.in-Some.taken c.lines.left) in
    let first = rw c.as_slice.ensures.value at c.in-Some.ensures.first in
    let within = rw c.as_slice.ensures.value at c.in-Some.ensures.within in
    let rest : length c.pass.new.self ≡ length c.lines.left - c.in-Some.taken =
    ap length c.pass.ensures.rest ∙ length-drop c.in-Some.taken c.lines.left in
    let is : import_line p line ≡ Ok q =
    leads-ok (import_line p line) p.state q.state q.counts
    (subst (λ r. Leads (import_line p line) p.state q.state r) c.in-Ok.is
    c.in_ok-more.ensures.leads) in
    let most = counted_most p q line is in
    record {
      all =
          rw c.pass.ensures.rest
          (line_done line behind _ c.lines.number p first q is ∙ c.lines.invariant.all);
      fronts =
          λ t front. c.lines.invariant.fronts t
          (line_done-front line behind _ c.lines.number p first q t is
          (rw c.pass.ensures.rest at front));
      kept = omega (arith, c.lines.invariant.kept, c.in_ok-more.ensures.faults_kept);
      told = λ some. c.lines.invariant.told (c.in_ok-more.ensures.told some);
      counted = omega (arith, most, c.lines.invariant.counted);
      few = omega (arith, c.lines.invariant.few, c.in-Some.ensures.some, within, rest);
      within = c.lines.invariant.within;
    }
