use Rattle.std.proofs.Common.{Err, ap, ◌∙◌, arith}
use Rattle.an_lines.proofs.StatusLemmas.{Finds-reported, Finds-part_told, Finds-read_failed, Finds-nothing_told, rises_and_stays, stays_and_rises, report_unfailing, reads_little, reads_little-front}
use Rattle.an_lines.proofs.lines.find.Goals as goal

pub returns-in-Ok-write_all-clause-finds : goal.returns-in-Ok-write_all-clause-finds
returns-in-Ok-write_all-clause-finds g c =
    let is = c.in-Ok-report_of.ensures in
    let whole = rw c.as_slice.ensures.value at c.in-Ok-write_all.ensures.whole in
    Finds-reported _ _ _ c.in-Ok.input.items _ _ _ _ is c.in-Ok.ensures.bytes
    (λ h. c.in-Ok.ensures.whole (omega arith)) whole

pub returns-in-Ok-write_all-clause-sure : goal.returns-in-Ok-write_all-clause-sure
returns-in-Ok-write_all-clause-sure g c =
    λ _. report_unfailing c.args.settings.now c.in-Ok.input.items _ c.in-Ok-report_of.ensures

pub returns-in-Ok-report_of-clause-finds : goal.returns-in-Ok-report_of-clause-finds
returns-in-Ok-report_of-clause-finds g c =
    let is = c.in-Ok-report_of.ensures in
    let front = rw c.as_slice.ensures.value at c.write_all.ensures.front in
    Finds-part_told _ _ _ c.in-Ok.input.items _ _ _ _ is c.in-Ok.ensures.bytes
    (λ h. c.in-Ok.ensures.whole (omega arith)) front
    (stays_and_rises _ _ _ c.read_to.ensures.write_faults_kept c.in-Err-write_all.ensures.counted
    c.write_all.ensures.write_faults_kept)

pub returns-in-Ok-write_all-2-clause-finds : goal.returns-in-Ok-write_all-2-clause-finds
returns-in-Ok-write_all-2-clause-finds g c =
    let fault = c.read_to.ensures.fault (c.in-Err.is ∙ ap Err c.in-ReadFault.is) in
    let whole = rw c.as_bytes.ensures.value at c.in-Ok-write_all-2.ensures.whole in
    Finds-read_failed _ _ _ _ _ _ c.read_to.ensures.at_most
    (rises_and_stays _ _ _ fault c.write_all-in-ReadFault.ensures.read_faults_kept) whole

pub returns-in-ReadFault-clause-finds : goal.returns-in-ReadFault-clause-finds
returns-in-ReadFault-clause-finds g c =
    let fault = c.read_to.ensures.fault (c.in-Err.is ∙ ap Err c.in-ReadFault.is) in
    let front = rw c.as_bytes.ensures.value at c.write_all-in-ReadFault.ensures.front in
    Finds-nothing_told _ _ _ _ _ _ c.read_to.ensures.at_most
    (rises_and_stays _ _ _ fault c.write_all-in-ReadFault.ensures.read_faults_kept) front
    (stays_and_rises _ _ _ c.read_to.ensures.write_faults_kept c.in-Err-write_all-2.ensures.counted
    c.write_all-in-ReadFault.ensures.write_faults_kept)

pub returns-in-Ok-report_of-clause-bounded : goal.returns-in-Ok-report_of-clause-bounded
returns-in-Ok-report_of-clause-bounded g c =
    reads_little-front _ _ _ _ c.read_to.ensures.at_most c.write_all.ensures.front

pub returns-in-Ok-write_all-2-clause-bounded : goal.returns-in-Ok-write_all-2-clause-bounded
returns-in-Ok-write_all-2-clause-bounded g c =
    reads_little _ _ _ _ c.read_to.ensures.at_most c.in-Ok-write_all-2.ensures.whole

pub returns-in-ReadFault-clause-bounded : goal.returns-in-ReadFault-clause-bounded
returns-in-ReadFault-clause-bounded g c =
    reads_little-front _ _ _ _ c.read_to.ensures.at_most c.write_all-in-ReadFault.ensures.front
