use Rattle.std.proofs.Common.{Err, refl, ap, ◌∙◌, arith}
use Rattle.an_lines.proofs.ImportLemmas.{Imports-told, Imports-no_memory, comes_all, leaves_none, whole_behind}
use Rattle.an_lines.proofs.StatusLemmas.{rises_and_stays, stays_and_rises, reads_little-front}
use Rattle.an_lines.proofs.importing.import.Goals as goal

pub returns-in-Ok-import_input-clause-imports : goal.returns-in-Ok-import_input-clause-imports
returns-in-Ok-import_input-clause-imports g c =
    let all = c.in-Ok-import_input.ensures.all in
    let front = rw c.as_slice.ensures.value at c.tell.ensures.front in
    let told = rw c.as_slice.ensures.value at c.tell.ensures.tells in
    let whole =
    whole_behind c.in-Ok.input.items _ _ _ (λ h. c.in-Ok.ensures.whole (omega arith)) front in
    Imports-told _ _ _ _ _ _ _ _ _ _ _ _ _
    (comes_all _ _ _ _ _ _ _ _ whole all) c.in-Ok.ensures.bytes front
    (λ rose.
    stays_and_rises _ _ _ c.read_to.ensures.write_faults_kept rose c.tell.ensures.write_faults_kept)
    told

pub returns-in-Ok-import_input-clause-bounded : goal.returns-in-Ok-import_input-clause-bounded
returns-in-Ok-import_input-clause-bounded g c =
    reads_little-front _ _ _ _ c.read_to.ensures.at_most c.tell.ensures.front

pub returns-in-Failed-clause-imports : goal.returns-in-Failed-clause-imports
returns-in-Failed-clause-imports g c =
    let unkept =
    c.import_input.ensures.counted (c.in-Err-import_input.is ∙ ap Err c.in-Failed.is) in
    let leaves = c.in-Err-import_input.ensures.front in
    let front = rw c.as_bytes.ensures.value at c.tell-in-Failed.ensures.front in
    let told = rw c.as_bytes.ensures.value at c.tell-in-Failed.ensures.tells in
    let whole =
    whole_behind c.in-Ok.input.items _ _ _ (λ h. c.in-Ok.ensures.whole (omega arith)) front in
    Imports-told _ _ _ _ _ _ _ _ _ _ _ _ _ (unkept, whole, refl, leaves) c.in-Ok.ensures.bytes front
    (λ rose. stays_and_rises _ _ _ c.read_to.ensures.write_faults_kept rose
    c.tell-in-Failed.ensures.write_faults_kept) told

pub returns-in-Failed-clause-bounded : goal.returns-in-Failed-clause-bounded
returns-in-Failed-clause-bounded g c =
    reads_little-front _ _ _ _ c.read_to.ensures.at_most c.tell-in-Failed.ensures.front

pub returns-in-Memory-clause-imports : goal.returns-in-Memory-clause-imports
returns-in-Memory-clause-imports g c =
    let leaves = c.in-Err-import_input.ensures.front in
    Imports-no_memory _ _ _ _ _ _ _ _ c.in-Ok.ensures.bytes leaves

pub returns-in-ReadFault-clause-imports : goal.returns-in-ReadFault-clause-imports
returns-in-ReadFault-clause-imports g c =
    let fault = c.read_to.ensures.fault (c.in-Err.is ∙ ap Err c.in-ReadFault.is) in
    let unread = rises_and_stays _ _ _ fault c.tell-in-ReadFault.ensures.read_faults_kept in
    let read = c.read_to.ensures.at_most in
    let front = rw c.as_bytes-in-ReadFault.ensures.value at c.tell-in-ReadFault.ensures.front in
    let told = rw c.as_bytes-in-ReadFault.ensures.value at c.tell-in-ReadFault.ensures.tells in
    Imports-told _ _ _ _ _ _ _ _ _ _ _ _ _ (unread, refl, refl) read.1 front
    (λ rose. stays_and_rises _ _ _ c.read_to.ensures.write_faults_kept rose
    c.tell-in-ReadFault.ensures.write_faults_kept) told

pub returns-in-ReadFault-clause-bounded : goal.returns-in-ReadFault-clause-bounded
returns-in-ReadFault-clause-bounded g c =
    reads_little-front _ _ _ _ c.read_to.ensures.at_most c.tell-in-ReadFault.ensures.front

pub returns-in-Memory-error-clause-imports : goal.returns-in-Memory-error-clause-imports
returns-in-Memory-error-clause-imports g c =
    let read = c.read_to.ensures.at_most in
    Imports-no_memory _ _ _ _ _ _ _ _ read.1 (leaves_none _ read.0)
