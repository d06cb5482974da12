-- How the writes of the trial lead to its state.
use Rattle.std.proofs.Common.{◌≡◌, ℕ, suc, ◌+◌, ◌*◌, List, [], ◌∷◌, ◌++◌, Some, None, IsSome, Ok, Err, refl, sym, ap, subst, ◌∙◌, arith}
use Rattle.std.specs.Prelude.{fold}
use Rattle.std.proofs.lemmas.List.Sums.{fold-append}
use Rattle.an_keep.specs.Memory.{Sure}
use Rattle.an_keep.specs.Keeper.{StaysOrBegins, Told, Turns}
use Rattle.an_keep.specs.declared.cell.Cell.{Cell}
use Rattle.an_state.specs.State.{State, empty}
use Rattle.an_machine.specs.Step.{step}
use Rattle.an_machine.specs.declared.command.Refused.{Refused}
use Rattle.an_machine.specs.declared.command.WriteReply.{WriteReply}
use Rattle.an_rows.specs.Cells.{cells, state_of}
use Rattle.an_shelf.specs.Opening.{IsDamagedBy, WasOpened}
use Rattle.an_shelf.specs.Writing.{Writes}
use Rattle.an_shelf.specs.declared.error.OpenError.{OpenError}
use Rattle.an_shelf.specs.declared.error.OpenError.TheVariants.{Damaged}
use Rattle.an_trial.specs.Draws.{draws_behind, next, number_behind}
use Rattle.an_trial.specs.Trial.{state_behind}
use Rattle.an_trial.specs.Writes.{note_behind, note_write, note_writes}
use Rattle.an_trial.specs.declared.writes.Write.{Write}

-- ---- one annotation more

-- it takes four draws
pub four_more : (seed notes x y : ℕ) → x ≡ number_behind seed (4 * notes)
    → y ≡ next (next (next (next x))) → y ≡ number_behind seed (4 * (notes + 1))
four_more seed notes x y at is =
    let four : 4 * (notes + 1) ≡ suc (suc (suc (suc (4 * notes)))) = omega arith in
    rw four (is ∙ ap (λ n. next (next (next (next n)))) at)

note_writes-more : (seed notes : ℕ)
    → note_writes seed (notes + 1) ≡ note_writes seed notes ++ note_behind seed notes ∷ []
note_writes-more seed notes =
    let more : notes + 1 ≡ suc notes = omega arith in ap (note_writes seed) more

pub note_more : (seed notes x : ℕ) (first s t : State) (write : Write)
    → x ≡ number_behind seed (4 * notes) → s ≡ fold state_behind first (note_writes seed notes)
    → write ≡ note_write (notes + 1) (draws_behind x) → t ≡ state_behind s write
    → t ≡ fold state_behind first (note_writes seed (notes + 1))
note_more seed notes x first s t write at leads is behind =
    let last : write ≡ note_behind seed notes =
    is ∙ ap (λ n. note_write (notes + 1) (draws_behind n)) at in
    behind ∙ ap (state_behind s) last ∙ ap (λ s. state_behind s (note_behind seed notes)) leads
    ∙ sym (ap (fold state_behind first) (note_writes-more seed notes)
    ∙ fold-append state_behind first (note_writes seed notes) (note_behind seed notes ∷ []))

-- ---- a write

pub written_leads : (s t : State) (write : Write) (reply : WriteReply)
    → Writes (step s write.moment write.caller write.command) s reply t → t ≡ state_behind s write
written_leads s t write reply writes = let is = writes.is in rw (is, state_behind) writes.leads

pub refused_stays : (s t : State) (write : Write) (refusal : Refused)
    → step s write.moment write.caller write.command ≡ Err refusal → t ≡ s
    → t ≡ state_behind s write
refused_stays s t write refusal is still = rw (is, state_behind) still

-- no keeper begins to tell
pub tells_before : (change : List Cell → List Cell) (old new : Told) → Turns change old new
    → IsSome new → IsSome old
tells_before change None None turns some = some
tells_before change None (Some new) turns some = absurd turns
tells_before change (Some old) new turns some = refl

-- ---- a store without a cell

no_cells : state_of [] ≡ Ok empty
unfolding state_of
no_cells = refl

module _ (keeper : Sure) (items : List Cell) (is : keeper ≡ record { cells = items })
    (none : items ≡ []) where
  no_cell : keeper.cells ≡ []
  no_cell = ap (λ (k : Sure). k.cells) is ∙ none

  -- its state is empty
  pub opens_empty : (told : Told) (s : State) → WasOpened (Some keeper.cells) told s → IsSome told
      → s ≡ empty
  opens_empty None s opened some = absurd (cc)
  opens_empty (Some found) s opened some =
      let at : state_of [] ≡ Ok s = ap state_of (sym no_cell) ∙ opened in cc (at, no_cells)

  -- and it isn't damaged
  pub never_damaged : (kept : Sure) (error : OpenError) (tab key : ℕ)
      → StaysOrBegins (Some keeper.cells) (Some kept.cells) → IsDamagedBy (Some kept.cells) error
      → error ≡ Damaged tab key → ⊥
  never_damaged kept error tab key stays found at =
      let damaged : IsDamagedBy (Some kept.cells) (Damaged tab key) =
      subst (IsDamagedBy (Some kept.cells)) at found in
      let refused : state_of [] ≡ Err (record { tab = tab; key = key }) =
      ap state_of (sym (stays ∙ no_cell)) ∙ damaged in
      cc (refused, no_cells)
