-- The places of parts, one after the other.
use Rattle.std.proofs.Common.{◌≡◌, ℕ, List, ◌∷◌, sym, ap, ◌∙◌}
use Rattle.an_slots.specs.Places.{with_place}
use Rattle.an_slots.specs.Rows.{posted}
use Rattle.an_slots.specs.Slot.{Slot, at}

module _ (place : ℕ) (lists new : Slot → List ℕ) (all rest : List (Slot × ℕ)) (part : Slot × ℕ)
    (next : all ≡ part ∷ rest) where
  pub posted_step : new ≡ at part.0 (with_place place) lists
      → posted place new rest ≡ posted place lists all
  posted_step is =
      ap (λ (f : Slot → List ℕ). posted place f rest) is ∙ ap (posted place lists) (sym next)
