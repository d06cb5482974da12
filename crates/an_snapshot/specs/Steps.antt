-- For private clauses: the steps that rows come to.
use Rattle.std.specs.Prelude.{◌≡◌, ℕ, List, [], ◌∷◌, Some, ⊤}
use Rattle.an_policy.specs.Audience.{deciding}
use Rattle.an_policy.specs.Classes.{class_of}
use Rattle.an_policy.specs.declared.group.Audience.{Audience}
use Rattle.an_state.specs.State.{State, ManifestState, NoteState}
use Rattle.an_state.specs.declared.entry.Row.{Row}
use Rattle.an_state.specs.declared.entry.Row.TheVariants as kept
use Rattle.an_listed.specs.Room.{HasRoom}
use Rattle.an_listed.specs.Stands.{Listings}
use Rattle.an_listed.specs.declared.filed.Filed.{Filed}
use Rattle.an_snapshot.specs.Listing.{IsFiled}
use Rattle.an_snapshot.specs.Over.{audience_over}
use Rattle.an_snapshot.specs.declared.planned_row.PlannedRow.{PlannedRow}
use Rattle.an_snapshot.specs.declared.planned_row.PlannedRow.TheVariants.{Other, Note}

-- the row of a step
abbrev pub row_of_step : PlannedRow → Row
row_of_step (Other row) = row
row_of_step (Note row filed) = kept.Note row

-- what is filed in a step
abbrev pub filed_in : PlannedRow → List Filed
filed_in (Other row) = []
filed_in (Note row filed) = filed ∷ []

-- the row isn't an annotation's
abbrev pub IsOther : Row → Type 0
IsOther (kept.Reader row) = ⊤
IsOther (kept.Manifest row) = ⊤
IsOther (kept.Note row) = ⊥
IsOther (kept.Activity activity) = ⊤

-- what is filed is the annotation's own row
abbrev pub IsSame : PlannedRow → Type 0
IsSame (Other row) = IsOther row
IsSame (Note row filed) = filed.note ≡ row

-- what is filed is the annotation's row, under its class in this state
abbrev pub IsStep : State → List Audience → PlannedRow → Type 0
IsStep s classes (Other row) = IsOther row
IsStep s classes (Note row filed) = (filed.note ≡ row) × IsFiled s classes filed

-- a live annotation whose manifest has a row then is filed under the class of what of its audience
-- decides who may read it
abbrev pub IsFiledOver : State → List ManifestState → List Audience → NoteState → ℕ → Type 0
IsFiledOver s manifests classes row class =
    (audience : Audience) → audience_over s manifests row ≡ Some audience
    → class_of (deciding audience) classes ≡ Some class

-- the same over these manifests
abbrev pub IsStepOver : State → List ManifestState → List Audience → PlannedRow → Type 0
IsStepOver s manifests classes (Other row) = IsOther row
IsStepOver s manifests classes (Note row filed) =
    (filed.note ≡ row) × IsFiledOver s manifests classes row filed.class

-- there is room for what is filed in a step
abbrev pub HasStepRoom : PlannedRow → Listings → Type 0
HasStepRoom (Other row) lists = ⊤
HasStepRoom (Note row filed) lists = HasRoom (filed ∷ []) lists
