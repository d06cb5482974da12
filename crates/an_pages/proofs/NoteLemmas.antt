-- The annotations about a canvas, and the page of them that is asked for.
use Rattle.std.proofs.Common.{◌≡◌, ℕ, List, [], ◌∷◌, map, Bool, true, false, cond, ◌||◌, Option, Some, None, refl, ap, subst}
use Rattle.std.specs.Prelude.{filter, slice_get}
use Rattle.std.specs.List.{filter_map, cons_option, list_any}
use Rattle.an_base.specs.Outcome.{passes}
use Rattle.an_selectors.specs.declared.region.Xywh.{Xywh}
use Rattle.an_model.specs.Targets.{kept_target}
use Rattle.an_model.specs.declared.target.Target.{Target}
use Rattle.an_policy.specs.Audience.{Identity}
use Rattle.an_state.specs.State.{State, NoteState}
use Rattle.an_state.specs.View.{view_of, readable_places}
use Rattle.an_list.proofs.ReadableLemmas.{readable_rows}
use Rattle.an_list.specs.Listed.{StandAt}
use Rattle.an_pages.specs.Canvas.{is_kept_in, is_row_about, is_target_in, notes_about, passes_at}

-- ---- what is about a canvas

-- what is kept of the targets tells whether one of them is on the canvas
pub kept_about : (canvas : List ℕ) (asked : Option Xywh) (targets : List Target)
    → list_any (is_kept_in canvas asked) (map kept_target targets)
    ≡ list_any (is_target_in canvas asked) targets
kept_about canvas asked [] = refl
kept_about canvas asked (target ∷ targets) =
    ap (λ others. is_target_in canvas asked target || others) (kept_about canvas asked targets)

-- ---- at places

-- the annotations at the places where a test passes are those at all places that pass it
stand_passing : (test : NoteState → Bool) (notes : List NoteState) (places : List ℕ)
    → StandAt notes (filter (passes_at test notes) places)
    (filter test (filter_map (slice_get notes) places))
stand_passing test notes [] = refl
stand_passing test notes (place ∷ places) =
    by (slice_get notes place) refl (stand_passing test notes places)
  where
    kept : (row : NoteState) (b : Bool) → slice_get notes place ≡ Some row
        → StandAt notes (filter (passes_at test notes) places)
        (filter test (filter_map (slice_get notes) places))
        → map (slice_get notes) (cond b (place ∷ filter (passes_at test notes) places)
        (filter (passes_at test notes) places))
        ≡ map Some (cond b (row ∷ filter test (filter_map (slice_get notes) places))
        (filter test (filter_map (slice_get notes) places)))
    kept row true at rest = rw (at, rest) refl
    kept row false at rest = rest

    by : (found : Option NoteState) → slice_get notes place ≡ found
        → StandAt notes (filter (passes_at test notes) places)
        (filter test (filter_map (slice_get notes) places))
        → map (slice_get notes) (cond (passes test found)
        (place ∷ filter (passes_at test notes) places) (filter (passes_at test notes) places))
        ≡ map Some (filter test (cons_option found (filter_map (slice_get notes) places)))
    by None at rest = rest
    by (Some row) at rest = kept row (test row) at rest

-- the annotations of the view that are about the canvas stand at the readable places that are
pub about_stand : (s : State) (who : Identity) (manifest canvas : List ℕ) (region : Option Xywh)
    → StandAt s.notes
    (filter (passes_at (is_row_about canvas region) s.notes) (readable_places s who manifest))
    (notes_about (view_of s who) manifest canvas region)
unfolding notes_about
about_stand s who manifest canvas region =
    subst (λ rows. StandAt s.notes
    (filter (passes_at (is_row_about canvas region) s.notes) (readable_places s who manifest))
    (filter (is_row_about canvas region) rows))
    (readable_rows s who manifest)
    (stand_passing (is_row_about canvas region) s.notes (readable_places s who manifest))
