-- A page of the annotations on a canvas (IIIF Presentation API 3.0, sections 5.3 and 5.5), or on a
-- region of it.
use Rattle.std.specs.Prelude.{ℕ, ◌+◌, ◌-◌, List, [], ◌++◌, filter, codes, decimal, nat_lt}
use Rattle.std.specs.Prelude.{bytes_eq, slice_get, Bool, true, ◌&&◌, if◌then◌else◌}
use Rattle.std.specs.Prelude.{Option, None, Some, option_and_then, Result}
use Rattle.std.specs.List.{list_any}
use Rattle.serde_json.specs.Data.{Data}
use Rattle.an_base.specs.Outcome.{or_refuse, passes}
use Rattle.an_iri.specs.Iris.{canvas_iri}
use Rattle.an_selectors.specs.declared.region.Xywh.{Xywh}
use Rattle.an_model.specs.Targets.{targets_of}
use Rattle.an_model.specs.declared.kept.KeptTarget.{KeptTarget}
use Rattle.an_model.specs.declared.target.Target.{Target}
use Rattle.an_manifest.specs.Manifest.{canvases_of}
use Rattle.an_state.specs.State.{ManifestState, NoteState}
use Rattle.an_state.specs.View.{View, is_on, manifest_in}
use Rattle.an_list.specs.Notes.{notes_text}
use Rattle.an_list.specs.Site.{Site}
use Rattle.an_list.specs.declared.page.PagedList.{PagedList}
use Rattle.an_list.specs.declared.error.ReadError.{ReadError}
use Rattle.an_list.specs.declared.error.ReadError.TheVariants.{Absent}

-- ---- regions

-- two stretches, each from its start and of its size, have a pixel in common
abbrev pub cross : ℕ → ℕ → ℕ → ℕ → Bool
cross start size other other_size = nat_lt start (other + other_size) && nat_lt other (start + size)

-- two regions have a pixel in common
abbrev pub overlap : Xywh → Xywh → Bool
overlap one other = cross one.x one.w other.x other.w && cross one.y one.h other.y other.h

-- all meets where no region is asked for; what has no region is about the whole canvas, and so
-- about each region of it
abbrev pub meets : Option Xywh → Option Xywh → Bool
meets None region = true
meets (Some asked) None = true
meets (Some asked) (Some region) = overlap asked region

-- ---- what is on a canvas

-- the target is on the canvas; where a region is asked for, it meets that
abbrev pub is_target_in : List ℕ → Option Xywh → Target → Bool
is_target_in canvas asked target = bytes_eq target.source canvas && meets asked target.region

-- one of the targets is
abbrev pub is_about : List ℕ → Option Xywh → Data → Bool
is_about canvas asked tree = list_any (is_target_in canvas asked) (targets_of tree)

abbrev pub is_row_about : List ℕ → Option Xywh → NoteState → Bool
is_row_about canvas region row = passes (λ live. is_about canvas region live.tree) row.live

-- the annotations of the view on the manifest that are about the canvas, or the region of it
unfoldable pub notes_about : View → List ℕ → List ℕ → Option Xywh → List NoteState
notes_about view manifest canvas region =
    filter (is_row_about canvas region) (filter (is_on manifest) view.notes)

-- ---- a canvas by its number

-- the id of the canvas of this number, from 1
abbrev pub canvas_at : ℕ → List (List ℕ) → Option (List ℕ)
canvas_at number canvases =
    if nat_lt 0 number then slice_get canvases (number - 1) else None

abbrev pub row_canvas : ℕ → ManifestState → Option (List ℕ)
row_canvas number row =
    option_and_then (λ live. canvas_at number (canvases_of live.tree)) row.live

-- that of the manifest of this name in the view
abbrev pub canvas_in : View → List ℕ → ℕ → Option (List ℕ)
canvas_in view name number = option_and_then (row_canvas number) (manifest_in view name)

-- ---- the answer

-- the context of annotation pages (IIIF Presentation API 3.0)
abbrev pub presentation_context : List ℕ
presentation_context = codes "http://iiif.io/api/presentation/3/context.json"

-- a region as a form: `xywh=X,Y,W,H`, its commas escaped
abbrev pub region_form : Option Xywh → List ℕ
region_form None = []
region_form (Some region) =
    codes "xywh=" ++ (decimal region.x ++ (codes "%2C" ++ (decimal region.y ++ (codes "%2C"
    ++ (decimal region.w ++ (codes "%2C" ++ decimal region.h))))))

-- all annotations on the canvas, or on the region
abbrev pub canvas_whole : List ℕ → List ℕ → ℕ → Option Xywh → PagedList
canvas_whole base name canvas region = record {
  path = canvas_iri base name canvas;
  parameters = region_form region;
}

-- the answer, from the caller's view alone
unfoldable pub canvas_page_of
    : Site → View → List ℕ → ℕ → Option Xywh → ℕ → Result (List ℕ) ReadError
canvas_page_of site view name canvas region page =
    or_refuse Absent (canvas_in view name canvas) (λ id.
    notes_text site presentation_context (canvas_whole site.base name canvas region) page [] []
    (notes_about view name id region))

-- ---- for private clauses

-- the same of what is kept of a target
abbrev pub is_kept_in : List ℕ → Option Xywh → KeptTarget → Bool
is_kept_in canvas asked kept = bytes_eq kept.source canvas && meets asked kept.region

-- there is an annotation at the place, and it passes the test
abbrev pub passes_at : (NoteState → Bool) → List NoteState → ℕ → Bool
passes_at test notes place = passes test (slice_get notes place)
