-- How many steps the pages of annotations take. A step is one fetch of an annotation's row. The
-- caller's view tells the number, so that nothing hidden does.
use Rattle.std.specs.Prelude.{ℕ, ◌+◌, List, Bool, Option, length, is_some}
use Rattle.std.specs.Prelude.{if◌then◌else◌}
use Rattle.std.specs.Option.{option_map_or}
use Rattle.an_base.specs.declared.span.Prefer.{Prefer}
use Rattle.an_selectors.specs.declared.region.Xywh.{Xywh}
use Rattle.an_state.specs.View.{View, manifest_in}
use Rattle.an_list.specs.Cost.{page_cost}
use Rattle.an_list.specs.Page.{page_of}
use Rattle.an_list.specs.Site.{Site}
use Rattle.an_pages.specs.Canvas.{canvas_in, notes_about}
use Rattle.an_pages.specs.Container.{notes_on}

-- the container shows its first page, unless it alone is preferred
abbrev pub first_cost : {A : Type 0} → ℕ → Bool → List A → ℕ
first_cost size minimal notes = if minimal then 0 else length (page_of 1 size notes)

abbrev pub container_cost : Site → View → List ℕ → Prefer → ℕ
container_cost site view name prefer =
    if is_some (manifest_in view name)
    then first_cost site.size prefer.minimal (notes_on view name) else 0

-- a page of it
abbrev pub container_page_cost : Site → View → List ℕ → ℕ → ℕ
container_page_cost site view name page =
    if is_some (manifest_in view name) then page_cost page site.size (notes_on view name) else 0

-- each annotation on the manifest is fetched, to see whether it is about the canvas, and each on
-- the page once more
abbrev pub about_cost : Site → View → List ℕ → Option Xywh → ℕ → List ℕ → ℕ
about_cost site view name region page id =
    length (notes_on view name) + page_cost page site.size (notes_about view name id region)

-- none without the canvas
abbrev pub canvas_page_cost : Site → View → List ℕ → ℕ → Option Xywh → ℕ → ℕ
canvas_page_cost site view name canvas region page =
    option_map_or (about_cost site view name region page) (canvas_in view name canvas) 0
