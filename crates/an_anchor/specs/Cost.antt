-- How many steps comments take. A step is one fetch of an annotation's row.
use Rattle.std.specs.Prelude.{ℕ, List, length, is_some, if◌then◌else◌}
use Rattle.std.specs.Option.{option_map_or}
use Rattle.an_state.specs.View.{View, manifest_in}
use Rattle.an_pages.specs.Container.{notes_on}
use Rattle.an_anchor.specs.Comments.{live_in}

-- each annotation of the view on the manifest is fetched once, whichever page is asked for; none
-- without the annotation
abbrev pub anchors_cost : View → List ℕ → List ℕ → ℕ
anchors_cost view owner name =
    option_map_or (λ live. length (notes_on view live.manifest)) (live_in view owner name) 0

-- the same without the manifest
abbrev pub orphans_cost : View → List ℕ → ℕ
orphans_cost view manifest =
    if is_some (manifest_in view manifest) then length (notes_on view manifest) else 0
