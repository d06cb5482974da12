-- A manifest of the IIIF Presentation API 3.0 (section 5.2), as it is sent and as it is kept.
use Rattle.std.specs.Prelude.{ℕ, List, [], ◌∷◌, Bool, not, ◌&&◌, ◌||◌, ◌==◌, codes, is_some}
use Rattle.std.specs.Prelude.{is_none, Option, option_map, option_and_then, unwrap_or, Result}
use Rattle.serde_json.specs.Data.{Data, Items, no_items}
use Rattle.serde_json.specs.Find.{get, as_array}
use Rattle.serde_json.specs.Events.{items_len}
use Rattle.an_base.specs.Outcome.{when, first_of, unless, passes}
use Rattle.an_base.specs.Items.{first_bad}
use Rattle.an_base.specs.Member.{has_type}
use Rattle.an_base.specs.Object.{without_member}
use Rattle.an_manifest.specs.Shape.{is_language_map, is_canvas, canvas_ids}
use Rattle.an_manifest.specs.declared.sheet.SheetError.{SheetError}
use Rattle.an_manifest.specs.declared.sheet.SheetError.TheVariants.{WrongType, Label}
use Rattle.an_manifest.specs.declared.sheet.SheetError.TheVariants.{Items as NoItems, Canvas}
use Rattle.an_manifest.specs.declared.sheet.SheetError.TheVariants.{Version2}

-- a manifest of the Presentation API 2 has one of these members
abbrev pub is_version_2 : Data → Bool
is_version_2 tree = is_some (get (codes "@type") tree) || is_some (get (codes "sequences") tree)

-- the items of an array, where there is one
abbrev pub array_in : Option Data → Items
array_in value = unwrap_or (option_and_then as_array value) no_items

-- the items of a manifest, which are its canvases
abbrev pub canvases_in : Data → Items
canvases_in tree = array_in (get (codes "items") tree)

-- why a tree is no manifest, in the order of the refusals
unfoldable pub manifest_refusals : Data → List (Option SheetError)
manifest_refusals tree =
    when (is_version_2 tree) Version2
    ∷ when (not (has_type (codes "Manifest") tree)) WrongType
    ∷ when (not (passes is_language_map (get (codes "label") tree))) Label
    ∷ when (items_len (canvases_in tree) == 0) NoItems
    ∷ option_map Canvas (first_bad is_canvas (canvases_in tree))
    ∷ []

-- nothing refuses the tree as a manifest
unfoldable pub is_manifest : Data → Bool
is_manifest tree = is_none (first_of (manifest_refusals tree))

-- what is kept of a manifest: the server writes its own `@context` and `id`
unfoldable pub kept_tree : Data → Data
kept_tree tree = without_member (codes "id") (without_member (codes "@context") tree)

-- a manifest without the members that aren't kept
unfoldable pub is_kept : Data → Bool
is_kept tree =
    is_manifest tree && is_none (get (codes "@context") tree) && is_none (get (codes "id") tree)

-- What is kept of the manifest that a tree is, or the first refusal.
unfoldable pub manifest_of : Data → Result Data SheetError
manifest_of tree = unless (first_of (manifest_refusals tree)) (kept_tree tree)

-- the ids of a manifest's canvases, in their order
abbrev pub canvases_of : Data → List (List ℕ)
canvases_of tree = canvas_ids (canvases_in tree)
