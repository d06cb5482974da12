-- The tree by which a manifest is served: the one that is kept, with its IRI, the search in the
-- annotations on it (IIIF Content
-- Search API 2.0, section 3.1) and, in each canvas, the page of the annotations on it (IIIF
-- Presentation API 3.0, section 5.3).
use Rattle.std.specs.Prelude.{ℕ, ◌+◌, List, [], ◌∷◌, Bool, bytes_eq, codes}
use Rattle.std.specs.List.{list_any}
use Rattle.serde_json.specs.Data.{Data, string, array, object, Items, no_items, item, member}
use Rattle.serde_json.specs.Data.{no_members}
use Rattle.an_base.specs.Items.{trees_in}
use Rattle.an_base.specs.Object.{with_member}
use Rattle.an_iri.specs.Iris.{canvas_page_iri, complete_iri, manifest_iri, search_iri}
use Rattle.an_manifest.specs.Manifest.{canvases_in}

-- the items, and one behind them
abbrev pub with_last : Data → Items → Items
with_last value no_items = item value no_items
with_last value (item first items) = item first (with_last value items)

-- the object with one value more behind those of its member
abbrev pub with_one_more : List ℕ → Data → Data → Data
with_one_more name value tree = with_member name (array (with_last value (trees_in name tree))) tree

-- the service that completes words
abbrev pub complete_service : List ℕ → List ℕ → Data
complete_service base name =
    object (member (codes "id") (string (complete_iri base name))
    (member (codes "type") (string (codes "AutoCompleteService2")) no_members))

-- the service that searches, which names the one that completes words
abbrev pub search_service : List ℕ → List ℕ → Data
search_service base name =
    object (member (codes "id") (string (search_iri base name))
    (member (codes "service") (array (item (complete_service base name) no_items))
    (member (codes "type") (string (codes "SearchService2")) no_members)))

-- the first page of the annotations on the canvas of this number
abbrev pub canvas_page : List ℕ → List ℕ → ℕ → Data
canvas_page base name number =
    object (member (codes "id") (string (canvas_page_iri base name number))
    (member (codes "type") (string (codes "AnnotationPage")) no_members))

-- each canvas with its page, numbered on from this number
abbrev pub dressed_canvases : List ℕ → List ℕ → ℕ → Items → Items
dressed_canvases base name number no_items = no_items
dressed_canvases base name number (item canvas canvases) =
    item (with_one_more (codes "annotations") (canvas_page base name number) canvas)
    (dressed_canvases base name (number + 1) canvases)

-- the manifest with a page in each canvas, numbered from 1
abbrev pub with_canvas_pages : List ℕ → List ℕ → Data → Data
with_canvas_pages base name tree =
    with_member (codes "items") (array (dressed_canvases base name 1 (canvases_in tree))) tree

-- the contexts of a search service and, last, of a manifest
unfoldable pub contexts : Items
contexts =
    item (string (codes "http://iiif.io/api/search/2/context.json"))
    (item (string (codes "http://iiif.io/api/presentation/3/context.json")) no_items)

-- the tree by which the manifest of this name is served
unfoldable pub dressed : List ℕ → List ℕ → Data → Data
dressed base name tree =
    with_member (codes "@context") (array contexts)
    (with_member (codes "id") (string (manifest_iri base name))
    (with_one_more (codes "service") (search_service base name)
    (with_canvas_pages base name tree)))

-- the members in which a served manifest may differ from the one that is kept
abbrev pub is_dressed : List ℕ → Bool
is_dressed name =
    list_any (bytes_eq name) (codes "@context" ∷ codes "id" ∷ codes "items" ∷ codes "service" ∷ [])
