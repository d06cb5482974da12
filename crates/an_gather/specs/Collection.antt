-- The collection of the manifests that a caller may read (IIIF Presentation API 3.0, section 5.1),
-- with the service that searches the annotations on them (IIIF Content Search API 2.0, section 3).
use Rattle.std.specs.Prelude.{ℕ, List, codes}
use Rattle.std.specs.List.{filter_map}
use Rattle.std.specs.Prelude.{Option, option_map}
use Rattle.serde_json.specs.Data.{Data, array, string, object, item, no_items, member, no_members}
use Rattle.serde_json.specs.Find.{get}
use Rattle.serde_json.specs.View.{items_of}
use Rattle.serde_json.specs.Written.{compact_text}
use Rattle.an_base.specs.Object.{with_member_if}
use Rattle.an_iri.specs.Iris.{collection_iri, gather_complete_iri, gather_search_iri, manifest_iri}
use Rattle.an_list.specs.Site.{Site}
use Rattle.an_served.specs.Manifest.{contexts}
use Rattle.an_state.specs.State.{ManifestState}
use Rattle.an_state.specs.View.{View}

-- a manifest, with the label that is kept
abbrev pub manifest_item : List ℕ → List ℕ → Data → Data
manifest_item base name tree =
    with_member_if (codes "label") (get (codes "label") tree)
    (object (member (codes "id") (string (manifest_iri base name))
    (member (codes "type") (string (codes "Manifest")) no_members)))

abbrev pub row_item : List ℕ → ManifestState → Option Data
row_item base row = option_map (λ live. manifest_item base row.name live.tree) row.live

-- the service that completes words
abbrev pub complete_service : List ℕ → Data
complete_service base =
    object (member (codes "id") (string (gather_complete_iri base))
    (member (codes "type") (string (codes "AutoCompleteService2")) no_members))

-- the service that searches, which names the one that completes words
abbrev pub search_service : List ℕ → Data
search_service base =
    object (member (codes "id") (string (gather_search_iri base))
    (member (codes "service") (array (item (complete_service base) no_items))
    (member (codes "type") (string (codes "SearchService2")) no_members)))

-- in no language
abbrev pub collection_label : Data
collection_label =
    object (member (codes "none") (array (item (string (codes "All")) no_items)) no_members)

-- the collection with these manifests
unfoldable pub collection_tree : List ℕ → List Data → Data
collection_tree base manifests =
    object (member (codes "@context") (array contexts)
    (member (codes "id") (string (collection_iri base))
    (member (codes "items") (array (items_of manifests))
    (member (codes "label") collection_label
    (member (codes "service") (array (item (search_service base) no_items))
    (member (codes "type") (string (codes "Collection")) no_members))))))

-- the answer, as text, from the caller's view only
abbrev pub collection_of : Site → View → List ℕ
collection_of site view =
    compact_text (collection_tree site.base (filter_map (row_item site.base) view.manifests))
