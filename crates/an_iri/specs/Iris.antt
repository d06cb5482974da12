-- The IRIs of what the server gives. Each begins with its base, as `http://a.example`.
use Rattle.std.specs.Prelude.{ℕ, List, ◌++◌, codes, decimal}

abbrev pub reader_iri : List ℕ → List ℕ → List ℕ
reader_iri base name = base ++ (codes "/readers/" ++ name)

abbrev pub manifest_iri : List ℕ → List ℕ → List ℕ
manifest_iri base name = base ++ (codes "/manifests/" ++ name)

-- an annotation, by the names of its owner and of its own
abbrev pub note_iri : List ℕ → List ℕ → List ℕ → List ℕ
note_iri base owner name = base ++ (codes "/annotations/" ++ (owner ++ (codes "/" ++ name)))

-- the comments on an annotation, with where they hold
abbrev pub anchors_iri : List ℕ → List ℕ → List ℕ → List ℕ
anchors_iri base owner name = note_iri base owner name ++ codes "/anchors"

-- ---- of a manifest

-- the container of the annotations on it
abbrev pub container_iri : List ℕ → List ℕ → List ℕ
container_iri base name = base ++ (codes "/manifests/" ++ (name ++ codes "/annotations/"))

-- the annotations on its canvas of this number, and their first page
abbrev pub canvas_iri : List ℕ → List ℕ → ℕ → List ℕ
canvas_iri base name number =
    base ++ (codes "/manifests/" ++ (name ++ (codes "/canvases/" ++ decimal number)))

abbrev pub canvas_page_iri : List ℕ → List ℕ → ℕ → List ℕ
canvas_page_iri base name number =
    base ++ (codes "/manifests/" ++ (name ++ (codes "/canvases/" ++ (decimal number
    ++ codes "?page=1"))))

-- the service that searches the annotations on it, and the one that completes their words
abbrev pub search_iri : List ℕ → List ℕ → List ℕ
search_iri base name = base ++ (codes "/search/" ++ name)

abbrev pub complete_iri : List ℕ → List ℕ → List ℕ
complete_iri base name = base ++ (codes "/autocomplete/" ++ name)

-- the comments on it that have lost what they are about
abbrev pub orphans_iri : List ℕ → List ℕ → List ℕ
orphans_iri base name = base ++ (codes "/manifests/" ++ (name ++ codes "/orphans"))

-- ---- of all manifests

-- the collection of them
abbrev pub collection_iri : List ℕ → List ℕ
collection_iri base = base ++ codes "/collection"

-- the service that searches the annotations on them, and the one that completes their words
abbrev pub gather_search_iri : List ℕ → List ℕ
gather_search_iri base = base ++ codes "/gather/search"

abbrev pub gather_complete_iri : List ℕ → List ℕ
gather_complete_iri base = base ++ codes "/gather/autocomplete"

-- ---- of changes and marks

-- the stream of changes
abbrev pub changes_iri : List ℕ → List ℕ
changes_iri base = base ++ codes "/changes"

-- the mark of this number on the page of this IRI
abbrev pub mark_iri : List ℕ → ℕ → List ℕ
mark_iri page number = page ++ (codes "#match-" ++ decimal number)
