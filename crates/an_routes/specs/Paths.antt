-- The paths of the server: the table of their kinds, and the path of a target's segments.
use Rattle.std.specs.Prelude.{ℕ, List, [], ◌∷◌, bytes_eq, codes, if◌then◌else◌, Option, Some, None}
use Rattle.std.specs.Prelude.{option_and_then, option_map, length, ◌==◌}
use Rattle.an_base.specs.Name.{name_in}
use Rattle.an_code.specs.declared.parameter.Parameter.{Parameter}
use Rattle.an_code.specs.declared.parameter.Parameter.TheVariants.{Version, Manifest, Group, Page}
use Rattle.an_code.specs.declared.parameter.Parameter.TheVariants.{Iris, Xywh}
use Rattle.an_complete.specs.Ask.{ask_parameters}
use Rattle.an_gather.specs.Gather.{gather_ask_parameters, gather_parameters}
use Rattle.an_http.specs.declared.reply.Allow.{Allow}
use Rattle.an_http.specs.declared.reply.Allow.TheVariants.{Full, ReadOnly, WriteOnly}
use Rattle.an_query.specs.Given.{number_in}
use Rattle.an_query.specs.Query.{search_parameters}
use Rattle.an_state.specs.declared.command.Object.{Object}
use Rattle.an_state.specs.declared.command.Object.TheVariants as object
use Rattle.an_routes.specs.declared.paths.Kind.{Kind}
use Rattle.an_routes.specs.declared.paths.Kind.TheVariants as kind
use Rattle.an_routes.specs.declared.paths.Path.{Path}
use Rattle.an_routes.specs.declared.paths.Path.TheVariants as path

-- ---- the table

-- the methods of a kind of path, and the parameters that a GET and a PUT read there
pub record Row : Type 0 where
  pub methods : Allow
  pub get : List Parameter
  pub put : List Parameter

abbrev pub row : Allow → List Parameter → List Parameter → Row
row methods get put = record { methods = methods; get = get; put = put }

-- a GET that reads only which page is asked for
abbrev pub page_reads : List Parameter
page_reads = Page ∷ []

-- the kinds of paths, each with its methods, what a GET reads, and what a PUT reads
abbrev pub row_of : Kind → Row
row_of kind.Reader = row WriteOnly [] (Version ∷ [])
row_of kind.Manifest = row Full [] (Version ∷ Group ∷ [])
row_of kind.Note = row Full [] (Version ∷ Manifest ∷ Group ∷ [])
row_of kind.Search = row ReadOnly search_parameters []
row_of kind.Complete = row ReadOnly ask_parameters []
row_of kind.Canvas = row ReadOnly (Page ∷ Xywh ∷ []) []
row_of kind.Container = row ReadOnly (Page ∷ Iris ∷ []) []
row_of kind.Changes = row ReadOnly page_reads []
row_of kind.Anchors = row ReadOnly page_reads []
row_of kind.Orphans = row ReadOnly page_reads []
row_of kind.Collection = row ReadOnly [] []
row_of kind.GatherSearch = row ReadOnly gather_parameters []
row_of kind.GatherComplete = row ReadOnly gather_ask_parameters []

abbrev pub methods_of : Kind → Allow
methods_of kind = (row_of kind).methods

-- a DELETE reads the number of the write alone
abbrev pub delete_reads : List Parameter
delete_reads = Version ∷ []

-- ---- the kind of a path

abbrev pub object_kind : Object → Kind
object_kind (object.Reader name) = kind.Reader
object_kind (object.Manifest name) = kind.Manifest
object_kind (object.Note owner name) = kind.Note

abbrev pub kind_of : Path → Kind
kind_of (path.Object object) = object_kind object
kind_of (path.Search manifest) = kind.Search
kind_of (path.Complete manifest) = kind.Complete
kind_of (path.Canvas manifest canvas) = kind.Canvas
kind_of (path.Container manifest) = kind.Container
kind_of path.Changes = kind.Changes
kind_of (path.Anchors owner name) = kind.Anchors
kind_of (path.Orphans manifest) = kind.Orphans
kind_of path.Collection = kind.Collection
kind_of path.GatherSearch = kind.GatherSearch
kind_of path.GatherComplete = kind.GatherComplete

-- ---- the path of segments: the words that are said first, and the names behind them

-- `/changes`
abbrev pub changes_path : List (List ℕ) → Option Path
changes_path [] = Some path.Changes
changes_path _ = None

-- `/collection`
abbrev pub collection_path : List (List ℕ) → Option Path
collection_path [] = Some path.Collection
collection_path _ = None

-- `/gather/search` and `/gather/autocomplete`
abbrev pub gather_path : List (List ℕ) → Option Path
gather_path (part ∷ []) =
    if bytes_eq part (codes "search") then Some path.GatherSearch
    else (if bytes_eq part (codes "autocomplete") then Some path.GatherComplete else None)
gather_path _ = None

-- the name that segments are, if they are one alone
abbrev pub name_alone : List (List ℕ) → Option (List ℕ)
name_alone (name ∷ []) = name_in name
name_alone _ = None

-- a word and a name alone
abbrev pub named_path : (List ℕ → Path) → List (List ℕ) → Option Path
named_path path rest = option_map path (name_alone rest)

-- `/manifests/M/annotations/`, with nothing behind the last `/`
abbrev pub container_path : List ℕ → List ℕ → Option Path
container_path manifest last =
    if length last == 0 then Some (path.Container manifest) else None

-- `/manifests/M/canvases/K`
abbrev pub canvas_path : List ℕ → List ℕ → Option Path
canvas_path manifest last = option_map (path.Canvas manifest) (number_in last)

-- `/manifests/M/orphans`
abbrev pub orphans_path : List ℕ → List ℕ → Option Path
orphans_path manifest part =
    if bytes_eq part (codes "orphans") then Some (path.Orphans manifest) else None

-- what stands behind the name of a manifest
abbrev pub manifest_part : List ℕ → List (List ℕ) → Option Path
manifest_part manifest [] = Some (path.Object (object.Manifest manifest))
manifest_part manifest (part ∷ []) = orphans_path manifest part
manifest_part manifest (part ∷ last ∷ []) =
    if bytes_eq part (codes "annotations") then container_path manifest last
    else (if bytes_eq part (codes "canvases") then canvas_path manifest last else None)
manifest_part manifest _ = None

-- `/manifests/M`, and what stands behind it
abbrev pub manifest_path : List (List ℕ) → Option Path
manifest_path (name ∷ rest) =
    option_and_then (λ manifest. manifest_part manifest rest) (name_in name)
manifest_path [] = None

-- `/annotations/OWNER/N/anchors`
abbrev pub anchors_path : List ℕ → List ℕ → List ℕ → Option Path
anchors_path owner name part =
    if bytes_eq part (codes "anchors") then Some (path.Anchors owner name) else None

-- what stands behind the names of an annotation
abbrev pub note_part : List ℕ → List ℕ → List (List ℕ) → Option Path
note_part owner name [] = Some (path.Object (object.Note owner name))
note_part owner name (part ∷ []) = anchors_path owner name part
note_part owner name _ = None

-- `/annotations/OWNER/N`, and what stands behind it
abbrev pub note_path : List (List ℕ) → Option Path
note_path (owner ∷ name ∷ rest) =
    option_and_then (λ owner. option_and_then (λ name. note_part owner name rest) (name_in name))
    (name_in owner)
note_path _ = None

-- the path of these segments; N, M and OWNER are names
unfoldable pub path_of : List (List ℕ) → Option Path
path_of [] = None
path_of (kind ∷ rest) =
    if bytes_eq kind (codes "readers")
    then named_path (λ name. path.Object (object.Reader name)) rest
    else (if bytes_eq kind (codes "manifests") then manifest_path rest
    else (if bytes_eq kind (codes "annotations") then note_path rest
    else (if bytes_eq kind (codes "search") then named_path path.Search rest
    else (if bytes_eq kind (codes "autocomplete") then named_path path.Complete rest
    else (if bytes_eq kind (codes "changes") then changes_path rest
    else (if bytes_eq kind (codes "collection") then collection_path rest
    else (if bytes_eq kind (codes "gather") then gather_path rest else None)))))))
