-- The routes: what each method means at each path.
use Rattle.std.specs.Prelude.{ℕ, List, Option, Some, None, option_and_then, Bool}
use Rattle.std.specs.Prelude.{Result, Ok, Err}
use Rattle.std.specs.Result.{result_map_both}
use Rattle.an_base.specs.Outcome.{or_refuse}
use Rattle.an_code.specs.declared.code.Code.{Code}
use Rattle.an_code.specs.declared.code.Code.TheVariants as code
use Rattle.an_complete.specs.Ask.{AskRecord, ask_of}
use Rattle.an_complete.specs.declared.ask.AskError.{AskError}
use Rattle.an_complete.specs.declared.ask.AskError.TheVariants as no_ask
use Rattle.an_gather.specs.Gather.{GatherAskRecord, GatherRecord, gather_ask_of, gather_of}
use Rattle.an_gather.specs.declared.ask.GatherAskError.{GatherAskError}
use Rattle.an_gather.specs.declared.ask.GatherAskError.TheVariants as no_gather_ask
use Rattle.an_gather.specs.declared.gather.GatherError.{GatherError}
use Rattle.an_gather.specs.declared.gather.GatherError.TheVariants as no_gather
use Rattle.an_http.specs.declared.method.Method.{Method}
use Rattle.an_http.specs.declared.method.Method.TheVariants.{Get, Head, Options, Put, Delete}
use Rattle.an_http.specs.declared.reply.Allow.{Allow}
use Rattle.an_query.specs.Query.{QueryRecord, query_of}
use Rattle.an_query.specs.declared.pairs.Pair.{Pair}
use Rattle.an_query.specs.declared.query.QueryError.{QueryError}
use Rattle.an_query.specs.declared.query.QueryError.TheVariants as no_query
use Rattle.an_state.specs.declared.command.Object.{Object}
use Rattle.an_state.specs.declared.command.Object.TheVariants as object
use Rattle.an_routes.specs.Paths.{row_of, methods_of, delete_reads, object_kind, kind_of, path_of}
use Rattle.an_routes.specs.Query.{and_then, given_of, group_of, inner_of, iris_of, manifest_of}
use Rattle.an_routes.specs.Query.{page_of, page_or_first, region_of, version_of}
use Rattle.an_routes.specs.Target.{target_parts, segments_of}
use Rattle.an_routes.specs.declared.paths.Kind.{Kind}
use Rattle.an_routes.specs.declared.paths.Kind.TheVariants as kind
use Rattle.an_routes.specs.declared.paths.Path.{Path}
use Rattle.an_routes.specs.declared.paths.Path.TheVariants as path
use Rattle.an_routes.specs.declared.kinds.Read.{Read}
use Rattle.an_routes.specs.declared.kinds.Read.TheVariants as read
use Rattle.an_routes.specs.declared.kinds.WriteRoute.{WriteRoute}
use Rattle.an_routes.specs.declared.kinds.WriteRoute.TheVariants.{PutReader, DropReader}
use Rattle.an_routes.specs.declared.kinds.WriteRoute.TheVariants.{PutManifest}
use Rattle.an_routes.specs.declared.kinds.WriteRoute.TheVariants.{DropManifest, PutNote, DropNote}
use Rattle.an_routes.specs.declared.kinds.Route.{Route}
use Rattle.an_routes.specs.declared.kinds.Route.TheVariants as route
use Rattle.an_routes.specs.declared.kinds.RouteError.{RouteError}
use Rattle.an_routes.specs.declared.kinds.RouteError.TheVariants as error
use Rattle.an_routes.specs.declared.kinds.Unrouted.{Unrouted}
use Rattle.an_routes.specs.declared.kinds.Unrouted.TheVariants as unrouted

-- ---- writes

-- a number, and what is written with it and with what else is given
abbrev pub numbered : Result (List Pair) Code → (List Pair → ℕ → Result WriteRoute Code)
    → Result WriteRoute Code
numbered (Ok given) write = or_refuse code.VersionForm (version_of given) (write given)
numbered (Err refusal) write = Err refusal

abbrev pub grouped : {G : Type 0} → (List Pair → Option G) → (G → WriteRoute) → List Pair
    → Result WriteRoute Code
grouped read write given = or_refuse code.Group (read given) (λ group. Ok (write group))

abbrev pub manifest_put : List ℕ → List Pair → ℕ → Result WriteRoute Code
manifest_put name given version = grouped group_of (PutManifest name version) given

-- the manifest, and then the group
abbrev pub note_put : List ℕ → List ℕ → List Pair → ℕ → Result WriteRoute Code
note_put owner name given version =
    or_refuse code.Manifest (manifest_of given)
    (λ manifest. grouped inner_of (PutNote owner name version manifest) given)

abbrev pub put_with : Object → List Pair → ℕ → Result WriteRoute Code
put_with (object.Reader name) given version = Ok (PutReader name version)
put_with (object.Manifest name) given version = manifest_put name given version
put_with (object.Note owner name) given version = note_put owner name given version

abbrev pub put_of : Object → List ℕ → Result WriteRoute Code
put_of object query = numbered (given_of (row_of (object_kind object)).put query) (put_with object)

abbrev pub deletion : Object → ℕ → WriteRoute
deletion (object.Reader name) version = DropReader name version
deletion (object.Manifest name) version = DropManifest name version
deletion (object.Note owner name) version = DropNote owner name version

abbrev pub deletion_of : Object → List ℕ → Result WriteRoute Code
deletion_of object query =
    numbered (given_of delete_reads query) (λ given version. Ok (deletion object version))

abbrev pub written : Result WriteRoute Code → Result Route Unrouted
written = result_map_both route.Write unrouted.Query

abbrev pub put_at : Path → List ℕ → Result Route Unrouted
put_at (path.Object object) query = written (put_of object query)
put_at _ query = Err unrouted.Method

abbrev pub delete_at : Path → List ℕ → Result Route Unrouted
delete_at (path.Object object) query = written (deletion_of object query)
delete_at _ query = Err unrouted.Method

-- ---- reads

abbrev pub query_refused : QueryError → Unrouted
query_refused (no_query.Twice name) = unrouted.Query (code.Twice name)
query_refused (no_query.Date at) = unrouted.Query (code.Date at)
query_refused no_query.Page = unrouted.Query code.Page
query_refused no_query.Bytes = unrouted.Query code.Bytes
query_refused no_query.Memory = unrouted.Memory

abbrev pub searched : List ℕ → Result QueryRecord QueryError → Result Read Unrouted
searched manifest = result_map_both (read.Search manifest) query_refused

abbrev pub ask_refused : AskError → Unrouted
ask_refused no_ask.NoPrefix = unrouted.Query code.Prefix
ask_refused no_ask.Min = unrouted.Query code.Min
ask_refused (no_ask.Twice name) = unrouted.Query (code.Twice name)
ask_refused (no_ask.Date at) = unrouted.Query (code.Date at)
ask_refused no_ask.Bytes = unrouted.Query code.Bytes
ask_refused no_ask.Memory = unrouted.Memory

abbrev pub completed : List ℕ → Result AskRecord AskError → Result Read Unrouted
completed manifest = result_map_both (read.Complete manifest) ask_refused

abbrev pub gather_refused : GatherError → Unrouted
gather_refused (no_gather.Manifests at) = unrouted.Query (code.Manifests at)
gather_refused (no_gather.Query error) = query_refused error

abbrev pub gather_ask_refused : GatherAskError → Unrouted
gather_ask_refused (no_gather_ask.Manifests at) = unrouted.Query (code.Manifests at)
gather_ask_refused (no_gather_ask.Ask error) = ask_refused error

-- a search and a completion on several manifests
abbrev pub gathered : Result GatherRecord GatherError → Result Read Unrouted
gathered = result_map_both read.GatherSearch gather_refused

abbrev pub gather_completed : Result GatherAskRecord GatherAskError → Result Read Unrouted
gather_completed = result_map_both read.GatherComplete gather_ask_refused

-- what is read by what is given, or the refusal of that
abbrev pub read_by : Result (List Pair) Code → (List Pair → Result Read Code)
    → Result Read Unrouted
read_by given read = result_map_both (λ read. read) unrouted.Query (and_then given read)

-- a read that no parameter changes
abbrev pub shown : Read → Result (List Pair) Code → Result Read Unrouted
shown read given = read_by given (λ given. Ok read)

abbrev pub changes_at : Option ℕ → Read
changes_at (Some page) = read.ChangesPage page
changes_at None = read.Changes

abbrev pub changes_read : Result (List Pair) Code → Result Read Unrouted
changes_read given =
    read_by given (λ given. and_then (page_of given) (λ page. Ok (changes_at page)))

abbrev pub container_at : List ℕ → Option ℕ → Bool → Read
container_at manifest (Some page) iris = read.ContainerPage manifest page iris
container_at manifest None iris = read.Container manifest iris

-- the page, and then whether IRIs are asked for
abbrev pub container_read : List ℕ → Result (List Pair) Code → Result Read Unrouted
container_read manifest given =
    read_by given (λ given. and_then (page_of given) (λ page.
    and_then (iris_of given) (λ iris. Ok (container_at manifest page iris))))

-- the page, the first where none is asked for, and then the region
abbrev pub canvas_read : List ℕ → ℕ → Result (List Pair) Code → Result Read Unrouted
canvas_read manifest canvas given =
    read_by given (λ given. and_then (page_or_first given) (λ page.
    and_then (region_of given) (λ region. Ok (read.Canvas manifest canvas region page))))

-- the page that is asked for, the first where none is, or the refusal of what is given
abbrev pub page_asked : Result (List Pair) Code → Result ℕ Unrouted
page_asked given = result_map_both (λ page. page) unrouted.Query (and_then given page_or_first)

-- that page
abbrev pub page_read : (ℕ → Read) → Result (List Pair) Code → Result Read Unrouted
page_read read given = result_map_both read (λ why. why) (page_asked given)

abbrev pub object_read : Object → List ℕ → Result Read Unrouted
object_read (object.Reader name) query = Err unrouted.Method
object_read (object.Manifest name) query =
    shown (read.Manifest name) (given_of (row_of kind.Manifest).get query)
object_read (object.Note owner name) query =
    shown (read.Note owner name) (given_of (row_of kind.Note).get query)

abbrev pub read_at : Path → List ℕ → Result Read Unrouted
read_at (path.Object object) query = object_read object query
read_at (path.Search manifest) query = searched manifest (query_of (row_of kind.Search).get query)
read_at (path.Complete manifest) query = completed manifest (ask_of query)
read_at (path.Canvas manifest canvas) query =
    canvas_read manifest canvas (given_of (row_of kind.Canvas).get query)
read_at (path.Container manifest) query =
    container_read manifest (given_of (row_of kind.Container).get query)
read_at path.Changes query = changes_read (given_of (row_of kind.Changes).get query)
read_at (path.Anchors owner name) query =
    page_read (read.Anchors owner name) (given_of (row_of kind.Anchors).get query)
read_at (path.Orphans manifest) query =
    page_read (read.Orphans manifest) (given_of (row_of kind.Orphans).get query)
read_at path.Collection query =
    shown read.Collection (given_of (row_of kind.Collection).get query)
read_at path.GatherSearch query = gathered (gather_of query)
read_at path.GatherComplete query = gather_completed (gather_ask_of query)

-- ---- all routes

abbrev pub reading : Result Read Unrouted → Result Route Unrouted
reading = result_map_both route.Read (λ why. why)

-- what a method means at a path; HEAD is GET without the body (RFC 9110, section 9.3.2)
abbrev pub meant_at : Path → List ℕ → Option Method → Result Route Unrouted
meant_at path query None = Err unrouted.Method
meant_at path query (Some Options) = Ok (route.Options (methods_of (kind_of path)))
meant_at path query (Some Get) = reading (read_at path query)
meant_at path query (Some Head) = reading (read_at path query)
meant_at path query (Some Put) = put_at path query
meant_at path query (Some Delete) = delete_at path query

-- why a path with these methods has no such route
abbrev pub told : Allow → Unrouted → RouteError
told methods unrouted.Method = error.Method methods
told methods (unrouted.Query refusal) = error.Query methods refusal
told methods unrouted.Memory = error.Memory

abbrev pub route_at : Path → List ℕ → Option Method → Result Route RouteError
route_at path query method =
    result_map_both (λ route. route) (told (methods_of (kind_of path))) (meant_at path query method)

abbrev pub route_to : Option Method → Option (List ℕ × List ℕ) → Result Route RouteError
route_to method None = Err error.Target
route_to method (Some parts) =
    or_refuse error.Route (option_and_then path_of (segments_of parts.0))
    (λ path. route_at path parts.1 method)

-- the route of a method and a target, or the first refusal
unfoldable pub route_of : Option Method → List ℕ → Result Route RouteError
route_of method target = route_to method (target_parts target)

-- ---- the methods that a reply tells

abbrev pub read_kind : Read → Kind
read_kind (read.Manifest name) = kind.Manifest
read_kind (read.Note owner name) = kind.Note
read_kind (read.Search manifest query) = kind.Search
read_kind (read.Complete manifest ask) = kind.Complete
read_kind (read.Canvas manifest canvas region page) = kind.Canvas
read_kind (read.Container manifest iris) = kind.Container
read_kind (read.ContainerPage manifest page iris) = kind.Container
read_kind read.Changes = kind.Changes
read_kind (read.ChangesPage page) = kind.Changes
read_kind (read.Anchors owner name page) = kind.Anchors
read_kind (read.Orphans manifest page) = kind.Orphans
read_kind read.Collection = kind.Collection
read_kind (read.GatherSearch gather) = kind.GatherSearch
read_kind (read.GatherComplete ask) = kind.GatherComplete

abbrev pub read_methods : Read → Allow
read_methods read = methods_of (read_kind read)

abbrev pub write_kind : WriteRoute → Kind
write_kind (PutReader name version) = kind.Reader
write_kind (DropReader name version) = kind.Reader
write_kind (PutManifest name version group) = kind.Manifest
write_kind (DropManifest name version) = kind.Manifest
write_kind (PutNote owner name version manifest group) = kind.Note
write_kind (DropNote owner name version) = kind.Note

abbrev pub write_methods : WriteRoute → Allow
write_methods write = methods_of (write_kind write)
