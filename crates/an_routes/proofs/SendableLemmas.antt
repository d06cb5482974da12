-- What a route writes has a number from 1 to 999,999,999, and a manifest's group is one.
use Rattle.std.proofs.Common.{◌≡◌, ℕ, ◌^◌, ◌&&◌, Bool, true, false, nat_le, nat_lt, List, Option, Some, None, Result, Ok, Err, IsTrue, refl, sym, ap, ◌∙◌, arith}
use Rattle.std.specs.Prelude.{IfOk, IfSome, option_and_then, if◌then◌else◌}
use Rattle.std.specs.Result.{result_map_both}
use Rattle.std.proofs.lemmas.Bool.{and_from}
use Rattle.std.proofs.lemmas.Bool.Decides.{nat_tests}
use Rattle.std.proofs.lemmas.Result.{IfOk-at_ok}
use Rattle.serde_json.specs.Data.{Data}
use Rattle.an_base.specs.Decimal.{decimal_of}
use Rattle.an_base.specs.Outcome.{only_if, or_refuse}
use Rattle.an_base.specs.Tree.{tree_of}
use Rattle.an_base.specs.declared.tree.TreeError.{TreeError}
use Rattle.an_code.specs.declared.code.Code.{Code}
use Rattle.an_code.specs.declared.code.Code.TheVariants as code
use Rattle.an_code.specs.declared.parameter.Parameter.TheVariants as parameter
use Rattle.an_http.specs.declared.method.Method.{Method}
use Rattle.an_http.specs.declared.method.Method.TheVariants.{Get, Head, Options, Put, Delete}
use Rattle.an_policy.specs.Group.{group_named, is_valid_group}
use Rattle.an_policy.specs.declared.group.Group.{Group}
use Rattle.an_policy.specs.declared.inner.Inner.{Inner}
use Rattle.an_policy.proofs.GroupLemmas.{valid}
use Rattle.an_query.specs.Given.{number_in, value_of}
use Rattle.an_query.specs.Given as given
use Rattle.an_query.specs.declared.pairs.Pair.{Pair}
use Rattle.an_state.specs.Commands.{is_number, is_sendable}
use Rattle.an_state.specs.declared.command.Command.{Command}
use Rattle.an_state.specs.declared.command.Command.TheVariants as command
use Rattle.an_state.specs.declared.command.Object.{Object}
use Rattle.an_state.specs.declared.command.Object.TheVariants as object
use Rattle.an_routes.specs.Commands.{command_of, is_sendable_route, is_sendable_write, with_tree}
use Rattle.an_routes.specs.Paths.{delete_reads, kind_of, methods_of, object_kind, path_of, row_of}
use Rattle.an_routes.specs.Query.{given_of, group_in, group_of, inner_of, manifest_of, version_of}
use Rattle.an_routes.specs.Routes.{delete_at, deletion, deletion_of, grouped, manifest_put, meant_at, numbered, put_at, put_of, put_with, read_at, reading, route_at, route_of, route_to, told, written}
use Rattle.an_routes.specs.Target.{segments_of, target_parts}
use Rattle.an_routes.specs.declared.paths.Path.{Path}
use Rattle.an_routes.specs.declared.paths.Path.TheVariants as path
use Rattle.an_routes.specs.declared.kinds.Read.{Read}
use Rattle.an_routes.specs.declared.kinds.Route.{Route}
use Rattle.an_routes.specs.declared.kinds.Route.TheVariants as route
use Rattle.an_routes.specs.declared.kinds.RouteError.{RouteError}
use Rattle.an_routes.specs.declared.kinds.RouteError.TheVariants as error
use Rattle.an_routes.specs.declared.kinds.Unrouted.{Unrouted}
use Rattle.an_routes.specs.declared.kinds.Unrouted.TheVariants as unrouted
use Rattle.an_routes.specs.declared.kinds.WriteRoute.{WriteRoute}
use Rattle.an_routes.specs.declared.kinds.WriteRoute.TheVariants.{PutReader, DropReader, PutManifest, DropManifest, PutNote, DropNote}

-- ---- what is given

abbrev Numbers : Option ℕ → Type 0
Numbers found = IfSome found (λ n. is_number n ≡ true)

abbrev Groups : Option Group → Type 0
Groups found = IfSome found (λ group. is_valid_group group ≡ true)

same_number : (n : ℕ) → given.is_number n ≡ true → is_number n ≡ true
unfolding is_number
same_number n is = grind (arith, nat_tests)

numbers-if : (n : ℕ) (b : Bool) → given.is_number n ≡ b → Numbers (if b then Some n else None)
numbers-if n true is = same_number n is
numbers-if n false is = tt

numbers-decimal : (found : Option ℕ) → Numbers (option_and_then (only_if given.is_number) found)
numbers-decimal None = tt
numbers-decimal (Some n) = numbers-if n (given.is_number n) refl

numbers-value : (found : Option (List ℕ)) → Numbers (option_and_then number_in found)
numbers-value None = tt
numbers-value (Some text) = numbers-decimal (decimal_of 999999999 text)

groups-named : (text : List ℕ) (found : Option Group) → group_named text ≡ found → Groups found
groups-named text None is = tt
groups-named text (Some group) is = valid text group is

groups-value : (found : Option (List ℕ)) → Groups (group_in found)
groups-value None = refl
groups-value (Some text) = groups-named text (group_named text) refl

-- ---- writes

abbrev Writes : Result WriteRoute Code → Type 0
Writes result = IfOk result (λ write. is_sendable_write write ≡ true)

writes-group : (write : Group → WriteRoute)
    → ((group : Group) → is_valid_group group ≡ true → is_sendable_write (write group) ≡ true)
    → (found : Option Group) → Groups found
    → Writes (or_refuse code.Group found (λ group. Ok (write group)))
writes-group write right None is = tt
writes-group write right (Some group) is = right group is

writes-manifest : (name : List ℕ) (pairs : List Pair) (version : ℕ) → is_number version ≡ true
    → Writes (manifest_put name pairs version)
writes-manifest name pairs version is =
    writes-group (PutManifest name version) (λ group its. and_from _ _ is its) (group_of pairs)
    (groups-value (value_of parameter.Group pairs))

writes-inner : (owner name manifest : List ℕ) (version : ℕ) → is_number version ≡ true
    → (found : Option Inner)
    → Writes (or_refuse code.Group found (λ inner. Ok (PutNote owner name version manifest inner)))
writes-inner owner name manifest version is None = tt
writes-inner owner name manifest version is (Some inner) = is

writes-note : (owner name : List ℕ) (pairs : List Pair) (version : ℕ) → is_number version ≡ true
    → (found : Option (List ℕ))
    → Writes (or_refuse code.Manifest found
    (λ manifest. grouped inner_of (PutNote owner name version manifest) pairs))
writes-note owner name pairs version is None = tt
writes-note owner name pairs version is (Some manifest) =
    writes-inner owner name manifest version is (inner_of pairs)

writes-put : (what : Object) (pairs : List Pair) (version : ℕ) → is_number version ≡ true
    → Writes (put_with what pairs version)
writes-put (object.Reader name) pairs version is = is
writes-put (object.Manifest name) pairs version is = writes-manifest name pairs version is
writes-put (object.Note owner name) pairs version is =
    writes-note owner name pairs version is (manifest_of pairs)

writes-deletion : (what : Object) (version : ℕ) → is_number version ≡ true
    → is_sendable_write (deletion what version) ≡ true
writes-deletion (object.Reader name) version is = is
writes-deletion (object.Manifest name) version is = is
writes-deletion (object.Note owner name) version is = is

writes-number : (write : ℕ → Result WriteRoute Code)
    → ((version : ℕ) → is_number version ≡ true → Writes (write version))
    → (found : Option ℕ) → Numbers found → Writes (or_refuse code.VersionForm found write)
writes-number write right None is = tt
writes-number write right (Some version) is = right version is

writes-numbered : (pairs : Result (List Pair) Code) (write : List Pair → ℕ → Result WriteRoute Code)
    → ((its : List Pair) (version : ℕ) → is_number version ≡ true → Writes (write its version))
    → Writes (numbered pairs write)
writes-numbered (Err refusal) write right = tt
writes-numbered (Ok pairs) write right =
    writes-number (write pairs) (right pairs) (version_of pairs)
    (numbers-value (value_of parameter.Version pairs))

-- ---- routes

abbrev Means : Result Route Unrouted → Type 0
Means result = IfOk result (λ its. is_sendable_route its ≡ true)

means-written : (result : Result WriteRoute Code) → Writes result → Means (written result)
means-written (Ok write) is = is
means-written (Err refusal) is = tt

means-put : (at : Path) (query : List ℕ) → Means (put_at at query)
means-put (path.Object what) query =
    means-written (put_of what query)
    (writes-numbered (given_of (row_of (object_kind what)).put query) (put_with what)
    (writes-put what))
means-put _ query = tt

means-delete : (at : Path) (query : List ℕ) → Means (delete_at at query)
means-delete (path.Object what) query =
    means-written (deletion_of what query)
    (writes-numbered (given_of delete_reads query) (λ pairs version. Ok (deletion what version))
    (λ pairs version. writes-deletion what version))
means-delete _ query = tt

-- a read writes nothing
means-read : (found : Result Read Unrouted) → Means (reading found)
means-read (Ok read) = refl
means-read (Err why) = tt

means-at : (at : Path) (query : List ℕ) (method : Option Method) → Means (meant_at at query method)
means-at at query None = tt
means-at at query (Some Options) = refl
means-at at query (Some Get) = means-read (read_at at query)
means-at at query (Some Head) = means-read (read_at at query)
means-at at query (Some Put) = means-put at query
means-at at query (Some Delete) = means-delete at query

abbrev pub Routes : Result Route RouteError → Type 0
Routes result = IfOk result (λ its. is_sendable_route its ≡ true)

routes-told : (refuse : Unrouted → RouteError) (meant : Result Route Unrouted) → Means meant
    → Routes (result_map_both (λ its. its) refuse meant)
routes-told refuse (Ok its) is = is
routes-told refuse (Err why) is = tt

routes-to : (query : List ℕ) (method : Option Method) (found : Option Path)
    → Routes (or_refuse error.Route found (λ at. route_at at query method))
routes-to query method None = tt
routes-to query method (Some at) =
    routes-told (told (methods_of (kind_of at))) (meant_at at query method)
    (means-at at query method)

routes-parts : (method : Option Method) (parts : Option (List ℕ × List ℕ))
    → Routes (route_to method parts)
routes-parts method None = tt
routes-parts method (Some parts) =
    routes-to parts.1 method (option_and_then path_of (segments_of parts.0))

pub routes : (method : Option Method) (target : List ℕ) → Routes (route_of method target)
unfolding route_of
routes method target = routes-parts method (target_parts target)

-- ---- commands

-- the command of a write has its number and its group
with_tree-sendable : (write : WriteRoute) (make : Data → Command)
    → ((tree : Data) → is_sendable (make tree) ≡ is_sendable_write write)
    → (tree : Result Data TreeError)
    → IfOk (with_tree make tree) (λ command. is_sendable command ≡ is_sendable_write write)
with_tree-sendable write make same (Ok tree) = same tree
with_tree-sendable write make same (Err error) = tt

pub commands : (write : WriteRoute) (text : List ℕ)
    → IfOk (command_of write text) (λ command. is_sendable command ≡ is_sendable_write write)
commands (PutReader name version) text =
    with_tree-sendable (PutReader name version) (command.PutReader name version) (λ tree. refl)
    (tree_of text)
commands (DropReader name version) text = refl
commands (PutManifest name version group) text =
    with_tree-sendable (PutManifest name version group) (command.PutManifest name version group)
    (λ tree. refl) (tree_of text)
commands (DropManifest name version) text = refl
commands (PutNote owner name version manifest group) text =
    with_tree-sendable (PutNote owner name version manifest group)
    (command.PutNote owner name version manifest group) (λ tree. refl) (tree_of text)
commands (DropNote owner name version) text = refl

-- ---- the law

pub routes-sendable : (method : Option Method) (target : List ℕ) (its : Route)
    → route_of method target ≡ Ok its → IsTrue (is_sendable_route its)
routes-sendable method target its is =
    IfOk-at_ok (λ r. is_sendable_route r ≡ true) is (routes method target)

pub commands-sendable : (write : WriteRoute) (text : List ℕ) (command : Command)
    → command_of write text ≡ Ok command → is_sendable command ≡ is_sendable_write write
commands-sendable write text command is =
    IfOk-at_ok (λ c. is_sendable c ≡ is_sendable_write write) is (commands write text)

pub ruleset sendable = (routes-sendable, commands-sendable)
