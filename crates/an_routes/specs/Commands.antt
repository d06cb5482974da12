-- What a route that writes asks to be written.
use Rattle.std.specs.Prelude.{ℕ, List, Bool, true, ◌&&◌, Result, Ok, Err}
use Rattle.serde_json.specs.Data.{Data}
use Rattle.an_base.specs.Tree.{tree_of}
use Rattle.an_base.specs.declared.tree.TreeError.{TreeError}
use Rattle.an_base.specs.declared.tree.TreeError.TheVariants as error
use Rattle.an_code.specs.declared.code.Code.{Code}
use Rattle.an_code.specs.declared.code.Code.TheVariants as code
use Rattle.an_policy.specs.Group.{is_valid_group}
use Rattle.an_state.specs.Commands.{is_number}
use Rattle.an_state.specs.declared.command.Command.{Command}
use Rattle.an_state.specs.declared.command.Command.TheVariants as command
use Rattle.an_routes.specs.declared.kinds.Route.{Route}
use Rattle.an_routes.specs.declared.kinds.Route.TheVariants as route
use Rattle.an_routes.specs.declared.kinds.WriteRoute.{WriteRoute}
use Rattle.an_routes.specs.declared.kinds.WriteRoute.TheVariants.{PutReader, DropReader}
use Rattle.an_routes.specs.declared.kinds.WriteRoute.TheVariants.{PutManifest}
use Rattle.an_routes.specs.declared.kinds.WriteRoute.TheVariants.{DropManifest, PutNote, DropNote}

-- the refusal of a text that is no tree; want of memory is told otherwise
abbrev pub text_refusal : TreeError → Code
text_refusal error.Json = code.Json
text_refusal error.NotWhole = code.NotWhole
text_refusal error.Deep = code.Deep
text_refusal error.Memory = code.Json

abbrev pub with_tree : (Data → Command) → Result Data TreeError → Result Command Code
with_tree make (Ok tree) = Ok (make tree)
with_tree make (Err error) = Err (text_refusal error)

-- the command of a write, with the tree that a text is
abbrev pub command_of : WriteRoute → List ℕ → Result Command Code
command_of (PutReader name version) text =
    with_tree (command.PutReader name version) (tree_of text)
command_of (DropReader name version) text = Ok (command.DropReader name version)
command_of (PutManifest name version group) text =
    with_tree (command.PutManifest name version group) (tree_of text)
command_of (DropManifest name version) text = Ok (command.DropManifest name version)
command_of (PutNote owner name version manifest group) text =
    with_tree (command.PutNote owner name version manifest group) (tree_of text)
command_of (DropNote owner name version) text = Ok (command.DropNote owner name version)

-- its number is one and a manifest's group is a group, as those of the command are then
abbrev pub is_sendable_write : WriteRoute → Bool
is_sendable_write (PutReader name version) = is_number version
is_sendable_write (DropReader name version) = is_number version
is_sendable_write (PutManifest name version group) = is_number version && is_valid_group group
is_sendable_write (DropManifest name version) = is_number version
is_sendable_write (PutNote owner name version manifest group) = is_number version
is_sendable_write (DropNote owner name version) = is_number version

-- what it writes, if it writes, is such
abbrev pub is_sendable_route : Route → Bool
is_sendable_route (route.Options methods) = true
is_sendable_route (route.Read read) = true
is_sendable_route (route.Write write) = is_sendable_write write
