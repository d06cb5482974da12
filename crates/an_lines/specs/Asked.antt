-- What a line asks.
use Rattle.std.specs.Prelude.{ℕ, ℤ, List, length, ◌==◌, if◌then◌else◌, Option, Some, None, Result}
use Rattle.std.specs.Prelude.{Ok, Err, Bool, true}
use Rattle.std.specs.Str.{is_utf8}
use Rattle.an_code.specs.declared.code.Code.{Code}
use Rattle.an_code.specs.declared.code.Code.TheVariants as code
use Rattle.an_http.specs.declared.method.Method.{Method}
use Rattle.an_http.specs.declared.method.Method.TheVariants.{Get}
use Rattle.an_http.specs.declared.reply.Allow.{Allow}
use Rattle.an_state.specs.Commands.{is_sendable}
use Rattle.an_state.specs.declared.command.Command.{Command}
use Rattle.an_lines.specs.Line.{Words, words_of, by_of}
use Rattle.an_routes.specs.Commands.{command_of}
use Rattle.an_routes.specs.Routes.{route_of}
use Rattle.an_lines.specs.declared.asked.Asked.{Asked}
use Rattle.an_lines.specs.declared.asked.Asked.TheVariants as asked
use Rattle.an_routes.specs.declared.kinds.Route.{Route}
use Rattle.an_routes.specs.declared.kinds.Route.TheVariants as route
use Rattle.an_routes.specs.declared.kinds.RouteError.{RouteError}
use Rattle.an_routes.specs.declared.kinds.RouteError.TheVariants as no_route

abbrev pub no_line : Code
no_line = code.Line

-- a read whose query is refused is answered; a write isn't
abbrev pub query_asked : Method → Option (List ℕ) → Allow → Code → Result Asked Code
query_asked Get by methods refusal = Ok (asked.Unread by methods refusal)
query_asked _ by methods refusal = Err refusal

abbrev pub write_asked : ℤ → Option (List ℕ) → Result Command Code → Result Asked Code
write_asked moment by (Ok command) = Ok (asked.Write moment by command)
write_asked moment by (Err refusal) = Err refusal

-- a target without a route for its method is no line's; want of memory is told otherwise
abbrev pub route_asked : Words → Option (List ℕ) → Result Route RouteError → Result Asked Code
route_asked words by (Ok (route.Options methods)) = Err no_line
route_asked words by (Ok (route.Read read)) = Ok (asked.Read by read)
route_asked words by (Ok (route.Write write)) =
    write_asked words.moment by (command_of write words.tree)
route_asked words by (Err no_route.Target) = Err no_line
route_asked words by (Err no_route.Route) = Err no_line
route_asked words by (Err (no_route.Method methods)) = Err no_line
route_asked words by (Err (no_route.Query methods refusal)) =
    query_asked words.method by methods refusal
route_asked words by (Err no_route.Memory) = Err no_line

abbrev pub by_asked : Words → Option (Option (List ℕ)) → Result Asked Code
by_asked words None = Err no_line
by_asked words (Some by) = route_asked words by (route_of (Some words.method) words.target)

abbrev pub words_asked : Option Words → Result Asked Code
words_asked None = Err no_line
words_asked (Some words) = by_asked words (by_of words.by)

-- what a line asks; an empty line asks nothing, and a line that isn't UTF-8 is none
unfoldable pub asked_of : List ℕ → Result Asked Code
asked_of line =
    if length line == 0 then Ok asked.Nothing
    else (if is_utf8 line then words_asked (words_of line) else Err no_line)

-- what it asks to be written, if it asks for a write, may be sent to the machine
abbrev pub is_sendable_asked : Asked → Bool
is_sendable_asked asked.Nothing = true
is_sendable_asked (asked.Read by read) = true
is_sendable_asked (asked.Unread by methods refusal) = true
is_sendable_asked (asked.Write moment by command) = is_sendable command
