-- What a line asks to be written may be sent to the machine.
use Rattle.std.proofs.Common.{◌≡◌, ℕ, ℤ, Bool, true, false, List, length, Option, Some, None, Result, Ok, Err, IsTrue, refl, sym, ◌∙◌}
use Rattle.std.specs.Prelude.{◌==◌, IfOk, if◌then◌else◌}
use Rattle.std.specs.Str.{is_utf8}
use Rattle.std.proofs.lemmas.Result.{IfOk-at_ok}
use Rattle.an_code.specs.declared.code.Code.{Code}
use Rattle.an_http.specs.declared.method.Method.{Method}
use Rattle.an_http.specs.declared.method.Method.TheVariants.{Get, Head, Options, Put, Delete}
use Rattle.an_http.specs.declared.reply.Allow.{Allow}
use Rattle.an_state.specs.Commands.{is_sendable}
use Rattle.an_state.specs.declared.command.Command.{Command}
use Rattle.an_routes.specs.Commands.{command_of, is_sendable_write}
use Rattle.an_routes.specs.Routes.{route_of}
use Rattle.an_routes.specs.declared.kinds.Route.{Route}
use Rattle.an_routes.specs.declared.kinds.Route.TheVariants as route
use Rattle.an_routes.specs.declared.kinds.RouteError.{RouteError}
use Rattle.an_routes.specs.declared.kinds.RouteError.TheVariants as no_route
use Rattle.an_routes.proofs.SendableLemmas.{Routes, commands, routes}
use Rattle.an_lines.specs.Asked.{asked_of, by_asked, is_sendable_asked, no_line, query_asked, route_asked, words_asked, write_asked}
use Rattle.an_lines.specs.Line.{Words, by_of, words_of}
use Rattle.an_lines.specs.declared.asked.Asked.{Asked}
use Rattle.an_lines.specs.declared.asked.Asked.TheVariants as asked

abbrev Asks : Result Asked Code → Type 0
Asks result = IfOk result (λ its. is_sendable_asked its ≡ true)

asks-query : (method : Method) (by : Option (List ℕ)) (methods : Allow) (refusal : Code)
    → Asks (query_asked method by methods refusal)
asks-query Get by methods refusal = refl
asks-query Head by methods refusal = tt
asks-query Options by methods refusal = tt
asks-query Put by methods refusal = tt
asks-query Delete by methods refusal = tt

asks-write : (moment : ℤ) (by : Option (List ℕ)) (same : Bool) → same ≡ true
    → (command : Result Command Code) → IfOk command (λ c. is_sendable c ≡ same)
    → Asks (write_asked moment by command)
asks-write moment by same right (Ok command) is = is ∙ right
asks-write moment by same right (Err refusal) is = tt

asks-route : (words : Words) (by : Option (List ℕ)) (found : Result Route RouteError) → Routes found
    → Asks (route_asked words by found)
asks-route words by (Ok (route.Options methods)) is = tt
asks-route words by (Ok (route.Read read)) is = refl
asks-route words by (Ok (route.Write write)) is =
    asks-write words.moment by (is_sendable_write write) is (command_of write words.tree)
    (commands write words.tree)
asks-route words by (Err no_route.Target) is = tt
asks-route words by (Err no_route.Route) is = tt
asks-route words by (Err (no_route.Method methods)) is = tt
asks-route words by (Err (no_route.Query methods refusal)) is =
    asks-query words.method by methods refusal
asks-route words by (Err no_route.Memory) is = tt

asks-by : (words : Words) (by : Option (Option (List ℕ))) → Asks (by_asked words by)
asks-by words None = tt
asks-by words (Some by) =
    asks-route words by (route_of (Some words.method) words.target)
    (routes (Some words.method) words.target)

asks-words : (words : Option Words) → Asks (words_asked words)
asks-words None = tt
asks-words (Some words) = asks-by words (by_of words.by)

asks-text : (line : List ℕ) (text : Bool)
    → Asks (if text then words_asked (words_of line) else Err no_line)
asks-text line true = asks-words (words_of line)
asks-text line false = tt

asks-line : (line : List ℕ) (empty : Bool)
    → Asks (if empty then Ok asked.Nothing
    else (if is_utf8 line then words_asked (words_of line) else Err no_line))
asks-line line true = refl
asks-line line false = asks-text line (is_utf8 line)

asks : (line : List ℕ) → Asks (asked_of line)
unfolding asked_of
asks line = asks-line line (length line == 0)

pub asked-sendable : (line : List ℕ) (its : Asked) → Ok its ≡ asked_of line
    → IsTrue (is_sendable_asked its)
asked-sendable line its is = IfOk-at_ok (λ a. is_sendable_asked a ≡ true) (sym is) (asks line)

pub ruleset asked_writes = (asked-sendable)
