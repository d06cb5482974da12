-- What a request asks to be written may be sent to the machine.
use Rattle.std.proofs.Common.{◌≡◌, ℕ, Bool, true, List, Option, Some, None, Result, Ok, Err, IsTrue, refl, ap, ◌∙◌}
use Rattle.std.specs.Prelude.{IfOk}
use Rattle.an_base.specs.declared.span.Prefer.{Prefer}
use Rattle.an_code.specs.declared.code.Code.{Code}
use Rattle.an_http.specs.declared.reply.Allow.{Allow}
use Rattle.an_http.specs.declared.request.Request.{Request}
use Rattle.an_policy.specs.declared.who.Caller.{Caller}
use Rattle.an_list.specs.Site.{Site}
use Rattle.an_state.specs.Commands.{is_sendable}
use Rattle.an_state.specs.State.{State}
use Rattle.an_state.specs.declared.command.Command.{Command}
use Rattle.an_routes.specs.Commands.{command_of, is_sendable_write}
use Rattle.an_routes.specs.Routes.{route_of, write_methods}
use Rattle.an_routes.specs.declared.kinds.Read.{Read}
use Rattle.an_routes.specs.declared.kinds.Route.{Route}
use Rattle.an_routes.specs.declared.kinds.Route.TheVariants as route
use Rattle.an_routes.specs.declared.kinds.RouteError.{RouteError}
use Rattle.an_routes.specs.declared.kinds.RouteError.TheVariants as error
use Rattle.an_routes.specs.declared.kinds.WriteRoute.{WriteRoute}
use Rattle.an_routes.proofs.SendableLemmas.{Routes, commands, routes}
use Rattle.an_serve.specs.Respond.{caller_of, command_response, is_read, is_sendable_response, query_response, read_response, response_of, route_response, write_response}
use Rattle.an_serve.specs.declared.responding.Response.{Response}

responds-query : (s : State) (caller : Option Caller) (reads : Bool) (methods : Allow)
    (refusal : Code) → is_sendable_response (query_response s caller reads methods refusal) ≡ true
responds-query s None reads methods refusal = refl
responds-query s (Some caller) reads methods refusal = refl

responds-read : (site : Site) (s : State) (caller : Option Caller) (prefer : Prefer) (read : Read)
    → is_sendable_response (read_response site s caller prefer read) ≡ true
responds-read site s None prefer read = refl
responds-read site s (Some caller) prefer read = refl

responds-command : (methods : Allow) (caller : Caller) (same : Bool) → same ≡ true
    → (command : Result Command Code) → IfOk command (λ c. is_sendable c ≡ same)
    → is_sendable_response (command_response methods caller command) ≡ true
responds-command methods caller same right (Ok command) is = is ∙ right
responds-command methods caller same right (Err refusal) is = refl

responds-write : (caller : Option Caller) (write : WriteRoute) (body : List ℕ)
    → is_sendable_write write ≡ true
    → is_sendable_response (write_response caller write body) ≡ true
responds-write None write body is = refl
responds-write (Some caller) write body is =
    responds-command (write_methods write) caller (is_sendable_write write) is
    (command_of write body) (commands write body)

responds-route : (site : Site) (s : State) (request : Request) (found : Result Route RouteError)
    → Routes found → is_sendable_response (route_response site s request found) ≡ true
responds-route site s request (Ok (route.Options methods)) is = refl
responds-route site s request (Ok (route.Read read)) is =
    responds-read site s (caller_of request.auth) request.prefer read
responds-route site s request (Ok (route.Write write)) is =
    responds-write (caller_of request.auth) write request.body is
responds-route site s request (Err error.Target) is = refl
responds-route site s request (Err error.Route) is = refl
responds-route site s request (Err (error.Method methods)) is = refl
responds-route site s request (Err (error.Query methods refusal)) is =
    responds-query s (caller_of request.auth) (is_read request.method) methods refusal
responds-route site s request (Err error.Memory) is = refl

responds : (site : Site) (s : State) (request : Request)
    → is_sendable_response (response_of site s request) ≡ true
unfolding response_of
responds site s request =
    responds-route site s request (route_of request.method request.target)
    (routes request.method request.target)

pub response-sendable : (site : Site) (s : State) (request : Request) (its : Response)
    → its ≡ response_of site s request → IsTrue (is_sendable_response its)
response-sendable site s request its is = ap is_sendable_response is ∙ responds site s request
