-- What comes of a request at a state: a reply, or a write that is still to be decided.
use Rattle.std.specs.Prelude.{ℕ, List, [], Bool, true, false, Option, Some}
use Rattle.std.specs.Prelude.{None, Result, Ok, Err}
use Rattle.an_code.specs.declared.code.Code.{Code}
use Rattle.an_code.specs.declared.code.Code.TheVariants as code
use Rattle.an_http.specs.declared.reply.Allow.{Allow}
use Rattle.an_http.specs.declared.reply.Allow.TheVariants as allow
use Rattle.an_http.specs.declared.reply.Media.TheVariants as media
use Rattle.an_http.specs.declared.reply.Extra.TheVariants as extra
use Rattle.an_http.specs.declared.reply.Reply.{Reply}
use Rattle.an_http.specs.declared.request.Auth.{Auth}
use Rattle.an_http.specs.declared.request.Auth.TheVariants as auth
use Rattle.an_http.specs.declared.method.Method.{Method}
use Rattle.an_http.specs.declared.method.Method.TheVariants as method
use Rattle.an_http.specs.declared.request.Request.{Request}
use Rattle.an_http.specs.declared.status.Status.TheVariants as status
use Rattle.an_state.specs.Commands.{is_sendable}
use Rattle.an_state.specs.State.{State}
use Rattle.an_state.specs.View.{View, view_by}
use Rattle.an_state.specs.declared.command.Command.{Command}
use Rattle.an_policy.specs.declared.who.Caller.{Caller}
use Rattle.an_policy.specs.declared.who.Caller.TheVariants as caller
use Rattle.an_list.specs.Site.{Site}
use Rattle.an_base.specs.declared.span.Prefer.{Prefer}
use Rattle.an_answers.specs.Answer.{answer_of, not_signed, query_answer, refusal_reply}
use Rattle.an_routes.specs.Commands.{command_of}
use Rattle.an_routes.specs.Routes.{read_methods, route_of, write_methods}
use Rattle.an_routes.specs.declared.kinds.Read.{Read}
use Rattle.an_routes.specs.declared.kinds.Route.{Route}
use Rattle.an_routes.specs.declared.kinds.Route.TheVariants as route
use Rattle.an_routes.specs.declared.kinds.RouteError.{RouteError}
use Rattle.an_routes.specs.declared.kinds.RouteError.TheVariants as error
use Rattle.an_routes.specs.declared.kinds.WriteRoute.{WriteRoute}
use Rattle.an_serve.specs.declared.responding.Response.{Response}
use Rattle.an_serve.specs.declared.responding.Response.TheVariants as response

-- who sends a request; there is nobody where its Authorization says something else than a token
-- (RFC 6750, section 2.1)
abbrev pub caller_of : Auth → Option Caller
caller_of auth.Absent = Some caller.Anonymous
caller_of (auth.Bearer token) = Some (caller.Token token)
caller_of auth.Other = None

-- the methods of a path (RFC 9110, section 9.3.7), and what another origin may send
abbrev pub options_reply : Allow → Reply
options_reply methods = record {
  status = status.NoContent;
  allow = methods;
  media = media.Absent;
  extra = extra.Preflight;
  body = [];
}

-- ---- what has no route

abbrev pub is_read : Option Method → Bool
is_read (Some method.Get) = true
is_read (Some method.Head) = true
is_read _ = false

-- to a query that is refused; a token that is no live reader's is told before it of a read alone
abbrev pub query_reply : View → Bool → Allow → Code → Reply
query_reply view true methods refusal = query_answer view methods refusal
query_reply view false methods refusal = refusal_reply methods refusal

abbrev pub query_response : State → Option Caller → Bool → Allow → Code → Response
query_response s None reads methods refusal = response.Ready (refusal_reply methods not_signed)
query_response s (Some caller) reads methods refusal =
    response.Ready (query_reply (view_by s caller) reads methods refusal)

-- ---- reads and writes

abbrev pub read_response : Site → State → Option Caller → Prefer → Read → Response
read_response site s None prefer read =
    response.Ready (refusal_reply (read_methods read) not_signed)
read_response site s (Some caller) prefer read =
    response.Ready (answer_of site (view_by s caller) prefer read)

-- the tree is read before the machine sees the write
abbrev pub command_response : Allow → Caller → Result Command Code → Response
command_response methods caller (Ok command) = response.Write methods caller command
command_response methods caller (Err refusal) = response.Ready (refusal_reply methods refusal)

abbrev pub write_response : Option Caller → WriteRoute → List ℕ → Response
write_response None write body = response.Ready (refusal_reply (write_methods write) not_signed)
write_response (Some caller) write body =
    command_response (write_methods write) caller (command_of write body)

-- ---- all requests

-- by the route: what has none is told before who asks; want of memory is told otherwise
abbrev pub route_response : Site → State → Request → Result Route RouteError → Response
route_response site s request (Ok (route.Options methods)) = response.Ready (options_reply methods)
route_response site s request (Ok (route.Read read)) =
    read_response site s (caller_of request.auth) request.prefer read
route_response site s request (Ok (route.Write write)) =
    write_response (caller_of request.auth) write request.body
route_response site s request (Err error.Target) =
    response.Ready (refusal_reply allow.Absent code.Target)
route_response site s request (Err error.Route) =
    response.Ready (refusal_reply allow.Absent code.Route)
route_response site s request (Err (error.Method methods)) =
    response.Ready (refusal_reply methods code.Method)
route_response site s request (Err (error.Query methods refusal)) =
    query_response s (caller_of request.auth) (is_read request.method) methods refusal
route_response site s request (Err error.Memory) =
    response.Ready (refusal_reply allow.Absent code.Route)

unfoldable pub response_of : Site → State → Request → Response
response_of site s request =
    route_response site s request (route_of request.method request.target)

-- what is asked to be written, if something is, may be sent to the machine
abbrev pub is_sendable_response : Response → Bool
is_sendable_response (response.Ready reply) = true
is_sendable_response (response.Write methods caller command) = is_sendable command
