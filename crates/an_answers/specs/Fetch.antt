-- What a fetch over a look gets: the status and the body of the answer to a GET.
use Rattle.std.specs.Prelude.{ℕ, List, false, Some, Result, Ok, Err}
use Rattle.an_base.specs.declared.span.Prefer.{Prefer}
use Rattle.an_code.specs.declared.code.Code.TheVariants as code
use Rattle.an_harvest.specs.declared.fetch.Got.{Got}
use Rattle.an_http.specs.Status.{number_of}
use Rattle.an_http.specs.declared.method.Method.TheVariants.{Get}
use Rattle.an_http.specs.declared.reply.Allow.TheVariants as allow
use Rattle.an_http.specs.declared.reply.Reply.{Reply}
use Rattle.an_list.specs.Site.{Site}
use Rattle.an_routes.specs.Routes.{route_of, write_methods}
use Rattle.an_routes.specs.declared.kinds.Route.{Route}
use Rattle.an_routes.specs.declared.kinds.Route.TheVariants as route
use Rattle.an_routes.specs.declared.kinds.RouteError.{RouteError}
use Rattle.an_routes.specs.declared.kinds.RouteError.TheVariants as error
use Rattle.an_state.specs.View.{View}
use Rattle.an_answers.specs.Answer.{answer_of, query_answer, refusal_reply}

-- where a server stands, and what its caller may read
pub record Asked : Type 0 where
  pub site : Site
  pub view : View

-- nothing is preferred
abbrev pub no_preference : Prefer
no_preference = record { minimal = false; iris = false }

-- why a GET has no route; want of memory is reported otherwise
abbrev pub unrouted_reply : View → RouteError → Reply
unrouted_reply view error.Target = refusal_reply allow.Absent code.Target
unrouted_reply view error.Route = refusal_reply allow.Absent code.Route
unrouted_reply view (error.Method methods) = refusal_reply methods code.Method
unrouted_reply view (error.Query methods refusal) = query_answer view methods refusal
unrouted_reply view error.Memory = refusal_reply allow.Absent code.Route

-- the reply to a GET, by its route, which is to a read
abbrev pub get_reply : Asked → Result Route RouteError → Reply
get_reply asked (Ok (route.Read read)) = answer_of asked.site asked.view no_preference read
get_reply asked (Ok (route.Options methods)) = refusal_reply methods code.Method
get_reply asked (Ok (route.Write write)) = refusal_reply (write_methods write) code.Method
get_reply asked (Err error) = unrouted_reply asked.view error

-- of a reply its status and its body are got
abbrev pub got_of : Reply → Got
got_of reply = record { status = number_of reply.status; body = reply.body }

-- what is got for a target
abbrev pub got_at : Asked → List ℕ → Got
got_at asked target = got_of (get_reply asked (route_of (Some Get) target))
