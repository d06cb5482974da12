-- A request is answered alike in two states of which its sender has one view.
use Rattle.std.proofs.Common.{◌≡◌, Option, Some, None, Result, Ok, Err, Bool, refl, ap, IfSome}
use Rattle.an_code.specs.declared.code.Code.{Code}
use Rattle.an_base.specs.declared.span.Prefer.{Prefer}
use Rattle.an_http.specs.declared.reply.Allow.{Allow}
use Rattle.an_http.specs.declared.request.Request.{Request}
use Rattle.an_state.specs.State.{State}
use Rattle.an_policy.specs.declared.who.Caller.{Caller}
use Rattle.an_list.specs.Site.{Site}
use Rattle.an_answers.specs.Answer.{answer_of}
use Rattle.an_answers.specs.Isolation.{SeesAlike}
use Rattle.an_serve.specs.Isolation.{SenderSeesAlike}
use Rattle.an_serve.specs.Respond.{caller_of, is_read, query_reply, query_response, read_response, response_of, route_response}
use Rattle.an_routes.specs.Routes.{route_of}
use Rattle.an_routes.specs.declared.kinds.Read.{Read}
use Rattle.an_routes.specs.declared.kinds.Route.{Route}
use Rattle.an_routes.specs.declared.kinds.Route.TheVariants as route
use Rattle.an_routes.specs.declared.kinds.RouteError.{RouteError}
use Rattle.an_routes.specs.declared.kinds.RouteError.TheVariants as error
use Rattle.an_serve.specs.declared.responding.Response.TheVariants as response

module _ (site : Site) (s t : State) where
  read_alike : (prefer : Prefer) (read : Read) (who : Option Caller) → IfSome who (SeesAlike s t)
      → read_response site s who prefer read ≡ read_response site t who prefer read
  read_alike prefer read None agree = refl
  read_alike prefer read (Some caller) agree =
      ap (λ view. response.Ready (answer_of site view prefer read)) agree

  query_alike : (reads : Bool) (methods : Allow) (refusal : Code) (who : Option Caller)
      → IfSome who (SeesAlike s t)
      → query_response s who reads methods refusal ≡ query_response t who reads methods refusal
  query_alike reads methods refusal None agree = refl
  query_alike reads methods refusal (Some caller) agree =
      ap (λ view. response.Ready (query_reply view reads methods refusal)) agree

  routed_alike : (request : Request) → SenderSeesAlike s t request
      → (found : Result Route RouteError)
      → route_response site s request found ≡ route_response site t request found
  routed_alike request agree (Ok (route.Options methods)) = refl
  routed_alike request agree (Ok (route.Read read)) =
      read_alike request.prefer read (caller_of request.auth) agree
  routed_alike request agree (Ok (route.Write write)) = refl
  routed_alike request agree (Err error.Target) = refl
  routed_alike request agree (Err error.Route) = refl
  routed_alike request agree (Err (error.Method methods)) = refl
  routed_alike request agree (Err (error.Query methods refusal)) =
      query_alike (is_read request.method) methods refusal (caller_of request.auth) agree
  routed_alike request agree (Err error.Memory) = refl

pub request_alike : (site : Site) (s t : State) (request : Request) → SenderSeesAlike s t request
    → response_of site s request ≡ response_of site t request
unfolding response_of
request_alike site s t request agree =
    routed_alike site s t request agree (route_of request.method request.target)
