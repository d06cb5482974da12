-- What comes of a request that has no route.
use Rattle.std.proofs.Common.{◌≡◌, Result, Ok, Err, IfOk, sym, ap, ◌∙◌}
use Rattle.an_http.specs.declared.request.Request.{Request}
use Rattle.an_state.specs.State.{State}
use Rattle.an_list.specs.Site.{Site}
use Rattle.an_serve.specs.Respond.{response_of, route_response}
use Rattle.an_routes.specs.Routes.{route_of}
use Rattle.an_routes.specs.declared.kinds.RouteError.{RouteError}
use Rattle.an_routes.specs.declared.kinds.RouteError.TheVariants as error
use Rattle.an_serve.specs.declared.responding.Response.{Response}

pub nowhere : {E : Type 0} (site : Site) (s : State) (request : Request) (failed : RouteError)
    (result : Result Response E)
    → IfOk result (λ response. response ≡ route_response site s request (Err failed))
    → IfOk result (λ _. ¬ (failed ≡ error.Memory))
    → (¬ (failed ≡ error.Memory) → route_of request.method request.target ≡ Err failed)
    → IfOk result (λ response. response ≡ response_of site s request)
unfolding response_of
nowhere site s request failed (Ok response) is sure route =
    is ∙ ap (route_response site s request) (sym (route sure))
nowhere site s request failed (Err e) is sure route = tt
