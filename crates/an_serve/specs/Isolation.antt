-- Who sends a request can't tell two states apart.
use Rattle.std.specs.Prelude.{IfSome}
use Rattle.an_http.specs.declared.request.Request.{Request}
use Rattle.an_state.specs.State.{State}
use Rattle.an_answers.specs.Isolation.{SeesAlike}
use Rattle.an_serve.specs.Respond.{caller_of}

-- who sends the request has one view of both states, where somebody sends it
abbrev pub SenderSeesAlike : State → State → Request → Type 0
SenderSeesAlike s t request = IfSome (caller_of request.auth) (SeesAlike s t)
