use Rattle.an_serve.proofs.RespondLemmas.{nowhere}
use Rattle.an_serve.proofs.responding.respond.Goals as goal

pub returns-in-Err : goal.returns-in-Err
returns-in-Err g c =
    nowhere c.args.settings.now (g.T.Look.state c.args.look.now) c.args.request.now c.in-Err.error
    c.respond_nowhere.result
    (c.respond_nowhere.ensures.response c.args.settings.now) c.respond_nowhere.ensures.memory
    (λ sure. rw c.as_str.ensures.value at (c.in-Err.ensures.route sure))
