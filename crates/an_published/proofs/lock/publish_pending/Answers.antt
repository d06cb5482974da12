use Rattle.std.proofs.Common.{drop}
use Rattle.an_published.proofs.Steps.{publishes, after_is, on_ok}
use Rattle.an_published.proofs.lock.publish_pending.Goals as goal

pub publish_as-requires : goal.publish_as-requires
publish_as-requires g c next is =
    publishes _ _ c.args.writer.desk.shown.value next
    (drop c.args.writer.behind c.args.writer.log.items) c.requires.ready is

pub returns-clause-shown : goal.returns-clause-shown
returns-clause-shown g c =
    let more = drop c.args.writer.behind c.args.writer.log.items in
    on_ok _ c.publish_as.result.1
    (λ _ p. after_is c.args.writer.desk.shown.value c.publish_as.result.0.desk.shown.value more
    c.requires.ready p.0) c.publish_as.ensures.values
