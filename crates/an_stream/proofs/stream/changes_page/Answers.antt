use Rattle.an_policy.specs.Audience.{identity}
use Rattle.an_state.specs.View.{seen_by}
use Rattle.an_stream.proofs.StreamLemmas.{found_stream, past_stream}
use Rattle.an_stream.proofs.stream.changes_page.Goals as goal

pub returns-in-Err : goal.returns-in-Err
returns-in-Err g c = record {
  answer = λ memory.
      past_stream c.args.site.now c.args.page
      (seen_by (identity c.args.who.now) (g.T.Look.state c.args.look.now).activities)
      c.seen_count.result c.seen_count.ensures.count c.in-Err.error c.in-Err.ensures.page;
}

pub returns-in_ok-page_there-in-Ok : goal.returns-in_ok-page_there-in-Ok
returns-in_ok-page_there-in-Ok g c = record {
  answer =
      found_stream c.args.site.now c.args.page
      (seen_by (identity c.args.who.now) (g.T.Look.state c.args.look.now).activities)
      c.seen_count.result c.seen_count.ensures.count c.in-Ok.paging c.base.result.now _
      c.in-Ok.ensures.page
      c.base.ensures.value c.in_ok-page_there-in-Ok.ensures;
}
