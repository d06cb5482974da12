use Rattle.an_feed.proofs.HarvestLemmas.{harvested}
use Rattle.an_feed.proofs.laws.served_streams_are_harvested.Goals as goal

pub returns : goal.returns
returns g c = record {
  harvested =
      λ site view known settled serves.
      harvested site view known settled (g.F.Fetch.answers c.args._fetch.now) serves;
}
