use Rattle.std.proofs.Common.{ap, ◌∙◌}
use Rattle.an_published.specs.Lists.{newly_seated}
use Rattle.an_store.specs.Opening.{Start}
use Rattle.an_store.proofs.Opens.{sided-opened}
use Rattle.an_store.proofs.opened.Opened.named.Goals as goal

pub new-requires : goal.new-requires
new-requires g c = record {
  sided =
      sided-opened _ _ _ _ _ _ _ c.self.invariant.0 c.self.invariant.1.stands
      (ap (λ o. o.book) c.self.view_is ∙ c.requires.book);
}

pub returns-clause-seats : goal.returns-clause-seats
returns-clause-seats g c = ap (λ (o : Start). o.seats) c.self.view_is

pub returns-clause-seated : goal.returns-clause-seated
returns-clause-seated g c =
    λ k d within. c.self.invariant.1.seats k d within
    ∙ (ap (λ o. newly_seated o.book o.list) c.self.view_is
    ∙ ap (λ b. newly_seated b c.args.self.list) c.requires.book)
