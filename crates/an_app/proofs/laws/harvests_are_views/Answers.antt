use Rattle.an_app.proofs.HarvestLemmas.{harvest_only}
use Rattle.an_app.proofs.laws.harvests_are_views.Goals as goal

pub returns-clause-only : goal.returns-clause-only
returns-clause-only c =
    λ site s who id manifest objects valid coherent are is.
    harvest_only site s who id manifest objects valid coherent are is
