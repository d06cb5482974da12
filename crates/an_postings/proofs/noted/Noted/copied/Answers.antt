use Rattle.std.proofs.lemmas.Result.{IfOk-weaker}
use Rattle.std.proofs.Common.{subst, sym}
use Rattle.an_slots.specs.Places.{Rises}
use Rattle.an_postings.proofs.LiveLemmas.{Rises-live}
use Rattle.an_postings.proofs.noted.Noted.copied.Goals as goal

pub returns-clause-rises : goal.returns-clause-rises
returns-clause-rises c =
    IfOk-weaker c.copied.result _ _
    (λ p is. subst (Rises 0) (sym is)
    (Rises-live 0 c.self.inside.all.items c.self.inside.gone.items c.self.invariant.0))
    c.copied.ensures.places
