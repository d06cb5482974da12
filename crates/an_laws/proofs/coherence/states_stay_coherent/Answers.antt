use Rattle.an_laws.proofs.CoherentLemmas.{coherent-after, histories-coherent}
use Rattle.an_laws.proofs.coherence.states_stay_coherent.Goals as goal

pub returns-clause-stay : goal.returns-clause-stay
returns-clause-stay c = coherent-after

pub returns-clause-every : goal.returns-clause-every
returns-clause-every c = histories-coherent
