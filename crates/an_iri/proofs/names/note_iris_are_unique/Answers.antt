use Rattle.an_iri.proofs.NameLemmas.{note_iri-made}
use Rattle.an_iri.proofs.names.note_iris_are_unique.Goals as goal

pub returns : goal.returns
returns c = record { iri = λ base iri owner name is. note_iri-made base iri owner name is }
