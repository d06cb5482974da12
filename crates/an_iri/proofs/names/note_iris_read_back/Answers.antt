use Rattle.an_iri.proofs.NameLemmas.{note_iri-read}
use Rattle.an_iri.proofs.names.note_iris_read_back.Goals as goal

pub returns : goal.returns
returns c =
    record { names = λ base owner name owned named. note_iri-read base owner name owned named }
