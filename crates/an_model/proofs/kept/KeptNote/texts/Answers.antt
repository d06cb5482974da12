use Rattle.an_model.proofs.KeptNoteLemmas.{note_is_object}
use Rattle.an_model.proofs.kept.KeptNote.texts.Goals as goal

pub read_bodies-requires-clause-object : goal.read_bodies-requires-clause-object
read_bodies-requires-clause-object c = note_is_object _ c.self.invariant.shape
