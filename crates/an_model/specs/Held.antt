-- For private clauses: what the fields of an annotation keep of its tree.
use Rattle.std.specs.Prelude.{◌≡◌, true, None, IsTrue}
use Rattle.an_base.specs.Tree.{is_tree}
use Rattle.an_model.specs.Targets.{targets_of}
use Rattle.an_model.specs.Bodies.{texts_of, iris_of, note_occurrences}
use Rattle.an_model.specs.Note.{note_refusal, is_bare, motivations_of}
use Rattle.an_model.specs.declared.note.Note.TheInside.{Inside}

pub record KeepsParts (n : Inside) : Type 0 where
  pub tree : IsTrue (is_tree n.tree)
  pub shape : note_refusal n.tree ≡ None
  pub bare : is_bare n.tree ≡ true
  pub motivations : n.motivations ≡ motivations_of n.tree
  pub texts : n.texts ≡ texts_of n.tree
  pub iris : n.iris ≡ iris_of n.tree
  pub targets : n.targets ≡ targets_of n.tree
  pub occurrences : n.occurrences ≡ note_occurrences n.tree
