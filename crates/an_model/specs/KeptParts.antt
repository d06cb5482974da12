-- For private clauses: what a row keeps of an annotation beside its text.
use Rattle.std.specs.Prelude.{◌≡◌, true, None, IsTrue, map}
use Rattle.std.specs.Arc.{arc_value}
use Rattle.an_base.specs.Cut.{members_in}
use Rattle.an_base.specs.TextSet.{ascending}
use Rattle.an_base.specs.Totals.{totals_of}
use Rattle.an_base.specs.Tree.{is_tree}
use Rattle.an_model.specs.Bodies.{iris_of, note_terms}
use Rattle.an_model.specs.Note.{note_refusal, is_bare, motivations_of}
use Rattle.an_model.specs.Cuts.{HasCuts}
use Rattle.an_model.specs.Targets.{kept_target, targets_of}
use Rattle.an_model.specs.declared.kept.KeptNote.TheInside.{Inside}

pub record KeepsTexts (k : Inside) : Type 0 where
  pub tree : IsTrue (is_tree k.tree)
  pub shape : note_refusal k.tree ≡ None
  pub bare : is_bare k.tree ≡ true
  pub cuts : HasCuts (arc_value k.parts).cuts (members_in k.tree)
  pub terms : (arc_value k.parts).terms ≡ totals_of (note_terms k.tree)
  pub motivations : (arc_value k.parts).motivations ≡ ascending (motivations_of k.tree)
  pub iris : (arc_value k.parts).iris ≡ ascending (iris_of k.tree)
  pub targets : (arc_value k.parts).targets ≡ map kept_target (targets_of k.tree)
