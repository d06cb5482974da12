use Rattle.std.proofs.Common.{◌≡◌, sym, ap, ◌∙◌, map}
use Rattle.serde_json.specs.View.{view}
use Rattle.an_base.specs.Cut.{members_in}
use Rattle.an_base.specs.TextSet.{ascending}
use Rattle.an_base.specs.Totals.{totals_of}
use Rattle.an_base.specs.Tree.{is_tree}
use Rattle.an_base.proofs.KeptLemmas.{kept_text, tree_in-text, ordered}
use Rattle.an_base.proofs.TreeTexts.{no_float_in_tree}
use Rattle.an_model.specs.Bodies.{iris_of, note_terms}
use Rattle.an_model.specs.Note.{note_refusal, is_bare, motivations_of}
use Rattle.an_model.specs.Targets.{kept_target, targets_of}
use Rattle.an_model.proofs.KeptNoteLemmas.{same_cuts}
use Rattle.an_model.proofs.KeptNoteLemmas.{note_is_object}
use Rattle.an_model.proofs.kept.KeptNote.of_tree.Goals as goal

pub cut_text-requires-clause-object : goal.cut_text-requires-clause-object
cut_text-requires-clause-object c = note_is_object (view c.args.tree.now) c.requires.note

pub cut_text-requires-clause-whole : goal.cut_text-requires-clause-whole
cut_text-requires-clause-whole c = no_float_in_tree (view c.args.tree.now) c.requires.tree

pub cut_text-requires-clause-order : goal.cut_text-requires-clause-order
cut_text-requires-clause-order c = ordered (view c.args.tree.now) c.requires.tree

pub from_text-requires : goal.from_text-requires
from_text-requires c = record {
  kept = kept_text (view c.args.tree.now) _ c.requires.tree
      (note_is_object (view c.args.tree.now) c.requires.note) c.in_ok-written.ensures.text;
}

pub invariant_of-result : goal.invariant_of-result
invariant_of-result c =
    let is : c.in_ok-tree.tree ≡ (view c.args.tree.now) =
    c.in_ok-tree.ensures.value
    ∙ tree_in-text (view c.args.tree.now) _ c.requires.tree c.in_ok-written.ensures.text in
    let parts = c.in_ok-parts-2.ensures.ok in
    record {
      tree = ap is_tree is ∙ c.requires.tree;
      shape = ap note_refusal is ∙ c.requires.note;
      bare = ap is_bare is ∙ c.requires.bare;
      cuts = same_cuts _ _ _ _ (ap (λ p. p.cuts) parts ∙ c.in_ok-parts.ensures.cuts)
          (ap members_in (sym is)) c.in_ok-written.ensures.cuts;
      terms = ap (λ p. p.terms) parts ∙ c.in_ok-parts.ensures.terms
          ∙ ap (λ t. totals_of (note_terms t)) (sym is);
      motivations = ap (λ p. p.motivations) parts ∙ c.in_ok-parts.ensures.motivations
          ∙ ap (λ t. ascending (motivations_of t)) (sym is);
      iris = ap (λ p. p.iris) parts ∙ c.in_ok-parts.ensures.iris
          ∙ ap (λ t. ascending (iris_of t)) (sym is);
      targets = ap (λ p. p.targets) parts ∙ c.in_ok-parts.ensures.targets
          ∙ ap (λ t. map kept_target (targets_of t)) (sym is);
    }

pub returns : goal.returns
returns c = record {
  value = c.in_ok-tree.ensures.value
      ∙ tree_in-text (view c.args.tree.now) _ c.requires.tree c.in_ok-written.ensures.text;
}
