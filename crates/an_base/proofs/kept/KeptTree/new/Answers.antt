use Rattle.std.proofs.Common.{◌∙◌}
use Rattle.serde_json.specs.View.{view}
use Rattle.an_base.proofs.KeptLemmas.{tree_in-text, kept_text}
use Rattle.an_base.proofs.TreeTexts.{no_float_in_tree}
use Rattle.an_base.proofs.kept.KeptTree.new.Goals as goal

pub from_text-requires : goal.from_text-requires
from_text-requires c = record {
  kept =
      kept_text (view c.args.tree.now) _ c.requires.tree c.requires.object
      (c.in_ok-text.ensures.text (no_float_in_tree _ c.requires.tree));
}

pub returns : goal.returns
returns c = record {
  value =
      c.in_ok-kept.ensures.value
      ∙ tree_in-text (view c.args.tree.now) _ c.requires.tree
      (c.in_ok-text.ensures.text (no_float_in_tree _ c.requires.tree));
}
