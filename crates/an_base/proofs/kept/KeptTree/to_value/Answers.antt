use Rattle.std.proofs.Common.{◌≡◌, Ok, sym, ap, ◌∙◌}
use Rattle.serde_json.specs.View.{view}
use Rattle.an_base.specs.Tree.{tree_of}
use Rattle.an_base.proofs.TreeTexts.{read_back}
use Rattle.an_base.proofs.kept.KeptTree.to_value.Goals as goal

pub returns-in-Ok-clause-value : goal.returns-in-Ok-clause-value
returns-in-Ok-clause-value c =
    let same : Ok (view c.in-Ok.value) ≡ Ok c.args.self.now =
    sym c.in-Ok.ensures.tree ∙ ap tree_of c.text.ensures.text ∙ read_back _ c.text.ensures.tree in
    cc
