use Rattle.std.proofs.Common.{◌≡◌, true, sym, ap, ◌∙◌}
use Rattle.std.proofs.lemmas.Result.{IfOk-weaker}
use Rattle.serde_json.specs.View.{view}
use Rattle.an_model.specs.Note.{note_refusal, is_bare, kept}
use Rattle.an_model.proofs.NoteLemmas.{note_refusal-kept}
use Rattle.an_model.proofs.BareLemmas.{is_bare-kept, kept_bare}
use Rattle.an_model.proofs.kept.keep_tree.Goals as goal

pub of_tree-requires-else-is_bare-clause-note : goal.of_tree-requires-else-is_bare-clause-note
of_tree-requires-else-is_bare-clause-note c =
    ap note_refusal (c.keep.ensures.value ∙ ap kept c.in_ok-clone.ensures.cases)
    ∙ note_refusal-kept _ ∙ c.requires.note

pub of_tree-requires-else-is_bare-clause-bare : goal.of_tree-requires-else-is_bare-clause-bare
of_tree-requires-else-is_bare-clause-bare c =
    ap is_bare (c.keep.ensures.value ∙ ap kept c.in_ok-clone.ensures.cases)
    ∙ is_bare-kept _ c.requires.tree

pub returns-then-is_bare : goal.returns-then-is_bare
returns-then-is_bare c =
    let bare : is_bare (view c.args.tree.now) ≡ true = sym c.if-is_bare.ensures.bare in
    IfOk-weaker c.of_tree.result _ _ (λ k is. is ∙ sym (kept_bare _ bare)) c.of_tree.ensures.value
