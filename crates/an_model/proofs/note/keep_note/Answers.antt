use Rattle.std.proofs.Common.{◌≡◌, ap, ◌∙◌}
use Rattle.serde_json.specs.View.{view}
use Rattle.an_model.specs.Note.{note_refusal, is_bare, kept}
use Rattle.an_model.proofs.NoteLemmas.{note_refusal-kept}
use Rattle.an_model.proofs.BareLemmas.{is_bare-kept}
use Rattle.an_model.proofs.note.keep_note.Goals as goal

pub note_over-requires : goal.note_over-requires
note_over-requires c =
    let kept_is : c.new.result ≡ kept (view c.args.tree.now) =
    c.new.ensures.value ∙ c.keep-tree.ensures.value ∙ ap kept c.in_ok-clone.ensures.cases in
    record {
      note = ap note_refusal kept_is ∙ note_refusal-kept _ ∙ c.requires.note;
      bare = ap is_bare kept_is ∙ is_bare-kept _ c.requires.tree;
    }
