use Rattle.std.proofs.Common.{ap, ◌∙◌}
use Rattle.an_model.specs.Targets.{targets_of}
use Rattle.an_model.specs.Bodies.{occurrences_from, texts_of, iris_of, note_occurrences}
use Rattle.an_model.specs.Note.{motivations_of}
use Rattle.an_model.proofs.note.note_over.Goals as goal

pub invariant_of-result : goal.invariant_of-result
unfolding note_occurrences
invariant_of-result c =
    let seen = c.as_value-value.ensures.value in
    let texts = c.in_ok-texts.ensures ∙ ap texts_of seen in
    record {
      tree = c.as_value-value.ensures.tree;
      shape = c.requires.note;
      bare = c.requires.bare;
      motivations = c.in_ok-motivations.ensures ∙ ap motivations_of seen;
      texts = texts;
      iris = c.in_ok-iris.ensures ∙ ap iris_of seen;
      targets = c.in_ok-targets.ensures ∙ ap targets_of seen;
      occurrences =
          c.in_ok-occurrences.ensures ∙ ap (occurrences_from 0) (c.as_slice.ensures.value ∙ texts);
    }
