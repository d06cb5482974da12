use Rattle.std.proofs.Common.{◌++◌, ap, ◌∙◌}
use Rattle.std.specs.List.{flat_map}
use Rattle.an_policy.specs.Audience.{identity}
use Rattle.an_state.specs.View.{view_of}
use Rattle.an_export.specs.Export.{exported, manifest_line, note_line}
use Rattle.an_export.proofs.exporting.export.Goals as goal

pub returns : goal.returns
unfolding exported
returns g c =
    let view = view_of (g.T.Look.state c.args.look.now) (identity c.args.who.now) in
    record {
      text = c.from_vec.ensures.value ∙ c.in_ok-out-2.ensures.text
          ∙ ap (λ front. front ++ flat_map note_line view.notes)
          (c.in_ok-out.ensures.text
          ∙ ap (λ before. before ++ flat_map manifest_line view.manifests) c.new.ensures.items);
      steps = c.in_ok-out-2.ensures.steps;
    }
