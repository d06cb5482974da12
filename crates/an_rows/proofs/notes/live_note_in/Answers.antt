use Rattle.std.proofs.Common.{Result, subst, sym}
use Rattle.serde_json.specs.View.{view}
use Rattle.an_base.specs.Outcome.{Gives}
use Rattle.an_state.specs.State.{LiveNote}
use Rattle.an_rows.specs.Lent.{note_read}
use Rattle.an_rows.specs.declared.notes.ReadNote.{ReadNote}
use Rattle.an_rows.specs.declared.refusal.RowError.{RowError}
use Rattle.an_rows.specs.declared.refusal.RowError.TheVariants.{Memory}
use Rattle.an_rows.proofs.FieldLemmas.{live_note_read}
use Rattle.an_rows.proofs.notes.live_note_in.Goals as goal

pub returns : goal.returns
returns c =
    let P : Result LiveNote RowError → Type 0 =
    λ meant. Gives {A = ReadNote} {B = LiveNote}
    {E = RowError} note_read Memory c.live_note_on.result meant in
    record {
      live = subst P
          (sym (live_note_read c.args.format c.in_ok-manifest.manifest c.in_ok-creator.creator
          c.in_ok-group.group (view c.args.tree.now)
          c.in_ok-manifest.ensures.name c.in_ok-group.ensures.inner
          c.in_ok-creator.ensures.creator)) c.live_note_on.ensures.live;
    }
