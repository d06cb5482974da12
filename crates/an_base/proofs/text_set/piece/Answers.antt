use Rattle.std.proofs.Common.{◌≤◌, get_or, slice_range, sym, subst, ap, ◌∙◌}
use Rattle.an_base.proofs.TextSetLemmas.{piece_at}
use Rattle.an_base.proofs.text_set.piece.Goals as goal

pub part-requires : goal.part-requires
part-requires c =
    let at =
    piece_at c.args.ends.now c.args.bytes.now c.args.place c.requires.ends c.requires.within in
    record {
      order =
          subst (λ start. start ≤ get_or c.args.ends.now c.args.place 0)
          (sym c.start_of.ensures) at.up;
      within = at.inside;
    }

pub returns : goal.returns
returns c =
    let at =
    piece_at c.args.ends.now c.args.bytes.now c.args.place c.requires.ends c.requires.within in
    c.part.ensures
    ∙ ap (λ start. slice_range c.args.bytes.now start (get_or c.args.ends.now c.args.place 0))
    c.start_of.ensures
    ∙ at.is
