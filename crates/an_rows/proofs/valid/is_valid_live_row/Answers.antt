use Rattle.std.proofs.Common.{option_map, ap, ◌∙◌, sym}
use Rattle.an_state.specs.Live.{lent_note}
use Rattle.an_rows.proofs.QuickLemmas.{live-row-valid}
use Rattle.an_rows.proofs.valid.is_valid_live_row.Goals as goal

pub returns-then-is_valid_head : goal.returns-then-is_valid_head
returns-then-is_valid_head c = record {
  valid =
      λ is. live-row-valid c.args.row.now (lent_note c.in-Some.live)
      (sym (ap (option_map lent_note) (sym c.in-Some.is) ∙ c.live.ensures.live))
      (c.is_valid_head.ensures.owner c.if-is_valid_head.true)
      (c.is_valid_head.ensures.name c.if-is_valid_head.true)
      (c.is_valid_head.ensures.number c.if-is_valid_head.true) (sym c.is_valid_live.ensures ∙ is);
}
