use Rattle.an_list.proofs.ListedLemmas.{HasListed-more}
use Rattle.an_list.proofs.items.list_row.Goals as goal

pub returns-clause-row : goal.returns-clause-row
returns-clause-row c rows has =
    HasListed-more _ _ _ rows _ c.args.listed _ has c.in_ok-items.ensures.text
    c.in_ok-marks.ensures.text c.in_ok-marks.ensures.count
