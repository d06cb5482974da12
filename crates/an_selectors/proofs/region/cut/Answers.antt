use Rattle.an_selectors.proofs.RegionLemmas.{slice_split-split_once}
use Rattle.an_selectors.proofs.region.cut.Goals as goal

pub returns : goal.returns
returns c = slice_split-split_once _ _ c.split_once.ensures.cases
