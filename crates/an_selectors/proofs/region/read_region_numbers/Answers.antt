use Rattle.an_selectors.proofs.RegionLemmas.{five_parts}
use Rattle.an_selectors.proofs.region.read_region_numbers.Goals as goal

pub returns-in-Some : goal.returns-in-Some
returns-in-Some c =
    let parts = c.in-Some.field-0 in
    record {
      region =
          five_parts c.args.text.now _ c.in_ok-x.rest.now _ c.in_ok-y.rest.now _ c.in_ok-w.h.now _
          parts.1.now c.in_ok-x.ensures c.in_ok-y.ensures c.in_ok-w.ensures c.in-Some.ensures;
    }
