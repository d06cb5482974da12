use Rattle.an_slots.specs.Classed.{IsGap}
use Rattle.an_postings.specs.Lists.{class_of}
use Rattle.an_postings.proofs.ListLemmas.{out-none}
use Rattle.an_postings.proofs.class_postings.take_out_in.Goals as goal

pub take_out_at-requires-clause-here : goal.take_out_at-requires-clause-here
take_out_at-requires-clause-here c = rw c.as_slice.ensures.value at c.in-Ok.ensures.place

pub returns-in-Err-clause-out : goal.returns-in-Err-clause-out
returns-in-Err-clause-out c =
    let gap : IsGap class_of c.args.class c.args.lists.now.items c.in-Err.field-0 =
    rw c.as_slice.ensures.value at c.in-Err.ensures.place in
    out-none c.args.class c.args.lists.now.items c.in-Err.field-0 gap c.requires.ordered
    c.args.stays c.args.place c.args.times c.requires.enough
