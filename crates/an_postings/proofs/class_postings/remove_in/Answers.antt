use Rattle.std.proofs.Common.{refl, arith}
use Rattle.an_slots.specs.Classed.{IsAt, IsGap}
use Rattle.an_slots.proofs.ClassedLemmas.{at_within}
use Rattle.an_postings.specs.Lists.{class_of}
use Rattle.an_postings.proofs.ListLemmas.{set_ordered, set_removed, removed-none}
use Rattle.an_postings.proofs.class_postings.remove_in.Goals as goal

pub index_mut-requires : goal.index_mut-requires
index_mut-requires c =
    let here : IsAt class_of c.args.class c.args.lists.now.items c.in-Ok.at =
    rw c.as_slice.ensures.value at c.in-Ok.ensures.place in
    let w = at_within class_of c.args.class c.args.lists.now.items c.in-Ok.at here in
    omega (arith, w)

pub returns-in-Ok-clause-ordered : goal.returns-in-Ok-clause-ordered
returns-in-Ok-clause-ordered c =
    let here : IsAt class_of c.args.class c.args.lists.now.items c.in-Ok.at =
    rw c.as_slice.ensures.value at c.in-Ok.ensures.place in
    set_ordered c.args.class c.args.lists.now.items c.in-Ok.at c.index_mut.result.now here
    c.index_mut.ensures.value
    (record {
      class = c.index_mut.result.now.class;
      places = c.remove.new.self;
      count = c.index_mut.result.now.count;
    }) refl c.remove.ensures.rises c.requires.ordered

pub returns-in-Ok-clause-removed : goal.returns-in-Ok-clause-removed
returns-in-Ok-clause-removed c =
    let here : IsAt class_of c.args.class c.args.lists.now.items c.in-Ok.at =
    rw c.as_slice.ensures.value at c.in-Ok.ensures.place in
    set_removed c.args.class c.args.lists.now.items c.in-Ok.at c.index_mut.result.now here
    c.index_mut.ensures.value
    (record {
      class = c.index_mut.result.now.class;
      places = c.remove.new.self;
      count = c.index_mut.result.now.count;
    }) refl c.args.place c.remove.ensures.places refl c.remove.ensures.room

pub returns-in-Err-clause-removed : goal.returns-in-Err-clause-removed
returns-in-Err-clause-removed c =
    let gap : IsGap class_of c.args.class c.args.lists.now.items c.in-Err.field-0 =
    rw c.as_slice.ensures.value at c.in-Err.ensures.place in
    removed-none c.args.class c.args.lists.now.items c.in-Err.field-0 gap c.requires.ordered
    c.args.place
