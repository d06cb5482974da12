use Rattle.std.proofs.Common.{arith}
use Rattle.an_slots.specs.Classed.{IsAt, IsGap}
use Rattle.an_slots.proofs.ClassedLemmas.{at_within}
use Rattle.an_postings.specs.Lists.{class_of}
use Rattle.an_postings.proofs.ListLemmas.{old_rises, room_for, set_ordered, set_added, no_room_for}
use Rattle.an_postings.proofs.class_postings.add_in.Goals as goal

pub index_mut-requires : goal.index_mut-requires
index_mut-requires c =
    let here : IsAt class_of c.args.class c.args.lists.now.items c.in-Ok.at =
    rw c.as_slice.ensures.value at c.in-Ok.ensures.place in
    let w = at_within class_of c.args.class c.args.lists.now.items c.in-Ok.at here in
    omega (arith, w)

pub add_one-requires-clause-rises : goal.add_one-requires-clause-rises
add_one-requires-clause-rises c =
    let here : IsAt class_of c.args.class c.args.lists.now.items c.in-Ok.at =
    rw c.as_slice.ensures.value at c.in-Ok.ensures.place in
    old_rises c.args.class c.args.lists.now.items c.in-Ok.at c.index_mut.result.now here
    c.index_mut.ensures.value c.requires.ordered

pub add_one-requires-clause-room : goal.add_one-requires-clause-room
add_one-requires-clause-room c =
    let here : IsAt class_of c.args.class c.args.lists.now.items c.in-Ok.at =
    rw c.as_slice.ensures.value at c.in-Ok.ensures.place in
    room_for c.args.class c.args.lists.now.items c.in-Ok.at c.index_mut.result.now here
    c.index_mut.ensures.value c.args.place c.requires.room

pub unreachable-requires : goal.unreachable-requires
unreachable-requires c =
    let gap : IsGap class_of c.args.class c.args.lists.now.items c.in-Err.field-0 =
    rw c.as_slice.ensures.value at c.in-Err.ensures.place in
    let no =
    no_room_for c.args.class c.args.lists.now.items c.in-Err.field-0 gap c.requires.ordered
    c.args.place c.requires.room in
    cc

pub returns-clause-ordered : goal.returns-clause-ordered
returns-clause-ordered c =
    let here : IsAt class_of c.args.class c.args.lists.now.items c.in-Ok.at =
    rw c.as_slice.ensures.value at c.in-Ok.ensures.place in
    set_ordered c.args.class c.args.lists.now.items c.in-Ok.at c.index_mut.result.now here
    c.index_mut.ensures.value c.add_one.new.own c.add_one.ensures.class c.add_one.ensures.rises
    c.requires.ordered

pub returns-clause-added : goal.returns-clause-added
returns-clause-added c =
    let here : IsAt class_of c.args.class c.args.lists.now.items c.in-Ok.at =
    rw c.as_slice.ensures.value at c.in-Ok.ensures.place in
    set_added c.args.class c.args.lists.now.items c.in-Ok.at c.index_mut.result.now here
    c.index_mut.ensures.value c.add_one.new.own c.add_one.ensures.class c.args.place c.args.times
    c.add_one.ensures.places c.add_one.ensures.count c.add_one.ensures.room
