use Rattle.std.proofs.Common.{arith}
use Rattle.an_slots.specs.Classed.{IsAt, IsGap}
use Rattle.an_slots.proofs.ClassedLemmas.{at_within}
use Rattle.an_postings.specs.Lists.{class_of}
use Rattle.an_postings.proofs.ListLemmas.{count_here, old_rises, set_ordered, set_taken, taken-none}
use Rattle.an_postings.proofs.class_postings.take_in.Goals as goal

pub index_mut-requires : goal.index_mut-requires
index_mut-requires c =
    let here : IsAt class_of c.args.class c.args.lists.now.items c.in-Ok.at =
    rw c.as_slice.ensures.value at c.in-Ok.ensures.place in
    let w = at_within class_of c.args.class c.args.lists.now.items c.in-Ok.at here in
    omega (arith, w)

pub take_one-requires : goal.take_one-requires
take_one-requires c =
    let here : IsAt class_of c.args.class c.args.lists.now.items c.in-Ok.at =
    rw c.as_slice.ensures.value at c.in-Ok.ensures.place in
    let is =
    count_here c.args.class c.args.lists.now.items c.in-Ok.at c.index_mut.result.now here
    c.index_mut.ensures.value in
    record { enough = omega (arith, is, c.requires.enough) }

pub returns-in-Ok-clause-ordered : goal.returns-in-Ok-clause-ordered
returns-in-Ok-clause-ordered c =
    let here : IsAt class_of c.args.class c.args.lists.now.items c.in-Ok.at =
    rw c.as_slice.ensures.value at c.in-Ok.ensures.place in
    set_ordered c.args.class c.args.lists.now.items c.in-Ok.at c.index_mut.result.now here
    c.index_mut.ensures.value c.take_one.new.own c.take_one.ensures.class
    (rw c.take_one.ensures.places
    (old_rises c.args.class c.args.lists.now.items c.in-Ok.at c.index_mut.result.now here
    c.index_mut.ensures.value c.requires.ordered)) c.requires.ordered

pub returns-in-Ok-clause-taken : goal.returns-in-Ok-clause-taken
returns-in-Ok-clause-taken c =
    let here : IsAt class_of c.args.class c.args.lists.now.items c.in-Ok.at =
    rw c.as_slice.ensures.value at c.in-Ok.ensures.place in
    set_taken c.args.class c.args.lists.now.items c.in-Ok.at c.index_mut.result.now here
    c.index_mut.ensures.value c.take_one.new.own c.take_one.ensures.class c.args.times
    c.take_one.ensures.places c.take_one.ensures.count

pub returns-in-Err-clause-taken : goal.returns-in-Err-clause-taken
returns-in-Err-clause-taken c =
    let gap : IsGap class_of c.args.class c.args.lists.now.items c.in-Err.field-0 =
    rw c.as_slice.ensures.value at c.in-Err.ensures.place in
    taken-none c.args.class c.args.lists.now.items c.in-Err.field-0 gap c.requires.ordered
    c.args.times c.requires.enough
