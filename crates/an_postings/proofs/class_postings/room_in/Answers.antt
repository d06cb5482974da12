use Rattle.std.proofs.Common.{refl, arith}
use Rattle.std.proofs.lemmas.Result.{on_ok_weaker}
use Rattle.an_slots.specs.Classed.{IsAt}
use Rattle.an_slots.proofs.ClassedLemmas.{at_within}
use Rattle.an_postings.specs.Lists.{class_of}
use Rattle.an_postings.proofs.ListLemmas.{old_rises, set_ordered, set_roomier, set_room_here}
use Rattle.an_postings.proofs.class_postings.room_in.Goals as goal

pub index_mut-requires : goal.index_mut-requires
index_mut-requires c =
    let here : IsAt class_of c.args.class c.args.lists.now.items c.in-Ok.at =
    rw c.as_slice.ensures.value at c.in-Ok.ensures.place in
    let w = at_within class_of c.args.class c.args.lists.now.items c.in-Ok.at here in
    omega (arith, w)

pub returns-in-Ok-clause-ordered : goal.returns-in-Ok-clause-ordered
returns-in-Ok-clause-ordered c =
    let here : IsAt class_of c.args.class c.args.lists.now.items c.in-Ok.at =
    rw c.as_slice.ensures.value at c.in-Ok.ensures.place in
    set_ordered c.args.class c.args.lists.now.items c.in-Ok.at c.index_mut.result.now here
    c.index_mut.ensures.value
    (record {
      class = c.index_mut.result.now.class;
      places = c.reserve.new.self;
      count = c.index_mut.result.now.count;
    }) refl (rw c.reserve.ensures.items
    (old_rises c.args.class c.args.lists.now.items c.in-Ok.at c.index_mut.result.now here
    c.index_mut.ensures.value c.requires.ordered)) c.requires.ordered

pub returns-in-Ok-clause-ok : goal.returns-in-Ok-clause-ok
returns-in-Ok-clause-ok c =
    let here : IsAt class_of c.args.class c.args.lists.now.items c.in-Ok.at =
    rw c.as_slice.ensures.value at c.in-Ok.ensures.place in
    on_ok_weaker c.reserve.result
    (λ h. rw (set_room_here c.args.class c.args.lists.now.items c.in-Ok.at c.index_mut.result.now
    here c.index_mut.ensures.value
    (record {
      class = c.index_mut.result.now.class;
      places = c.reserve.new.self;
      count = c.index_mut.result.now.count;
    }) refl) h) c.reserve.ensures.ok

pub returns-in-Ok-clause-roomier : goal.returns-in-Ok-clause-roomier
returns-in-Ok-clause-roomier c =
    let here : IsAt class_of c.args.class c.args.lists.now.items c.in-Ok.at =
    rw c.as_slice.ensures.value at c.in-Ok.ensures.place in
    set_roomier c.args.class c.args.lists.now.items c.in-Ok.at c.index_mut.result.now here
    c.index_mut.ensures.value
    (record {
      class = c.index_mut.result.now.class;
      places = c.reserve.new.self;
      count = c.index_mut.result.now.count;
    }) refl c.reserve.ensures.items refl c.reserve.ensures.room
