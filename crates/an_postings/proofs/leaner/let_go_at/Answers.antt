use Rattle.std.proofs.Common.{refl, arith}
use Rattle.an_slots.proofs.ClassedLemmas.{at_within}
use Rattle.an_postings.specs.Lists.{class_of}
use Rattle.an_postings.proofs.LeanLemmas.{remove_leaner, remove_ordered, remove_others}
use Rattle.an_postings.proofs.ListLemmas.{old_rises, set_leaner, set_ordered, set_others}
use Rattle.an_postings.proofs.leaner.let_go_at.Goals as goal

pub index-requires : goal.index-requires
index-requires c =
    let w = at_within class_of c.args.class c.args.lists.now.items c.args.at c.requires.here in
    omega (arith, w)

pub remove-requires : goal.remove-requires
remove-requires c =
    let w = at_within class_of c.args.class c.args.lists.now.items c.args.at c.requires.here in
    omega (arith, w)

pub index_mut-requires : goal.index_mut-requires
index_mut-requires c =
    let w = at_within class_of c.args.class c.args.lists.now.items c.args.at c.requires.here in
    omega (arith, w)

pub returns-then-is_bare-clause-ordered : goal.returns-then-is_bare-clause-ordered
returns-then-is_bare-clause-ordered c =
    rw (c.slim.ensures.items, c.remove.ensures.items)
    (remove_ordered c.args.class c.args.lists.now.items c.args.at c.index.result.now c.requires.here
    c.index.ensures c.requires.ordered)

pub returns-then-is_bare-clause-leaner : goal.returns-then-is_bare-clause-leaner
returns-then-is_bare-clause-leaner c =
    rw (c.slim.ensures.items, c.remove.ensures.items)
    (remove_leaner c.args.class c.args.lists.now.items c.args.at c.index.result.now
    c.requires.here c.index.ensures c.requires.ordered (c.is_bare.ensures.places c.if-is_bare.true)
    (c.is_bare.ensures.count c.if-is_bare.true))

pub returns-else-is_bare-clause-ordered : goal.returns-else-is_bare-clause-ordered
returns-else-is_bare-clause-ordered c =
    set_ordered c.args.class c.args.lists.now.items c.args.at c.index_mut.result.now c.requires.here
    c.index_mut.ensures.value
    (record {
      class = c.index_mut.result.now.class;
      places = c.slim-else-is_bare.new.self;
      count = c.index_mut.result.now.count;
    }) refl (rw c.slim-else-is_bare.ensures.places
    (old_rises c.args.class c.args.lists.now.items c.args.at c.index_mut.result.now c.requires.here
    c.index_mut.ensures.value c.requires.ordered)) c.requires.ordered

pub returns-else-is_bare-clause-leaner : goal.returns-else-is_bare-clause-leaner
returns-else-is_bare-clause-leaner c =
    set_leaner c.args.class c.args.lists.now.items c.args.at c.index_mut.result.now c.requires.here
    c.index_mut.ensures.value
    (record {
      class = c.index_mut.result.now.class;
      places = c.slim-else-is_bare.new.self;
      count = c.index_mut.result.now.count;
    }) refl c.slim-else-is_bare.ensures.places refl

pub returns-then-is_bare-clause-others : goal.returns-then-is_bare-clause-others
returns-then-is_bare-clause-others c =
    rw (c.slim.ensures.items, c.remove.ensures.items)
    (remove_others c.args.class c.args.lists.now.items c.args.at c.index.result.now c.requires.here
    c.index.ensures c.requires.ordered)

pub returns-else-is_bare-clause-others : goal.returns-else-is_bare-clause-others
returns-else-is_bare-clause-others c =
    set_others c.args.class c.args.lists.now.items c.args.at c.index_mut.result.now c.requires.here
    c.index_mut.ensures.value
    (record {
      class = c.index_mut.result.now.class;
      places = c.slim-else-is_bare.new.self;
      count = c.index_mut.result.now.count;
    }) refl
