use Rattle.std.proofs.Common.{arith}
use Rattle.an_slots.proofs.ClassedLemmas.{at_within}
use Rattle.an_postings.specs.Lists.{class_of}
use Rattle.an_postings.proofs.ListLemmas.{count_here, old_rises, set_at, set_ordered, set_out}
use Rattle.an_postings.proofs.leaner.out_at.Goals as goal

pub index_mut-requires : goal.index_mut-requires
index_mut-requires c =
    let w = at_within class_of c.args.class c.args.lists.now.items c.args.at c.requires.here in
    omega (arith, w)

pub out_of-requires : goal.out_of-requires
out_of-requires c =
    let is =
    count_here c.args.class c.args.lists.now.items c.args.at c.index_mut.result.now c.requires.here
    c.index_mut.ensures.value in
    record {
      rises =
          old_rises c.args.class c.args.lists.now.items c.args.at c.index_mut.result.now
          c.requires.here c.index_mut.ensures.value c.requires.ordered;
      enough = omega (arith, is, c.requires.enough);
    }

pub returns : goal.returns
returns c = record {
  ordered =
      set_ordered c.args.class c.args.lists.now.items c.args.at c.index_mut.result.now
      c.requires.here c.index_mut.ensures.value c.out_of.new.own c.out_of.ensures.class
      c.out_of.ensures.rises c.requires.ordered;
  here =
      set_at c.args.class c.args.lists.now.items c.args.at c.index_mut.result.now c.requires.here
      c.index_mut.ensures.value c.out_of.new.own c.out_of.ensures.class;
  out =
      set_out c.args.class c.args.lists.now.items c.args.at c.index_mut.result.now c.requires.here
      c.index_mut.ensures.value c.out_of.new.own c.out_of.ensures.class c.args.place c.args.times
      c.out_of.ensures.places c.out_of.ensures.count c.out_of.ensures.room;
}
