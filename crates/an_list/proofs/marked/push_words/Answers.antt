use Rattle.std.proofs.Common.{arith}
use Rattle.an_list.proofs.MarkLemmas.{LiesIn-word, next_mark, all_marked}
use Rattle.an_list.proofs.marked.push_words.Goals as goal

pub push_mark-requires : goal.push_mark-requires
push_mark-requires c =
    record { placed = LiesIn-word _ _ _ _ c.requires.placed c.loop-word-test.true c.word-item.is }

pub loop-word-preserved : goal.loop-word-preserved
loop-word-preserved c = record {
  text =
      next_mark c.args.text.now c.args.source.now c.args.page.now _ _ _ _ _ _ _
      c.loop-word-test.true c.word-item.is c.in_ok-out.ensures.text c.loop-word.invariant.text;
  number = omega (arith, c.loop-word.invariant.number);
}

pub returns : goal.returns
returns c = record {
  text =
      all_marked c.args.text.now c.args.source.now c.args.page.now _ _ _ _ _ c.loop-word-test.false
      c.loop-word.invariant.text;
  count = omega (
    arith,
    c.loop-word.invariant.number,
    c.loop-word-test.false,
    c.loop-word.auto.word-index-end,
  );
}
