use Rattle.std.proofs.Common.{drop}
use Rattle.an_model.specs.Bodies.{texts_of}
use Rattle.an_list.proofs.MarkLemmas.{HasMarked}
use Rattle.an_list.proofs.marked.highlight.Given as goal

abbrev pub invariant-loop-text : goal.invariant-loop-text
invariant-loop-text l =
    HasMarked (texts_of l.note) l.source l.terms l.page l.fn.marks.text.items l.fn.marks.count
    l.marks.text.items l.marks.count l.text-index (drop l.text-index l.text-items)
