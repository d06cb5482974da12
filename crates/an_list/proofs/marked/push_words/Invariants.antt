use Rattle.std.proofs.Common.{◌≡◌, ◌+◌, ◌++◌, drop}
use Rattle.serde_json.specs.View.{items_of}
use Rattle.an_base.specs.Write.{item_commas}
use Rattle.an_list.specs.Marks.{text_marks}
use Rattle.an_list.proofs.marked.push_words.Given as goal

-- the marks of the words that are left stand behind those so far
abbrev pub invariant-loop-word : goal.invariant-loop-word
invariant-loop-word l = record {
  text : l.out.items
      ++ item_commas
      (items_of (text_marks l.text l.source l.page (l.number + 1) (drop l.word-index l.words)))
      ≡ l.fn.marks.text.items
      ++ item_commas (items_of (text_marks l.text l.source l.page (l.fn.marks.count + 1) l.words));
  number : l.number ≡ l.fn.marks.count + l.word-index;
}
