use Rattle.std.proofs.Common.{refl, ◌∙◌, arith}
use Rattle.std.proofs.lemmas.List.{drop_all}
use Rattle.an_list.proofs.MarkLemmas.{All-placed, HasMarked-start, HasMarked-at, HasMarked-text, HasMarked-end, few_taken}
use Rattle.an_list.proofs.marked.highlight.Goals as goal

pub loop-text-init : goal.loop-text-init
loop-text-init c =
    HasMarked-start _ _ _ _ _ _ _
    (c.as_slice-text-items.ensures.value ∙ c.in_ok-texts.ensures.texts)

pub push_words-requires : goal.push_words-requires
push_words-requires c =
    let words = c.as_slice.ensures.value ∙ c.in_ok-words.ensures.words in
    record {
      placed = All-placed _ c.args.terms.now _ _ c.as_str-text.utf8 words;
      numbers = omega (arith, few_taken _ _ _ words, c.loop-text.invariant.few, c.requires.numbers);
    }

pub loop-text-preserved : goal.loop-text-preserved
loop-text-preserved c =
    let texts = c.as_slice-text-items.ensures.value ∙ c.in_ok-texts.ensures.texts in
    let next =
    HasMarked-at _ _ _ _ _ _ _ _ _ _ _ _ texts c.loop-text-test.true c.text-item.is
    c.as_str-text.ensures.value c.loop-text.invariant in
    let words = c.as_slice.ensures.value ∙ c.in_ok-words.ensures.words in
    rw c.in_ok-marks.ensures.count
    (HasMarked-text _ _ _ _ _ _ _ _ _ _ _ _ _ next.0 next.1 words c.in_ok-marks.ensures.text)

pub returns : goal.returns
returns c =
    let all =
    HasMarked-end _ _ _ _ _ _ _ _ _ _ c.loop-text.invariant
    (drop_all _ _ c.loop-text-test.false) c.args.note.now refl in
    record { text = all.0; count = all.1; few = c.loop-text.invariant.few }
