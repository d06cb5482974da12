use Rattle.std.proofs.Common.{ap, ◌∙◌, sym, subst}
use Rattle.unicode_segmentation.specs.Iter.{word_bounds_left}
use Rattle.std.proofs.lemmas.List.Elements.{All-same}
use Rattle.std.specs.List.{AllPairs}
use Rattle.an_terms.specs.Terms.{IsWordOf, StandsBefore}
use Rattle.an_terms.proofs.SpanLemmas.{All-IsWordOf, AllPairs-StandsBefore}
use Rattle.an_terms.proofs.TermsLemmas.{HasCome-start, HasCome-word, HasCome-other, HasCome-end}
use Rattle.an_terms.proofs.words.occurrences.Goals as goal

pub loop-piece-init : goal.loop-piece-init
loop-piece-init c =
    HasCome-start _ _ _ c.utf8.text c.new-found.ensures.items
    (ap word_bounds_left c.into_iter-piece-iterator.ensures.into_iter_gives
    ∙ c.split_word_bounds-piece-items.ensures.left)

pub loop-piece-preserved-in_ok-push : goal.loop-piece-preserved-in_ok-push
loop-piece-preserved-in_ok-push c =
    rw c.in_ok-push.ensures.items
    (HasCome-word _ _ _ _ _ _ _ c.loop-piece.invariant c.in-Some.ensures.steps
    (sym c.if-is_word.ensures) c.char_count.ensures.count
    c.char_count.ensures.bound _ c.in_ok-term.ensures.term)

pub loop-piece-preserved : goal.loop-piece-preserved
loop-piece-preserved c =
    HasCome-other _ _ _ _ _ _ _ c.loop-piece.invariant c.in-Some.ensures.steps
    (sym c.if-is_word.ensures)
    c.char_count.ensures.count c.char_count.ensures.bound

pub returns : goal.returns
returns c =
    let value = HasCome-end _ _ _ _ c.loop-piece.invariant c.in-None.ensures.steps.0 in
    record {
      value = value;
      words =
          All-same (IsWordOf c.args.text.now) _ _ value (All-IsWordOf c.args.text.now c.utf8.text);
      ascending = subst (AllPairs StandsBefore) (sym value) (AllPairs-StandsBefore c.args.text.now);
    }
