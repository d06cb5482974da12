use Rattle.std.proofs.Common.{◌+◌, ◌∷◌, [], ◌++◌, append-nil, arith, ap, ap₂, sym, ◌∙◌}
use Rattle.unicode_segmentation.specs.Iter.{word_bounds_left}
use Rattle.an_terms.proofs.SoughtLemmas.{HasSought-start, HasSought-piece, HasSought-end, HasSought-enough, few_more, sought_among-word, sought_among-other}
use Rattle.an_terms.proofs.sought.sought_occurrences.Goals as goal

pub loop-piece-init : goal.loop-piece-init
loop-piece-init c = record {
  walk = HasSought-start _ _ _ _ c.utf8.text c.new-found.ensures.items
      (ap word_bounds_left c.into_iter-piece-iterator.ensures.into_iter_gives
      ∙ c.split_word_bounds-piece-items.ensures.left);
  few = grind (arith, c.new-found.ensures.items);
}

pub loop-piece-preserved : goal.loop-piece-preserved
loop-piece-preserved c =
    let other =
    sought_among-other c.args.terms.now c.loop-piece.start c.in-Some.piece.now
    (sym c.in_ok-is_sought.ensures ∙ c.if-branch.false) in
    let same =
    sym (append-nil c.loop-piece.found.items)
    ∙ ap (λ os. c.loop-piece.found.items ++ os) (sym other) in
    record {
      walk =
          HasSought-piece _ _ _ _ _ _ _ _ _ c.loop-piece.invariant.walk c.in-Some.ensures.steps
          c.char_count.ensures.count c.char_count.ensures.bound same;
      few = c.loop-piece.invariant.few;
    }

pub loop-piece-preserved-in_ok-push : goal.loop-piece-preserved-in_ok-push
loop-piece-preserved-in_ok-push c =
    let found = c.loop-piece.found.items in
    let start = c.loop-piece.start in
    let word =
    sought_among-word c.args.terms.now start c.in-Some.piece.now
    (sym c.in_ok-is_sought.ensures ∙ c.if-branch.true) in
    let one =
    ap₂ (λ t n. found ++ record { term = t; span = record { start = start; end = start + n } } ∷ [])
    c.in_ok-term.ensures.term c.char_count.ensures.count in
    let new = c.in_ok-push.ensures.items ∙ one ∙ ap (λ os. found ++ os) (sym word) in
    record {
      walk =
          HasSought-piece _ _ _ _ _ _ _ _ _ c.loop-piece.invariant.walk c.in-Some.ensures.steps
          c.char_count.ensures.count c.char_count.ensures.bound new;
      few = few_more _ _ _ _ _ _ (omega (arith, c.if-len-most.false, c.len.ensures)) new;
    }

pub returns : goal.returns
returns c = record {
  words =
      HasSought-end _ _ _ _ _ _ c.loop-piece.invariant.walk c.in-None.ensures.steps.0
      c.loop-piece.invariant.few;
}

pub returns-then-len-most : goal.returns-then-len-most
returns-then-len-most c =
    record {
      words =
          HasSought-enough _ _ _ _ _ _ c.loop-piece.invariant.walk
          (omega (arith, c.if-len-most.true, c.len.ensures, c.loop-piece.invariant.few));
    }
