use Rattle.std.proofs.Common.{◌+◌, ◌||◌, drop, slice_index_or, sym, ap, ◌∙◌}
use Rattle.an_machine.proofs.TokenLemmas.{taken, taken-next, taken-none}
use Rattle.an_machine.proofs.put_reader.is_token_taken.Goals as goal

pub returns-then-takes_token : goal.returns-then-takes_token
returns-then-takes_token c =
    sym (taken-next _ _ _ c.marked.start _ _ c.in-Some.place c.index-readers-place.result
    c.takes_token.result
    c.place_with_token.ensures.place c.as_str.ensures.value c.in-Some.is c.in-Some.ensures.within
    (c.index-readers-place.is
    ∙ ap (λ all. slice_index_or all c.in-Some.place c.index-readers-place.result)
    c.readers.ensures.rows)
    c.takes_token.ensures
    ∙ ap (λ takes. takes
    || taken c.args.name.now c.args.token.now
    (drop (c.in-Some.place + 1) c.args.book.now.state.readers)) c.if-takes_token.true)
    ∙ c.marked.invariant

pub marked-preserved : goal.marked-preserved
marked-preserved c =
    sym (taken-next _ _ _ c.marked.start _ _ c.in-Some.place c.index-readers-place.result
    c.takes_token.result
    c.place_with_token.ensures.place c.as_str.ensures.value c.in-Some.is c.in-Some.ensures.within
    (c.index-readers-place.is
    ∙ ap (λ all. slice_index_or all c.in-Some.place c.index-readers-place.result)
    c.readers.ensures.rows)
    c.takes_token.ensures
    ∙ ap (λ takes. takes
    || taken c.args.name.now c.args.token.now
    (drop (c.in-Some.place + 1) c.args.book.now.state.readers)) c.if-takes_token.false)
    ∙ c.marked.invariant

pub returns : goal.returns
returns c =
    sym (taken-none _ _ _ c.marked.start _ _ c.place_with_token.ensures.place c.as_str.ensures.value
    c.in_default.is)
    ∙ c.marked.invariant
