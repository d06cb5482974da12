use Rattle.std.proofs.Common.{◌≡◌, ◌+◌, ◌∷◌, ◌∙◌, add-one, ap, arith, drop, drop-cons, get_or, length, map, subst, sym}
use Rattle.std.proofs.lemmas.Bool.Decides.{nat_tests}
use Rattle.std.specs.Option.{option_copied}
use Rattle.an_policy.specs.Audience.{identity}
use Rattle.an_search.specs.Found.{with_term, with_terms}
use Rattle.an_slots.proofs.GatheredLemmas.{Rises-kept}
use Rattle.an_state.specs.Places.{Rises}
use Rattle.an_list.proofs.ListedLemmas.{empty_of}
use Rattle.an_search.proofs.HitLemmas.{none_having}
use Rattle.an_search.proofs.hits.with_terms.Goals as goal

pub loop-other-preserved : goal.loop-other-preserved
loop-other-preserved g c =
    let s = g.T.Look.state c.args.look.now in
    let who = identity c.args.who.now in
    let manifest = (option_copied c.args.manifest) in
    let terms = c.args.terms.now in
    let at = c.loop-other.other-index in
    let having = c.loop-other.having.items in
    let other = get_or terms at c.other-item.result in
    let cons =
    drop-cons terms at c.other-item.result c.loop-other-test.true
    ∙ ap (λ n. other ∷ drop n terms) (sym (add-one at)) in
    let one_more =
    c.in_ok-having.ensures.having
    ∙ ap (λ places. with_term s who manifest places c.as_str-term.result.now)
    c.as_slice.ensures.value
    ∙ ap (with_term s who manifest having)
    (c.as_str-term.ensures.value ∙ ap (λ other. other.term) c.other-item.is) in
    let rise = subst (Rises 0) (sym c.as_slice.ensures.value) c.loop-other.invariant.rise in
    record {
      left =
          ap (λ places.
          with_terms s who manifest places (map (λ other. other.term) (drop (at + 1) terms)))
          one_more
          ∙ ap (λ terms. with_terms s who manifest having (map (λ other. other.term) terms))
          (sym cons)
          ∙ c.loop-other.invariant.left;
      rise =
          subst (Rises 0) (sym c.in_ok-having.ensures.having)
          (Rises-kept _ 0 c.as_slice.result.now rise);
    }

pub returns-then-is_empty : goal.returns-then-is_empty
returns-then-is_empty g c =
    let s = g.T.Look.state c.args.look.now in
    let who = identity c.args.who.now in
    let manifest = (option_copied c.args.manifest) in
    let left = map (λ other. other.term) (drop c.loop-other.other-index c.args.terms.now) in
    let count : length c.loop-other.having.items ≡ 0 =
    grind (arith, nat_tests, c.if-is_empty.ensures, c.loop-other.having.ok.0) in
    let none = empty_of c.loop-other.having.items count in
    none ∙ sym (none_having s who manifest left)
    ∙ ap (λ places. with_terms s who manifest places left) (sym none) ∙ c.loop-other.invariant.left
