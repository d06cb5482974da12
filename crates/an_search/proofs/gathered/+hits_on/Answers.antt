use Rattle.std.proofs.Common.{ℕ, ◌-◌, ◌/◌, ◌++◌, List, length, take, drop, Bor, ap, ◌∙◌, arith, length-take}
use Rattle.std.proofs.lemmas.Result.{IfOk-weaker}
use Rattle.std.specs.List.{flat_map, sum_by}
use Rattle.an_policy.specs.Audience.{identity}
use Rattle.an_slots.specs.Places.{ascending}
use Rattle.an_slots.proofs.MergeLemmas.{rest}
use Rattle.an_slots.proofs.PlacesLemmas.{Rises-ascending}
use Rattle.an_state.specs.View.{view_of}
use Rattle.an_search.specs.Cost.{candidates}
use Rattle.an_list.proofs.PageLemmas.{on_ok}
use Rattle.an_search.specs.Gathered.{hits_at, lent_names}
use Rattle.an_search.proofs.GatheredLemmas.{hits-rise, one-hits, places-halves, sum-halves}
use Rattle.an_search.proofs.gathered.+hits_on.Goals as goal

pub returns-then-count-eq1-clause-places : goal.returns-then-count-eq1-clause-places
returns-then-count-eq1-clause-places g t c =
    IfOk-weaker c.hit_places.result _ _
    (λ p h. h
    ∙ one-hits
    (hits_at (g.T.Look.state c.args.look.now) (identity c.args.who.now) c.args.wanted.now)
    c.args.manifests.now _ c.index-manifests-0.is c.if-count-eq1.true
    (hits-rise (g.T.Look.state c.args.look.now)
    (identity c.args.who.now) c.args.wanted.now c.index-manifests-0.result.now))
    c.hit_places.ensures.places

pub hits_on-requires : goal.hits_on-requires
hits_on-requires g t c = λ κs lives.
    let ls = c.args.manifests.now in
    let e = length-take (length ls / 2) ls in
    (omega (arith, e, c.decreases), (lives.0, lives.1))

pub hits_on-requires-2 : goal.hits_on-requires-2
hits_on-requires-2 g t c = λ κs lives.
    let ls = c.args.manifests.now in
    let e = length-take (length ls - length ls / 2) (drop (length ls / 2) ls) in
    (omega (arith, e, c.decreases), (lives.0, lives.1))

pub returns-in_err-front-clause-steps_most : goal.returns-in_err-front-clause-steps_most
returns-in_err-front-clause-steps_most g t c =
    let ls = c.args.manifests.now in
    let all =
    sum-halves (λ m. length (candidates
    (view_of (g.T.Look.state c.args.look.now) (identity c.args.who.now)) m c.args.wanted.now.terms))
    (length ls / 2) ls in
    omega (arith, all, c.hits_on.ensures.steps_most)

pub returns-in_err-back-clause-steps_most : goal.returns-in_err-back-clause-steps_most
returns-in_err-back-clause-steps_most g t c =
    let ls = c.args.manifests.now in
    let half = length ls / 2 in
    let cost : List ℕ → ℕ =
    λ m. length (candidates (view_of (g.T.Look.state c.args.look.now) (identity c.args.who.now)) m
    c.args.wanted.now.terms) in
    let all = sum-halves cost half ls in
    let left = ap (λ (l : List (Bor (List ℕ))). sum_by cost (lent_names l)) (rest half ls) in
    omega (arith, all, left, c.in_ok-front.ensures.steps, c.hits_on-2.ensures.steps_most)

pub merge-requires-clause-a : goal.merge-requires-clause-a
merge-requires-clause-a g t c =
    let ls = c.args.manifests.now in
    rw (c.as_slice.ensures.value, c.in_ok-front.ensures.places)
    (Rises-ascending (flat_map
    (hits_at (g.T.Look.state c.args.look.now) (identity c.args.who.now) c.args.wanted.now)
    (lent_names (take (length ls / 2) ls))))

pub merge-requires-clause-b : goal.merge-requires-clause-b
merge-requires-clause-b g t c =
    let ls = c.args.manifests.now in
    rw (c.as_slice-2.ensures.value, c.in_ok-back.ensures.places)
    (Rises-ascending (flat_map
    (hits_at (g.T.Look.state c.args.look.now) (identity c.args.who.now) c.args.wanted.now)
    (lent_names (take (length ls - length ls / 2) (drop (length ls / 2) ls)))))

pub returns-clause-places : goal.returns-clause-places
returns-clause-places g t c =
    let ls = c.args.manifests.now in
    let half = length ls / 2 in
    let hits =
    hits_at (g.T.Look.state c.args.look.now) (identity c.args.who.now) c.args.wanted.now in
    let front = c.as_slice.ensures.value ∙ c.in_ok-front.ensures.places in
    let back =
    c.as_slice-2.ensures.value ∙ c.in_ok-back.ensures.places
    ∙ ap (λ (l : List (Bor (List ℕ))). ascending (flat_map hits (lent_names l))) (rest half ls) in
    let whole =
    ap (λ (l : List ℕ). ascending (l ++ c.as_slice-2.result.now)) front
    ∙ ap (λ (l : List ℕ). ascending (ascending (flat_map hits (lent_names (take half ls))) ++ l))
    back
    ∙ places-halves hits half ls in
    IfOk-weaker c.merge.result _ _ (λ p h. h ∙ whole) c.merge.ensures.places

pub returns-clause-steps : goal.returns-clause-steps
returns-clause-steps g t c =
    let ls = c.args.manifests.now in
    let half = length ls / 2 in
    let cost : List ℕ → ℕ =
    λ m. length (candidates (view_of (g.T.Look.state c.args.look.now) (identity c.args.who.now)) m
    c.args.wanted.now.terms) in
    let all = sum-halves cost half ls in
    let left = ap (λ (l : List (Bor (List ℕ))). sum_by cost (lent_names l)) (rest half ls) in
    on_ok c.merge.result
    (omega (arith, all, left, c.in_ok-front.ensures.steps, c.in_ok-back.ensures.steps))

pub returns-clause-steps_most : goal.returns-clause-steps_most
returns-clause-steps_most g t c =
    let ls = c.args.manifests.now in
    let half = length ls / 2 in
    let cost : List ℕ → ℕ =
    λ m. length (candidates (view_of (g.T.Look.state c.args.look.now) (identity c.args.who.now)) m
    c.args.wanted.now.terms) in
    let all = sum-halves cost half ls in
    let left = ap (λ (l : List (Bor (List ℕ))). sum_by cost (lent_names l)) (rest half ls) in
    omega (arith, all, left, c.in_ok-front.ensures.steps, c.in_ok-back.ensures.steps)
