use Rattle.std.proofs.Common.{◌≡◌, ℕ, ◌+◌, ◌++◌, ◌∷◌, Bool, List, Bor, Some, None, cond, drop, map, slice_get, sym, ap, ◌∙◌, rules}
use Rattle.std.proofs.lemmas.List.{append-nil}
use Rattle.an_snapshot.specs.PairLists.{lists_seen}
use Rattle.an_snapshot.proofs.SeenListLemmas.{seen-end, seen-more, seen-pushed}
use Rattle.an_snapshot.proofs.seen_lists.lists_seen.Goals as goal
use Rattle.an_snapshot.proofs.seen_lists.lists_seen.Goals.{then-is_some+in_ok-push, else-is_some}

pub returns-in_default : goal.returns-in_default
returns-in_default c =
    let kinds = c.args.kinds.now in
    let lists = c.args.lists.now.lists in
    let none : slice_get lists c.loop-number.number ≡ None = search rules in
    let seen = map (λ (l : Bor (List ℕ)). l.now) c.loop-number.seen.items in
    record {
      lists =
          sym (append-nil seen)
          ∙ ap (λ (r : List (List ℕ)). seen ++ r)
          (sym (seen-end kinds lists c.loop-number.number none))
          ∙ c.loop-number.invariant;
    }

pub loop-number-preserved : goal.loop-number-preserved
loop-number-preserved c =
    let kinds = c.args.kinds.now in
    let lists = c.args.lists.now.lists in
    let at = c.loop-number.number in
    let list : Bor (List ℕ) = c.in-Some.list in
    let there : slice_get lists at ≡ Some list.now = search rules in
    let more = seen-more kinds lists at list.now c.loop-number-test.true there in
    let seen = map (λ (l : Bor (List ℕ)). l.now) c.loop-number.seen.items in
    let left = lists_seen (drop (at + 1) kinds) (drop (at + 1) lists) in
    elim c.if-is_some.branch [
      | then-is_some+in_ok-push w ↦
          let items = ap (λ v. v.items) w.seen-is ∙ w.in_ok-push.ensures.items in
          let is = sym c.is_some.ensures ∙ w.if-is_some.true in
          ap (λ (l : List (Bor (List ℕ))). map (λ (r : Bor (List ℕ)). r.now) l ++ left) items
          ∙ seen-pushed c.loop-number.seen.items list left
          ∙ ap (λ (r : List (List ℕ)). seen ++ r)
          (sym (more ∙ ap (λ (b : Bool). cond b (list.now ∷ left) left) is))
          ∙ c.loop-number.invariant
      | else-is_some w ↦
          let items = ap (λ v. v.items) w.seen-is in
          let isnt = sym c.is_some.ensures ∙ w.if-is_some.false in
          ap (λ (l : List (Bor (List ℕ))). map (λ (r : Bor (List ℕ)). r.now) l ++ left) items
          ∙ ap (λ (r : List (List ℕ)). seen ++ r)
          (sym (more ∙ ap (λ (b : Bool). cond b (list.now ∷ left) left) isnt))
          ∙ c.loop-number.invariant
    ]
