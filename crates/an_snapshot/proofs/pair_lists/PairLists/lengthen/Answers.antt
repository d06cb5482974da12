use Rattle.std.proofs.Common.{◌≡◌, ◌++◌, ◌∷◌, [], ℕ, List, Vec, Global, map, ap, sym, subst, ◌∙◌}
use Rattle.std.proofs.lemmas.List.{map-append}
use Rattle.an_snapshot.specs.PairLists.{AreFiled}
use Rattle.an_snapshot.proofs.PairListLemmas.{filed-longer}
use Rattle.an_snapshot.proofs.pair_lists.PairLists.lengthen.Goals as goal

pub loop-self-preserved : goal.loop-self-preserved
loop-self-preserved c = λ numbers are.
    let before : List (Vec ℕ Global) = c.loop-self.self-inside.lists.items in
    let lists : map (λ (v : Vec ℕ Global). v.items) c.push.new.self.items
    ≡ map (λ (v : Vec ℕ Global). v.items) before ++ [] ∷ [] =
    ap (map (λ (v : Vec ℕ Global). v.items)) c.in_ok-push.ensures.items
    ∙ map-append (λ (v : Vec ℕ Global). v.items) before (c.new.result ∷ [])
    ∙ ap (λ (l : List ℕ). map (λ (v : Vec ℕ Global). v.items) before ++ l ∷ [])
    c.new.ensures.items in
    subst (λ (ls : List (List ℕ)). AreFiled numbers
    (record { lists = ls; count = c.loop-self.self-inside.count }))
    (sym lists)
    (filed-longer numbers (record {
      lists = map (λ (v : Vec ℕ Global). v.items) before;
      count = c.loop-self.self-inside.count;
    }) (c.loop-self.invariant numbers are))
