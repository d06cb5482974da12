use Rattle.std.proofs.Common.{◌≡◌, ◌+◌, ◌<◌, ◌∷◌, [], ℕ, List, Vec, Global, length, ap, rules, ◌∙◌, arith}
use Rattle.std.proofs.lemmas.List.{length-map}
use Rattle.an_snapshot.specs.PairLists.{Filed, with_next}
use Rattle.an_snapshot.proofs.PairListLemmas.{items-put, items-same, on_err-given}
use Rattle.an_snapshot.proofs.pair_lists.PairLists.push.Goals as goal

pub returns-in_err-push-clause-err : goal.returns-in_err-push-clause-err
returns-in_err-push-clause-err c =
    let same =
    items-same c.self.inside.lists.items c.args.number c.index_mut.result.now c.push.new.self
    c.index_mut.ensures.value c.in_err-push.ensures.items in
    on_err-given c.from_residual.result
    (ap (λ (ls : List (List ℕ)). record { lists = ls; count = c.self.inside.count }) same
    ∙ c.self.view_is)

pub returns-clause-ok : goal.returns-clause-ok
returns-clause-ok c =
    let lists : List (Vec ℕ Global) = c.self.inside.lists.items in
    let low : c.args.number < length lists = omega (
      arith,
      c.requires.within,
      ap (λ (f : Filed). length f.lists) c.self.view_is,
      length-map lists (λ (v : Vec ℕ Global). v.items),
    ) in
    let more =
    items-put lists c.args.number c.index_mut.result.now c.push.new.self
    (c.self.inside.count ∷ []) low c.index_mut.ensures.value c.in_ok-push.ensures.items in
    let next : c.in-Some.next ≡ c.self.inside.count + 1 = search rules in
    rw next (ap
    (λ (ls : List (List ℕ)). record { lists = ls; count = c.self.inside.count + 1 }) more
    ∙ ap (with_next c.args.number) c.self.view_is)
