use Rattle.std.proofs.Common.{map, arith}
use Rattle.an_snapshot.proofs.SeenListLemmas.{none-first}
use Rattle.an_snapshot.proofs.seen_lists.place_with.Goals as goal

pub loop-low-init : goal.loop-low-init
loop-low-init c =
    let none = none-first (map (λ list. list.now) c.args.lists.now) in
    record { order = omega arith; within = omega arith; few = omega (arith, none) }
