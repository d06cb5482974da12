use Rattle.std.proofs.Common.{◌++◌, ◌∷◌, [], sym, subst, arith}
use Rattle.an_snapshot.specs.PairLists.{AreFiled, Filed}
use Rattle.an_snapshot.proofs.PairListLemmas.{filed-next}
use Rattle.an_snapshot.proofs.pair_lists.PairLists.file.Goals as goal

pub returns-clause-ok : goal.returns-clause-ok
returns-clause-ok c = λ numbers are.
    subst (λ (filed : Filed). AreFiled (numbers ++ c.args.number ∷ []) filed)
    (sym c.in_ok-push.ensures.ok)
    (filed-next numbers c.lengthen.new.self c.args.number
    (omega (arith, c.in_ok-lengthen.ensures.ok)) (c.lengthen.ensures.filed numbers are))
