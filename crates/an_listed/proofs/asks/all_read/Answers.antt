use Rattle.std.proofs.Common.{◌++◌, length, append-nil, sym, ap, subst, ◌∙◌, arith}
use Rattle.std.proofs.lemmas.List.{drop_all}
use Rattle.an_policy.specs.Audience.{identity, may}
use Rattle.an_slots.specs.Places.{Rises, has, places_from}
use Rattle.an_slots.proofs.PlacesFromLemmas.{Rises-places_from}
use Rattle.an_state.proofs.AmongLemmas.{has-places_from}
use Rattle.an_listed.proofs.asks.all_read.Goals as goal

pub returns-clause-rises : goal.returns-clause-rises
returns-clause-rises c =
    let classes = c.args.classes.now in
    let who = identity c.args.who.now in
    let read = c.loop-class.read.items in
    let long = ap length c.as_slice-audience-items.ensures.audiences in
    let none = drop_all c.loop-class.class classes (omega (arith, long, c.loop-class-test.false)) in
    let all =
    sym (append-nil read)
    ∙ ap (λ left. read ++ places_from (may who) c.loop-class.class left) (sym none)
    ∙ c.loop-class.invariant in
    subst (Rises 0) (sym all) (Rises-places_from (may who) 0 classes)

pub returns-clause-read : goal.returns-clause-read
returns-clause-read c = λ class.
    let classes = c.args.classes.now in
    let who = identity c.args.who.now in
    let read = c.loop-class.read.items in
    let long = ap length c.as_slice-audience-items.ensures.audiences in
    let none = drop_all c.loop-class.class classes (omega (arith, long, c.loop-class-test.false)) in
    let all =
    sym (append-nil read)
    ∙ ap (λ left. read ++ places_from (may who) c.loop-class.class left) (sym none)
    ∙ c.loop-class.invariant in
    ap (has class) all ∙ has-places_from (may who) class classes
