use Rattle.std.proofs.Common.{arith}
use Rattle.an_base.proofs.CharLemmas.{length-chars}
use Rattle.an_selectors.proofs.CutLemmas.{IsPointOf-zero}
use Rattle.an_selectors.proofs.WalkLemmas.{needle_fits}
use Rattle.an_selectors.proofs.PlaceLemmas.{spans_none, HasCome-first, HasCome-next, HasCome-end}
use Rattle.an_selectors.proofs.place.spans_of.Goals as goal

pub next_point-requires : goal.next_point-requires
next_point-requires c = IsPointOf-zero c.args.text.now c.utf8.text

pub returns-in_default : goal.returns-in_default
returns-in_default c =
    spans_none c.args.whole.now c.args.text.now c.args.before c.args.width _
    c.new-found.ensures.items c.in_default.ensures

pub loop-found-init : goal.loop-found-init
loop-found-init c =
    HasCome-first c.args.whole.now c.args.text.now c.args.before c.args.width _ c.in-Some.first
    c.utf8.whole c.utf8.text c.new-found.ensures.items c.in-Some.ensures

pub overflow_add-start : goal.overflow_add-start
overflow_add-start c =
    let fits =
    needle_fits c.args.whole.now c.args.text.now c.loop-found.point c.utf8.whole c.utf8.text
    c.loop-found.invariant.here in
    let bound = length-chars c.args.text.now c.utf8.text in
    omega (arith, c.requires.within)

pub overflow_add-start-in-loop-found : goal.overflow_add-start-in-loop-found
overflow_add-start-in-loop-found c =
    let fits =
    needle_fits c.args.whole.now c.args.text.now c.loop-found.point c.utf8.whole c.utf8.text
    c.loop-found.invariant.here in
    let bound = length-chars c.args.text.now c.utf8.text in
    omega (arith, c.requires.within)

pub point_after-requires-clause-some : goal.point_after-requires-clause-some
point_after-requires-clause-some c =
    let bound = length-chars c.args.whole.now c.utf8.whole in
    omega (arith, c.requires.within, c.requires.some)

pub loop-found-smaller : goal.loop-found-smaller
loop-found-smaller c =
    let next = c.in-Some-point_after in
    let fits =
    needle_fits c.args.whole.now c.args.text.now next.next c.utf8.whole c.utf8.text
    next.ensures.stands in
    omega (arith, c.requires.within, c.requires.some, next.ensures.later)

pub loop-found-preserved : goal.loop-found-preserved
loop-found-preserved c =
    HasCome-next c.args.whole.now c.args.text.now c.args.before c.args.width
    c.loop-found.last c.loop-found.point _ _ c.utf8.whole c.utf8.text
    (omega (arith, c.requires.within, c.requires.some))
    c.loop-found.invariant c.in_ok-push.ensures.items c.in-Some-point_after.next
    c.in-Some-point_after.ensures

pub returns-in-None : goal.returns-in-None
returns-in-None c =
    HasCome-end c.args.whole.now c.args.text.now c.args.before c.args.width
    c.loop-found.last c.loop-found.point _ _ c.utf8.whole c.utf8.text
    (omega (arith, c.requires.within, c.requires.some))
    c.loop-found.invariant c.in_ok-push.ensures.items c.in-None.ensures
