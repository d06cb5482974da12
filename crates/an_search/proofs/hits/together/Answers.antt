use Rattle.std.proofs.Common.{◌≡◌, ◌+◌, ◌∷◌, ◌++◌, ◌∙◌, add-one, ap, append_assoc, arith, drop, drop-cons, get_or, sym}
use Rattle.std.specs.Option.{option_copied}
use Rattle.std.specs.Prelude.{filter, slice_get}
use Rattle.an_search.specs.Found.{is_suited_at}
use Rattle.an_search.specs.Held.{suited_of}
use Rattle.an_search.proofs.HeldLemmas.{held_more}
use Rattle.an_search.proofs.hits.together.Goals as goal
use Rattle.an_search.proofs.hits.together.Goals.{then-len-ge-TOGETHER+in_ok-suited-2, else-len-ge-TOGETHER}

pub loop-place-preserved : goal.loop-place-preserved
loop-place-preserved g c =
    let notes = (g.T.Look.state c.args.look.now).notes in
    let wanted = c.args.wanted.now in
    let places = c.args.places.now in
    let at = c.loop-place.place-index in
    let one = c.held_at.result in
    let suited = c.loop-place.suited.items in
    let left = drop (at + 1) places in
    let rest = filter (is_suited_at notes wanted) left in
    let own : option_copied one.row ≡ slice_get notes one.place =
    c.held_at.ensures.row ∙ ap (slice_get notes) (sym c.held_at.ensures.place) in
    let front : drop at places ≡ one.place ∷ left =
    drop-cons places at 0 c.loop-place-test.true
    ∙ ap (λ n. get_or places at 0 ∷ drop n places) (sym (add-one at))
    ∙ ap (λ place. place ∷ left) (sym c.held_at.ensures.place) in
    let more =
    ap (λ held. suited ++ (suited_of wanted held ++ rest)) c.in_ok-push.ensures.items
    ∙ ap (λ places. suited ++ places) (held_more notes wanted c.loop-place.held.items one left own)
    ∙ ap (λ places. suited
    ++ (suited_of wanted c.loop-place.held.items ++ filter (is_suited_at notes wanted) places))
    (sym front)
    ∙ c.loop-place.invariant.places in
    elim c.if-len-ge-TOGETHER.branch [
      | then-len-ge-TOGETHER+in_ok-suited-2 w ↦
          let judged =
          w.in_ok-suited-2.ensures.suited
          ∙ ap (λ held. suited ++ suited_of wanted held) w.as_slice.ensures.value in
          let all =
          ap (λ places. places ++ rest) judged
          ∙ append_assoc suited (suited_of wanted c.push.new.self.items) rest ∙ more in
          rw (w.suited-is, w.held-is, w.last-is, w.clear.ensures.items) (record {
            places = all;
            known = w.in_ok-suited-2.ensures.known;
            steps = omega (arith, c.held_at.ensures.step, c.loop-place.invariant.steps);
          })
      | else-len-ge-TOGETHER w ↦ rw (w.suited-is, w.held-is, w.last-is) (record {
        places = more;
        known = c.loop-place.invariant.known;
        steps = omega (arith, c.held_at.ensures.step, c.loop-place.invariant.steps);
      })
    ]
