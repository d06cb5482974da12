use Rattle.std.proofs.Common.{◌≡◌, ◌+◌, List, length, sym, ◌∙◌, ap}
use Rattle.an_laws.specs.Events.{Event}
use Rattle.an_published.proofs.Adding.{adds_moves}
use Rattle.an_published.proofs.history.try_extend.Goals as goal

pub compare_exchange-found-requires : goal.compare_exchange-found-requires
compare_exchange-found-requires g c =
    let h = c.requires.head in
    let offer = c.plain-offer.ensures in
    let pen = c.no_pen-pen.ensures in
    let again = c.again-seen.ensures in
    let log : c.again-seen.result.log ≡ c.mark.inside.seen.log = ap (λ s. s.log) again in
    let size : length c.again-seen.result.log ≡ c.mark.inside.count + 1 =
    ap (λ (l : List Event). length l) log ∙ c.mark.invariant in
    let here : c.again-seen.result.book ≡ c.args.head.now.book =
    ap (λ s. s.book) again ∙ (ap (λ r. r.book) c.mark.view_is ∙ sym (ap (λ w. w.book) h)) in
    let next : c.args.next ≡ c.mark.inside.count + 1 =
    c.requires.next ∙ (sym (ap (λ r. length r.list) c.mark.view_is) ∙ c.mark.invariant) in (
      ap (λ w. w.tracked) h,
      here,
      pen.0 ∙ here,
      offer.0,
      rw (ap (λ w. w.key) h, pen.1, offer.1, offer.3)
          (adds_moves c.again-seen.result.log c.args.kept.now c.mark.inside.count
          c.args.next size next),
    )
