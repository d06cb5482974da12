use Rattle.std.proofs.Common.{◌≤◌, sym, ◌∙◌, subst}
use Rattle.an_harvest.specs.Feed.{Feed}
use Rattle.an_harvest.specs.Walk.{Walk, ComesTo, Ends, Stops, pages, walk}
use Rattle.an_harvest.proofs.WalkLemmas.{walk-stop, walk-more, comes-map, told-feed}
use Rattle.an_harvest.proofs.harvesting.harvest.Goals as goal

pub returns-in-Err-clause-refused : goal.returns-in-Err-clause-refused
returns-in-Err-clause-refused g c nf nm =
    let answers = g.F.Fetch.answers c.args.fetch.now in
    let r = c.in-Err.ensures.feed nf nm in
    subst (λ items. ComesTo answers (walk c.args.base.now items) (Stops c.in-Err.error))
    c.items.ensures.items
    (walk-stop answers c.args.base.now c.items.result r.0 c.in-Err.error r.1 r.2)

pub walk_pages-requires : goal.walk_pages-requires
walk_pages-requires g c =
    let feed : Feed = record { total = c.in-Ok.feed.total; last = c.in-Ok.feed.last } in
    let t = c.in-Ok.ensures.feed in
    let h = told-feed c.args.base.now c.items.result t.0 feed t.2 in
    record {
      within =
          subst (λ n. n ≤ c.in-Ok.feed.total)
          (c.items.ensures.items ∙ sym c.items-2.ensures.items) h;
    }

pub returns-in-Err-walk_pages-clause-refused : goal.returns-in-Err-walk_pages-clause-refused
returns-in-Err-walk_pages-clause-refused g c nf nm =
    let answers = g.F.Fetch.answers c.args.fetch.now in
    let feed : Feed = record { total = c.in-Ok.feed.total; last = c.in-Ok.feed.last } in
    let t = c.in-Ok.ensures.feed in
    let outcome : Walk = Stops c.in-Err-walk_pages.error in
    let same = c.items-2.ensures.items ∙ sym c.items.ensures.items in
    let comes =
    comes-map (g.F.Fetch.answers c.get_feed.new.fetch) answers
    (λ target got h. (c.in-Ok.ensures.same target got).0 h)
    (pages c.args.base.now c.items-2.result feed.total feed.total feed.last) outcome
    (c.in-Err-walk_pages.ensures.refused nf nm) in
    subst (λ items. ComesTo answers (walk c.args.base.now items) outcome) c.items.ensures.items
    (walk-more answers c.args.base.now c.items.result t.0 feed outcome t.1 t.2
    (subst
    (λ items. ComesTo answers (pages c.args.base.now items feed.total feed.total feed.last) outcome)
    same comes))

pub returns-clause-live : goal.returns-clause-live
returns-clause-live g c =
    let answers = g.F.Fetch.answers c.args.fetch.now in
    let feed : Feed = record { total = c.in-Ok.feed.total; last = c.in-Ok.feed.last } in
    let t = c.in-Ok.ensures.feed in
    let n = c.in-Ok-walk_pages.ensures.noted in
    let outcome : Walk = Ends c.in-Ok.feed.total n.0 in
    let same = c.items-2.ensures.items ∙ sym c.items.ensures.items in
    let comes =
    comes-map (g.F.Fetch.answers c.get_feed.new.fetch) answers
    (λ target got h. (c.in-Ok.ensures.same target got).0 h)
    (pages c.args.base.now c.items-2.result feed.total feed.total feed.last) outcome n.1 in
    let whole =
    subst (λ items. ComesTo answers (walk c.args.base.now items) outcome) c.items.ensures.items
    (walk-more answers c.args.base.now c.items.result t.0 feed outcome t.1 t.2
    (subst
    (λ items. ComesTo answers (pages c.args.base.now items feed.total feed.total feed.last) outcome)
    same comes)) in (
      n.0,
      subst
          (λ total. ComesTo answers (walk c.args.base.now c.args.known.now.items) (Ends total n.0))
          (sym c.in_ok-merged.ensures.total) whole,
      c.in_ok-merged.ensures.live n.0 n.2,
    )
