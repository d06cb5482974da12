use Rattle.std.proofs.Common.{◌∙◌, refl, arith}
use Rattle.an_slots.proofs.ClassedLemmas.{gap_within}
use Rattle.an_postings.specs.Lists.{class_of}
use Rattle.an_postings.proofs.ListLemmas.{insert_ordered, insert_room_here, insert_roomier}
use Rattle.an_postings.proofs.class_postings.begin_at.Goals as goal
use Rattle.an_postings.proofs.class_postings.begin_at.Goals.{in-Ok, in-Err}

pub insert-requires : goal.insert-requires
insert-requires c =
    let w = gap_within class_of c.args.class c.args.lists.now.items c.args.at c.requires.gap in
    omega (arith, w)

pub returns-clause-ordered : goal.returns-clause-ordered
returns-clause-ordered c =
    elim c.match-insert.branch [
      | in-Ok w ↦
          (let items = rw w.in-Ok.is at c.insert.ensures.items in
          rw items (insert_ordered c.args.class c.args.lists.now.items c.args.at c.requires.gap
          (record { class = c.args.class; places = c.reserve.new.self; count = 0 }) refl
          (c.reserve.ensures.items ∙ c.new-places.ensures.items) refl c.requires.ordered))
      | in-Err w ↦
          (let items = rw w.in-Err.is at c.insert.ensures.items in rw items c.requires.ordered)
    ]

pub returns-clause-ok : goal.returns-clause-ok
returns-clause-ok c =
    elim c.match-insert.branch [
      | in-Ok w ↦
          (let items = rw w.in-Ok.is at c.insert.ensures.items in
          rw (
            w.result-is,
            items,
            insert_room_here c.args.class c.args.lists.now.items c.args.at c.requires.gap
                (record { class = c.args.class; places = c.reserve.new.self; count = 0 }) refl
                (c.reserve.ensures.items ∙ c.new-places.ensures.items) refl,
          ) c.in_ok-reserve.ensures.ok)
      | in-Err w ↦ (let items = rw w.in-Err.is at c.insert.ensures.items in rw w.result-is tt)
    ]

pub returns-clause-roomier : goal.returns-clause-roomier
returns-clause-roomier c =
    elim c.match-insert.branch [
      | in-Ok w ↦
          (let items = rw w.in-Ok.is at c.insert.ensures.items in
          rw items (insert_roomier c.args.class c.args.lists.now.items c.args.at c.requires.gap
          (record { class = c.args.class; places = c.reserve.new.self; count = 0 }) refl
          (c.reserve.ensures.items ∙ c.new-places.ensures.items) refl c.requires.ordered))
      | in-Err w ↦
          (let items = rw w.in-Err.is at c.insert.ensures.items in
          rw items (record { places = λ k. refl; count = λ k. refl; room = λ k. omega arith }))
    ]
