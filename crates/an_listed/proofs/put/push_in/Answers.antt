use Rattle.std.proofs.Common.{◌++◌, length, Option, ap, ◌∙◌, sym, subst, arith}
use Rattle.std.specs.List.{flat_map}
use Rattle.an_postings.specs.Postings.{count_in, places_in}
use Rattle.an_slots.specs.Rows.{Row, added, parts_in, posted}
use Rattle.an_listed.specs.Keys.{parts_by}
use Rattle.an_listed.specs.Room.{IsEnough}
use Rattle.an_listed.proofs.SpaceLemmas.{row-parts}
use Rattle.an_listed.proofs.StandLemmas.{of-push, of-small}
use Rattle.an_listed.proofs.put.push_in.Goals as goal

pub put-requires-clause-small : goal.put-requires-clause-small
put-requires-clause-small c =
    let small =
    of-small c.args.kind c.args.lists.now c.args.rows.now c.requires.of
    (omega (arith, c.requires.few)) c.args.row.now in
    rw c.keys_by-keys.ensures.keys small

pub returns-clause-of : goal.returns-clause-of
returns-clause-of c =
    let now = c.args.lists.now in
    let places = c.put.ensures.places
    ∙ ap (λ (k : Option Row). posted (length c.args.rows.now) (places_in now) (parts_in k))
    c.keys_by-keys.ensures.keys in
    let counts =
    c.put.ensures.counts
    ∙ ap (λ (k : Option Row). added (count_in now) (parts_in k)) c.keys_by-keys.ensures.keys in
    of-push c.args.kind now c.args.rows.now c.requires.of c.put.new.lists c.args.row.now
    places counts

pub returns-clause-rest : goal.returns-clause-rest
returns-clause-rest c = λ rest space.
    let coming = flat_map (parts_by c.args.kind) rest in
    let before = row-parts c.args.kind c.args.row.now rest c.args.lists.now space in
    c.put.ensures.rest coming
    (subst (λ (k : Option Row). IsEnough (parts_in k ++ coming) c.args.lists.now)
    (sym c.keys_by-keys.ensures.keys) before)
