use Rattle.std.proofs.Common.{◌≡◌, ℕ, List, [], ◌++◌, Option, ap, ◌∙◌, sym, subst}
use Rattle.std.specs.List.{flat_map}
use Rattle.an_postings.specs.Postings.{count_in, places_in}
use Rattle.an_slots.specs.Rows.{IsThere, Row, added, parts_in, posted, taken, unposted}
use Rattle.an_slots.specs.Slot.{Slot}
use Rattle.an_listed.specs.Keys.{keys_by, parts_by}
use Rattle.an_listed.specs.Left.{left_parts}
use Rattle.an_listed.specs.Room.{IsEnough}
use Rattle.an_listed.proofs.LeftLemmas.{left-none}
use Rattle.an_listed.proofs.RoomLemmas.{enough-more}
use Rattle.an_listed.proofs.SpaceLemmas.{enough-but, kept-all, own-parts, row-parts}
use Rattle.an_listed.proofs.StandLemmas.{of-set, of-there, small-taken}
use Rattle.an_listed.proofs.put.replace_in.Goals as goal

pub take-requires-clause-there : goal.take-requires-clause-there
take-requires-clause-there c =
    let there =
    of-there c.args.kind c.args.lists.now c.args.rows.now c.requires.of c.args.place
    c.index-rows-place.result c.requires.place c.index-rows-place.is in
    subst (λ (k : Option Row). IsThere (count_in c.args.lists.now) (parts_in k))
    (sym c.keys_by-old.ensures.keys) there

pub put-requires-clause-room : goal.put-requires-clause-room
put-requires-clause-room c =
    let kind = c.args.kind in
    let old = parts_in c.keys_by-old.result in
    let new = parts_in c.keys_by-new.result in
    let own = own-parts kind c.args.row.now [] c.args.lists.now c.requires.space in
    enough-but new (left_parts new old) c.args.lists.now c.take.new.lists c.args.more
    c.take.ensures.kept (λ slot posted. left-none slot old new posted)
    (subst (λ (k : Option Row). IsEnough (parts_in k) c.args.lists.now)
    (sym c.keys_by-new.ensures.keys) own)

pub put-requires-clause-small : goal.put-requires-clause-small
put-requires-clause-small c =
    let counts =
    c.take.ensures.counts
    ∙ ap (λ (k : Option Row). taken (count_in c.args.lists.now) (parts_in k))
    c.keys_by-old.ensures.keys in
    let small =
    small-taken c.args.kind c.args.lists.now c.args.rows.now c.requires.of c.requires.few
    c.index-rows-place.result c.args.row.now (count_in c.take.new.lists) counts in
    rw c.keys_by-new.ensures.keys small

pub returns-clause-of : goal.returns-clause-of
returns-clause-of c =
    let kind = c.args.kind in
    let place = c.args.place in
    let now = c.args.lists.now in
    let old = c.index-rows-place.result in
    let row = c.args.row.now in
    let same : ◌≡◌ {A = Option Row × Option Row} (c.keys_by-old.result, c.keys_by-new.result)
    (keys_by kind old, keys_by kind row) =
    λ i. (c.keys_by-old.ensures.keys i, c.keys_by-new.ensures.keys i) in
    let places = c.put.ensures.places
    ∙ ap (λ (ls : Slot → List ℕ). posted place ls (parts_in c.keys_by-new.result))
    c.take.ensures.places
    ∙ ap (λ (k : Option Row × Option Row). posted place
    (unposted place (places_in now) (left_parts (parts_in k.1) (parts_in k.0))) (parts_in k.1))
    same in
    let counts = c.put.ensures.counts
    ∙ ap (λ (f : Slot → ℕ). added f (parts_in c.keys_by-new.result)) c.take.ensures.counts
    ∙ ap
    (λ (k : Option Row × Option Row). added (taken (count_in now) (parts_in k.0)) (parts_in k.1))
    same in
    of-set kind now c.args.rows.now c.requires.of c.put.new.lists place old row c.requires.place
    c.index-rows-place.is places counts

pub returns-clause-rest : goal.returns-clause-rest
returns-clause-rest c = λ more rest space.
    let kind = c.args.kind in
    let coming = flat_map (parts_by kind) rest in
    let before = row-parts kind c.args.row.now rest c.args.lists.now space in
    let kept = kept-all _ c.args.lists.now c.take.new.lists c.args.more more c.take.ensures.kept in
    let between =
    enough-more (parts_by kind c.args.row.now ++ coming) c.args.lists.now c.take.new.lists
    kept before in
    c.put.ensures.rest coming
    (subst (λ (k : Option Row). IsEnough (parts_in k ++ coming) c.take.new.lists)
    (sym c.keys_by-new.ensures.keys) between)
