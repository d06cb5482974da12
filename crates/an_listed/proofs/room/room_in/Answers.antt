use Rattle.std.specs.List.{flat_map}
use Rattle.std.proofs.lemmas.Result.{on_ok_weaker}
use Rattle.an_listed.specs.Keys.{parts_by}
use Rattle.an_listed.proofs.NeedLemmas.{enough-counted, enough-one}
use Rattle.an_listed.proofs.OnceLemmas.{keys-once}
use Rattle.an_listed.proofs.room.room_in.Goals as goal

pub returns-then-rows-lt2-clause-ok : goal.returns-then-rows-lt2-clause-ok
returns-then-rows-lt2-clause-ok c =
    let kind = c.args.kind in
    on_ok_weaker c.room_for_all.result
    (enough-one (parts_by kind) (keys-once kind) c.args.rows.now c.room_for_all.new.lists
    c.if-rows-lt2.true) c.room_for_all.ensures.ok

pub returns-clause-ok : goal.returns-clause-ok
returns-clause-ok c =
    let coming = flat_map (parts_by c.args.kind) c.args.rows.now in
    on_ok_weaker c.room_for_all-2.result
    (enough-counted coming c.in_ok-needed.needed c.room_for_all-2.new.lists
    c.in_ok-needed.ensures.small c.in_ok-needed.ensures.needed) c.room_for_all-2.ensures.ok
