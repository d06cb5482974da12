use Rattle.std.proofs.Common.{sym, ap, ◌∙◌, cond, Some, bytes_eq, ◌≡◌, None}
use Rattle.std.specs.BTreeMap.{get_by_text}
use Rattle.std.specs.Prelude.{string_bytes}
use Rattle.std.proofs.lemmas.Map.Text.{btree_map_updates_text}
use Rattle.an_harvest.proofs.LatestLemmas.{set_where_new, none_from}
use Rattle.an_harvest.proofs.latest.set_new.Goals as goal

pub returns : goal.returns
returns c other =
    let none : get_by_text c.args.latest.now c.args.id.now ≡ None =
    none_from _ (sym c.contains_key.ensures ∙ c.if-contains_key.false) in
    let same : string_bytes c.in_ok-id.id ≡ c.args.id.now = c.in_ok-id.ensures.ok in
    btree_map_updates_text (string_bytes c.in_ok-id.id) c.args.latest.now c.insert.new.self
    (Some c.args.left) c.in_ok-insert.ensures.updates other
    ∙ ap
    (λ bytes. cond (bytes_eq bytes other) (Some c.args.left) (get_by_text c.args.latest.now other))
    same
    ∙ set_where_new (get_by_text c.args.latest.now) c.args.id.now other c.args.left none
