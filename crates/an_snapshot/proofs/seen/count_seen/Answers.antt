use Rattle.std.proofs.Common.{◌≡◌, ℕ, ◌+◌, ◌-◌, Bool, List, is_some, drop, take, length, ap, ◌∙◌, arith}
use Rattle.std.specs.List.{count_by, sum_by}
use Rattle.an_policy.specs.Audience.{identity}
use Rattle.an_state.specs.declared.activity.Seen.{Seen}
use Rattle.an_snapshot.specs.Changes.{kinds_in, numbers_in, seen_by_kinds}
use Rattle.an_snapshot.specs.PairLists.{kind_at, lists_seen}
use Rattle.an_snapshot.specs.declared.change.ClassChange.{ClassChange}
use Rattle.an_snapshot.specs.declared.change.FiledChange.{FiledChange}
use Rattle.an_snapshot.proofs.ChangeLemmas.{seen-told}
use Rattle.an_snapshot.proofs.PageLemmas.{all-from, listed-few, rest-few, whole-count}
use Rattle.an_snapshot.proofs.seen.count_seen.Goals as goal

pub count_listed-requires : goal.count_listed-requires
count_listed-requires c =
    let kinds = kinds_in (identity c.args.who.now) c.args.classes.now c.pairs.result.now in
    let few =
    listed-few kinds c.args.changes.now.rows c.lists-lists.result.now c.lists-lists.ensures.within
    c.lists-lists.ensures.filed in
    record { few = omega (arith, few, c.lists-lists.ensures.few) }

-- both counts together are how many are seen by the kinds of the pairs
both : (c : goal.After-count_rest)
    → c.count_listed.result + c.count_rest.result
    ≡ length (seen_by_kinds
    (kinds_in (identity c.args.who.now) c.args.classes.now c.args.changes.now.pairs)
    c.args.changes.now.rows)
both c =
    let kinds = kinds_in (identity c.args.who.now) c.args.classes.now in
    let rows = c.args.changes.now.rows in
    let filed = c.lists-lists.result.now in
    let rest =
    all-from c.as_slice.result.now rows c.count.result filed.count c.as_slice.ensures.rows
    c.count.ensures.count in
    let pairs : List ClassChange = c.args.changes.now.pairs in
    let sees : List ClassChange → ℕ → Bool = λ ps number. is_some (kind_at (kinds ps) number) in
    let listed : c.count_listed.result
    ≡ sum_by (λ (l : List ℕ). length l) (lists_seen (kinds pairs) filed.lists) =
    c.count_listed.ensures
    ∙ ap (λ (ps : List ClassChange).
    sum_by (λ (l : List ℕ). length l) (lists_seen (kinds ps) filed.lists)) c.pairs.ensures.pairs in
    let others : c.count_rest.result ≡ count_by (sees pairs) (numbers_in (drop filed.count rows)) =
    c.count_rest.ensures
    ∙ ap (λ (ps : List ClassChange). count_by (sees ps)
    (numbers_in (take (length c.as_slice.result.now - c.count.result)
    (drop c.count.result c.as_slice.result.now)))) c.pairs-2.ensures.pairs
    ∙ ap (λ (l : List FiledChange). count_by (sees pairs) (numbers_in l)) rest in
    let whole =
    whole-count (kinds pairs) rows filed c.lists-lists.ensures.within c.lists-lists.ensures.filed in
    omega (arith, listed, others, whole)

pub overflow_add-result : goal.overflow_add-result
overflow_add-result c =
    let kinds = kinds_in (identity c.args.who.now) c.args.classes.now c.args.changes.now.pairs in
    let sum = both c in
    let few = rest-few kinds c.args.changes.now.rows in
    omega (arith, sum, few, c.lists-lists.ensures.few)

pub returns : goal.returns
returns c =
    let seen =
    seen-told (identity c.args.who.now) c.args.classes.now c.args.changes.now.pairs
    c.args.changes.now.rows c.requires.filed in
    record { count = both c ∙ ap (λ (l : List Seen). length l) seen }
