use Rattle.std.proofs.Common.{◌≡◌, ℕ, ◌-◌, List, drop, length, take, refl, sym, ap, ◌∙◌, arith}
use Rattle.an_snapshot.specs.Changes.{seen_by_kinds}
use Rattle.an_snapshot.specs.PairLists.{all_below, lists_seen}
use Rattle.an_snapshot.specs.declared.change.FiledChange.{FiledChange}
use Rattle.an_snapshot.proofs.PageLemmas.{all-from, page-begins}
use Rattle.an_snapshot.proofs.StreamLemmas.{few-below, lists-rise}
use Rattle.an_snapshot.proofs.stream.place_behind.Goals as goal

pub place_with-place-requires-clause-rise : goal.place_with-place-requires-clause-rise
place_with-place-requires-clause-rise c = lists-rise c.args.stream.now c.requires.stream

pub place_with-place-requires-clause-few : goal.place_with-place-requires-clause-few
place_with-place-requires-clause-few c = few-below c.args.stream.now c.requires.stream

pub all_below-requires-clause-rise : goal.all_below-requires-clause-rise
all_below-requires-clause-rise c = lists-rise c.args.stream.now c.requires.stream

pub returns-clause-behind : goal.returns-clause-behind
returns-clause-behind c =
    let kinds = c.args.stream.now.kinds.now in
    let rows = c.args.stream.now.rows.now in
    let filed = c.args.stream.now.filed.now in
    let is = c.requires.stream in
    let place = c.place_with-place.result in
    let lists = ap (all_below place) is.lists in
    let rest : take (length rows - place) (drop place rows) ≡ drop place rows =
    all-from rows rows place place refl refl in
    let below : c.all_below.result ≡ all_below place (lists_seen kinds filed.lists) =
    c.all_below.ensures.count ∙ lists in
    let behind : seen_by_kinds kinds (drop c.walk_past.result (drop place rows))
    ≡ drop (c.args.count - all_below place (lists_seen kinds filed.lists))
    (seen_by_kinds kinds (drop place rows)) =
    ap (λ (l : List FiledChange). seen_by_kinds kinds (drop c.walk_past.result l)) (sym rest)
    ∙ c.walk_past.ensures.behind
    ∙ ap
    (λ (l : List FiledChange). drop (c.args.count - c.all_below.result) (seen_by_kinds kinds l))
    rest
    ∙ ap (λ (n : ℕ). drop (c.args.count - n) (seen_by_kinds kinds (drop place rows))) below in
    page-begins kinds rows filed is.within is.filed place c.walk_past.result c.args.count
    (omega (arith, c.place_with-place.ensures.within, c.count.ensures.count))
    (omega (arith, lists, c.place_with-place.ensures.few)) behind
