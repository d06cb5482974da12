use Rattle.std.proofs.Common.{◌≡◌, List, Option, IfOk, drop, take, ap, subst, ◌∙◌}
use Rattle.an_policy.specs.Audience.{identity}
use Rattle.an_policy.specs.declared.kind.Kind.{Kind}
use Rattle.an_state.specs.declared.activity.Seen.{Seen}
use Rattle.an_snapshot.specs.Changes.{kinds_in, seen_by_kinds, seen_in}
use Rattle.an_snapshot.specs.declared.change.ClassChange.{ClassChange}
use Rattle.an_snapshot.proofs.ChangeLemmas.{seen-told}
use Rattle.an_snapshot.proofs.seen.slice_seen.Goals as goal

pub returns : goal.returns
returns c =
    let who = identity c.args.who.now in
    let classes = c.args.classes.now in
    let pairs : List ClassChange = c.args.changes.now.pairs in
    let rows = c.args.changes.now.rows in
    let kinds : c.as_slice-3.result.now ≡ kinds_in who classes pairs =
    c.as_slice-3.ensures.value ∙ c.in_ok-kinds.ensures
    ∙ ap (λ (ps : List ClassChange). kinds_in who classes ps) c.pairs.ensures.pairs in
    let whole : seen_by_kinds c.as_slice-3.result.now c.as_slice-2.result.now ≡ seen_in who rows =
    ap (seen_by_kinds c.as_slice-3.result.now) c.as_slice-2.ensures.rows
    ∙ ap (λ (ks : List (Option Kind)). seen_by_kinds ks rows) kinds
    ∙ seen-told who classes pairs rows c.requires.filed in
    record {
      seen =
          subst (λ (l : List Seen).
          IfOk c.page.result (λ seen. seen.items ≡ take c.args.count (drop c.args.start l))) whole
          c.page.ensures.page;
    }
