use Rattle.std.proofs.Common.{◌≡◌, ℕ, ◌+◌, ◌≤◌, Bool, drop, is_some}
use Rattle.std.specs.List.{count_by}
use Rattle.an_policy.specs.Audience.{identity}
use Rattle.an_snapshot.specs.Changes.{kinds_in, numbers_in}
use Rattle.an_snapshot.specs.PairLists.{kind_at}
use Rattle.an_snapshot.proofs.seen.count_rest.Given as goal

-- how many were seen so far, and how many are seen of the rest
abbrev pub invariant-loop-change : goal.invariant-loop-change
invariant-loop-change l =
    let sees : ℕ → Bool =
    λ number. is_some (kind_at (kinds_in (identity l.who) l.classes l.pairs) number) in
    record {
      count : l.count + count_by sees (numbers_in (drop l.change-index l.changes))
          ≡ count_by sees (numbers_in l.changes);
      few : l.count ≤ l.change-index;
    }
