use Rattle.std.proofs.Common.{◌≡◌, ℕ, List, drop, map}
use Rattle.std.specs.Prelude.{fold, filter}
use Rattle.an_base.specs.TextSet.{has_text, with_text}
use Rattle.an_query.specs.Lent.{is_lent}
use Rattle.an_query.specs.Given.{is_other, others_of}
use Rattle.an_query.proofs.given.others_in.Given as goal

-- the other names so far, with those that are left, and the names that have come are those so far
abbrev pub invariant-loop-pair : goal.invariant-loop-pair
invariant-loop-pair l = record {
  others :
      fold with_text l.others.items
      (filter (is_other l.reads) (map (λ pair. pair.name) (drop l.pair-index l.pairs)))
      ≡ others_of l.reads l.pairs;
  seen : (name : List ℕ) → is_lent name l.seen ≡ has_text name l.others.items;
}
