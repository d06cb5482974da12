-- For private clauses: a set of texts that are lent.
use Rattle.std.specs.Prelude.{ℕ, List, Bool}
use Rattle.std.specs.BTreeSet.{BTreeSet, contains_by}
use Rattle.std.specs.Cmp.Lexicographic.{slice_cmp}
use Rattle.std.specs.Ordering.{nat_cmp}
use denote.Ref.{Bor}

-- the text is one of the set
abbrev pub is_lent : List ℕ → BTreeSet (Bor (List ℕ)) → Bool
is_lent text texts = contains_by (λ other. slice_cmp nat_cmp text other.now) texts
