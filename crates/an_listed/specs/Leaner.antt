-- For private clauses: memory that is given back.
use Rattle.std.specs.Prelude.{◌≡◌}
use Rattle.an_postings.specs.Postings.{Lists, count_in, places_in}
use Rattle.an_listed.specs.declared.register.Register.{Register}

-- The places and the counts are as they were.
pub record IsLeaner (old new : Lists) : Type 0 where
  pub places : places_in new ≡ places_in old
  pub counts : count_in new ≡ count_in old

-- the same of each of the lists
pub record AreLeaner (old new : Register) : Type 0 where
  pub words : IsLeaner old.words new.words
  pub anywhere : IsLeaner old.anywhere new.anywhere
  pub whole : IsLeaner old.whole new.whole
