-- What stands beside rows: for each slot the places of the rows there, and how often each term
-- occurs.
use Rattle.std.specs.Prelude.{ℕ, ◌≤◌, ◌^◌, List, [], length, Option, Some, None}
use Rattle.an_postings.specs.Postings.{Lists, count_in, places_in}
use Rattle.an_slots.specs.Rows.{AreCounted, AreListed}
use Rattle.an_listed.specs.Keys.{parts_by}
use Rattle.an_listed.specs.declared.filed.Filed.{Filed}
use Rattle.an_listed.specs.declared.kind.Kind.{Kind}
use Rattle.an_listed.specs.declared.kind.Kind.TheVariants.{Words, Anywhere, Whole}
use Rattle.an_listed.specs.declared.register.Register.{Register}

-- rows, the register beside them, and for how many rows more there is memory
pub record Listings : Type 0 where
  pub rows : List Filed
  pub register : Register
  pub room : ℕ

-- ---- for private clauses

-- the lists of this kind are those of these rows, and so are the counts
pub record AreOf (kind : Kind) (lists : Lists) (filed : List Filed) : Type 0 where
  pub places : AreListed (parts_by kind) (places_in lists) filed
  pub counts : AreCounted (parts_by kind) (count_in lists) filed

-- the register is that of these rows, which are few enough for places of 32 bits
pub record Stands (r : Register) (filed : List Filed) : Type 0 where
  pub words : AreOf Words r.words filed
  pub anywhere : AreOf Anywhere r.anywhere filed
  pub whole : AreOf Whole r.whole filed
  pub few : length filed ≤ 2 ^ 32

-- where the words are sought of rows on a manifest, or where none is named on any
abbrev pub kind_within : Option (List ℕ) → Kind
kind_within (Some manifest) = Words
kind_within None = Anywhere

abbrev pub text_within : Option (List ℕ) → List ℕ
text_within (Some manifest) = manifest
text_within None = []

abbrev pub lists_within : Register → Option (List ℕ) → Lists
lists_within r (Some manifest) = r.words
lists_within r None = r.anywhere
