-- For private clauses: what holds of the parts of a store whenever its lock is free.
use Rattle.std.specs.Prelude.{◌≡◌, ℕ, List}
use Rattle.logbook.specs.Pages.{Book, Named}
use Rattle.an_keep.specs.Keeper.{Told}
use Rattle.an_laws.specs.Events.{state_at}
use Rattle.an_published.specs.History.{head_of}
use Rattle.an_published.specs.Rule.{ComeBehind, accepted}
use Rattle.an_store.specs.Stock.{Stock, Stocked}
use Rattle.an_published.specs.declared.published.Published.{Published}
use Rattle.an_published.specs.declared.published.Addition.{Addition}

-- a stock of these parts, whose state is that of all that was accepted
abbrev pub stock_of : Published → List Addition → Told → ℕ → Stock
stock_of shown more told faults = record {
  published = shown.mark.list;
  accepted = accepted shown more;
  state = state_at (accepted shown more);
  told = told;
  faults = faults;
}

-- at most one event waits behind what is shown, which is the state of its list
pub record Sided (s : Stock) (name : Book) (head : Named) (shown : Published)
    (more : List Addition) : Type 0 where
  pub stocked : Stocked s
  pub book : shown.mark.book ≡ name
  pub is_head : head ≡ head_of name
  pub come : ComeBehind shown more
  pub state : shown.snapshot.state ≡ state_at shown.mark.list
