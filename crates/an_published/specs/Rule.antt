-- The rule of a store over what is published and what each seat knows, and what its steps tell.
use Rattle.std.specs.Prelude.{◌≡◌, ℕ, List, [], ◌∷◌, ◌++◌, Some, IfSome, IsTrue, ⊤}
use mathlib.Core.Option.{some}
use mathlib.Core.List.{IsPrefix}
use lib.ListN.{get_elem?}
use Rattle.an_keep.specs.Keeper.{Told}
use Rattle.an_machine.specs.Legal.{Write}
use Rattle.an_snapshot.specs.Absorbed.{state_with}
use Rattle.an_snapshot.specs.Fits.{fits}
use Rattle.an_laws.specs.Events.{Event, Wrote, IsLegal, state_at}
use Rattle.an_published.specs.History.{Led}
use Rattle.an_published.specs.Lists.{Stands, last_of}
use Rattle.an_published.specs.Known.{Known}
use Rattle.an_published.specs.declared.published.Published.{Published}
use Rattle.an_published.specs.declared.published.Addition.{Addition}

-- ---- the rule

-- a seat that has looked knows the history that is published, its list is a beginning of that one,
-- and its own events stand in its list
pub record Fits (x : Published) (v : Known) : Type 0 where
  pub book : IfSome v.book (λ its. its ≡ x.mark.book)
  pub seen : IsPrefix v.seen x.mark.list
  pub own : Stands v.own v.seen

-- what is published is the state of the list beside it, which is legal, and each seat fits it
pub record IsOneList (x : Published) (views : List Known) : Type 0 where
  pub legal : IsLegal x.mark.list
  pub state : x.snapshot.state ≡ state_at x.mark.list
  pub each : (seat : ℕ) (v : Known) → get_elem? views seat ≡ some v → Fits x v

-- ---- a seat looks

-- w is v behind a look at what is published, y
pub record Looked (v : Known) (y : Published) (w : Known) : Type 0 where
  pub was : IfSome v.book (λ its. its ≡ y.mark.book)
  pub book : w.book ≡ Some y.mark.book
  pub seen : w.seen ≡ y.mark.list
  pub later : IsPrefix v.seen y.mark.list
  pub legal : IsLegal y.mark.list
  pub state : y.snapshot.state ≡ state_at y.mark.list
  pub stands : Stands w.own y.mark.list

abbrev pub Looks : Known → Published → Published → Known → Type 0
Looks v x y w = Looked v y w × (w.own ≡ v.own)

-- the last event that was seen before is the seat's own
abbrev pub Earns : Known → Published → Published → Known → Type 0
Earns v x y w = Looked v y w × (w.own ≡ v.own ++ last_of v.seen)

-- ---- the writer publishes

-- what is shared by two copies
abbrev pub led : Published → Led
led x = record { state = x.snapshot.state; mark = x.mark }

abbrev pub taking : Led → Addition → Led
taking x a = record { state = state_with x.state a.entry; mark = a.mark }

-- what the writer knows once it published y
abbrev pub notice : Published → Known
notice y = record { book = Some y.mark.book; seen = y.mark.list; own = [] }

abbrev pub Publishes : Known → Published → Published → Known → Type 0
Publishes v x y w = w ≡ notice y

-- the entry of a write can be shown behind x, and its mark is that of x with the write
pub record Comes (x : Published) (a : Addition) : Type 0 where
  pub write : Write
  pub told : Told
  pub entry : a.entry ≡ write.entry
  pub fits : IsTrue (fits x.snapshot.state a.entry)
  pub book : a.mark.book ≡ x.mark.book
  pub list : a.mark.list ≡ x.mark.list ++ Wrote write told ∷ []

-- at most one comes behind x
abbrev pub ComeBehind : Published → List Addition → Type 0
ComeBehind x [] = ⊤
ComeBehind x (a ∷ []) = Comes x a
ComeBehind x (a ∷ b ∷ more) = ⊥

-- all that was accepted: what is published, and what waits
abbrev pub accepted : Published → List Addition → List Event
accepted x [] = x.mark.list
accepted x (a ∷ more) = a.mark.list

-- these may be published behind x
pub record Ready (x : Published) (more : List Addition) : Type 0 where
  pub come : ComeBehind x more
  pub legal : IsLegal (accepted x more)
  pub state : x.snapshot.state ≡ state_at x.mark.list

-- y is published behind x with these
pub record Shows (x : Published) (more : List Addition) (y : Published) : Type 0 where
  pub book : y.mark.book ≡ x.mark.book
  pub list : y.mark.list ≡ accepted x more
  pub state : y.snapshot.state ≡ state_at y.mark.list

-- ---- the writer tells a new seat

abbrev pub told : Known → Known
told v = record v { own = [] }

abbrev pub taught : Known → Known → Known
taught v w = record w { own = v.own }
