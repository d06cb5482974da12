-- A store that is opened.
use Rattle.std.proofs.Common.{◌≡◌, ℕ, List, [], ◌∷◌, Some, None, IsSome, refl, sym, ap, subst, ◌∙◌, inl, inr}
use Rattle.logbook.specs.Pages.{Book, Named}
use Rattle.an_keep.specs.Keeper.{StaysOrBegins, Told, Turns, WhileTold}
use Rattle.an_state.specs.State.{State}
use Rattle.an_shelf.specs.Opening.{RenewsOrBegins, StaysOrRenews, WasDamagedBy, WasOpened, renewed}
use Rattle.an_shelf.specs.Store as shelf
use Rattle.an_shelf.proofs.OpeningLemmas.{renews-tells}
use Rattle.an_shelf.specs.declared.error.OpenError.TheVariants as error
use Rattle.an_laws.specs.Events.{Event, Opened, IsLegal, Keeps, state_at, told_at}
use Rattle.an_published.specs.History.{head_of}
use Rattle.an_published.specs.Known.{Known, newcomer}
use Rattle.an_store.specs.Opening.{Begun}
use Rattle.an_published.specs.Rule.{IsOneList, Ready, Shows, accepted, notice}
use Rattle.an_store.specs.UnderLock.{Sided, stock_of}
use Rattle.an_published.specs.declared.published.Published.{Published}
use Rattle.an_published.specs.declared.published.Addition.{Addition}
use Rattle.an_store.proofs.Sides.{keeps-itself}
use Rattle.an_published.proofs.Steps.{begins}

-- an opening alone is legal, where the state is valid, sound and kept
pub legal-opened : (list : List Event) (s : State) (told : Told) → list ≡ Opened s told ∷ []
    → shelf.Stands told s → IsLegal list
legal-opened list s told is stands =
    subst IsLegal (sym is) (stands.valid, stands.sound, stands.cells_are, tt)

state-opened : (list : List Event) (s : State) (told : Told) → list ≡ Opened s told ∷ []
    → state_at list ≡ s
state-opened list s told is = ap state_at is

module _ (x : Published) (s : State) (told : Told) (list : x.mark.list ≡ Opened s told ∷ [])
    (state : x.snapshot.state ≡ s) (stands : shelf.Stands told s) where
  leads : x.snapshot.state ≡ state_at x.mark.list
  leads = state ∙ sym (state-opened x.mark.list s told list)

  -- the rule holds of it, and it may be published
  pub one-list : IsOneList x (newcomer ∷ [])
  one-list = begins x (legal-opened x.mark.list s told list stands) leads

  pub ready-opened : (pending : List Addition) → pending ≡ [] → Ready x pending
  ready-opened pending none = subst (Ready x) (sym none)
      (record { come = tt; legal = legal-opened x.mark.list s told list stands; state = leads })

  now-shown : (y : Published) (pending : List Addition) → pending ≡ [] → Shows x pending y
      → y.mark.list ≡ Opened s told ∷ []
  now-shown y pending none shows = shows.list ∙ (ap (accepted x) none ∙ list)

  -- and then it is shown
  pub still-shown : (y : Published) (pending : List Addition) → pending ≡ [] → Shows x pending y
      → y.snapshot.state ≡ s
  still-shown y pending none shows =
      shows.state ∙ state-opened y.mark.list s told (now-shown y pending none shows)

  pub begun-shown : (y : Published) (v : Known) (head : Named) (pending left : List Addition)
      → pending ≡ [] → head ≡ head_of x.mark.book → Shows x pending y → left ≡ [] → v ≡ notice y
      → Begun v head left y told
  begun-shown y v head pending left none is_head shows empty knows = record {
    none = empty;
    knows = knows;
    is_head = is_head ∙ ap head_of (sym shows.book);
    list =
        now-shown y pending none shows
        ∙ ap (λ (u : State). Opened u told ∷ []) (sym (still-shown y pending none shows));
  }

-- what holds of the state and of what was told as it was opened
pub opened-as : (P : Told → State → Type 0) (opened told : Told) (s t : State) → P opened s
    → told ≡ opened → t ≡ s → P told t
opened-as P opened told s t holds tells is =
    subst (λ (p : Told × State). P p.0 p.1) (λ i. (sym tells i, sym is i)) holds

-- memory ran out once it was opened
module _ (before opened kept : Told) (s : State) (same : kept ≡ opened) where
  pub left-renewed : WasOpened before opened s → RenewsOrBegins s before opened
      → StaysOrRenews before kept
  left-renewed was renews =
      inr (
        s,
        subst (λ told. WasOpened before told s) (sym same) was,
        subst (λ told. RenewsOrBegins s before told) (sym same) renews,
      )

  pub left-tells : Turns (renewed s) before opened → IsSome kept → IsSome before
  left-tells renews some = renews-tells s before opened renews (subst IsSome same some)

pub no-damage : (before after : Told) → WasDamagedBy before after error.Memory
no-damage before None = tt
no-damage None (Some after) = tt
no-damage (Some before) (Some after) = tt

-- what was opened, under its name
pub sided-opened : (v : Known) (head : Named) (pending : List Addition) (x : Published)
    (told : Told) (faults : ℕ) (name : Book) → Begun v head pending x told
    → shelf.Stands told x.snapshot.state → x.mark.book ≡ name
    → Sided (stock_of x pending told faults) name head x pending
sided-opened v head pending x told faults name k stands here =
    let at : x.snapshot.state ≡ state_at x.mark.list =
    sym (state-opened x.mark.list x.snapshot.state told k.list) in
    let held : shelf.Stands told (state_at x.mark.list) = subst (shelf.Stands told) at stands in
    subst (λ (l : List Addition). Sided (stock_of x l told faults) name head x l)
    (sym k.none) (record {
      stocked = record {
        legal = legal-opened x.mark.list x.snapshot.state told k.list stands;
        state = refl;
        stands = held;
        keeps =
            subst (λ (b : Told). Keeps b (state_at x.mark.list) told) (sym (ap told_at k.list))
            (keeps-itself (state_at x.mark.list) told held.cells_are);
        lacks = inl refl;
      };
      book = here;
      is_head = k.is_head ∙ ap head_of here;
      come = tt;
      state = at;
    })
