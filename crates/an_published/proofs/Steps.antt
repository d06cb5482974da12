-- Each step keeps the rule.
use Rattle.std.proofs.Common.{◌≡◌, ◌≢◌, ℕ, zero, suc, List, [], ◌∷◌, ◌++◌, Some, set, fold, refl, sym, ap, ◌∙◌, subst, ⊎_elim, Result, Ok, Err, MatchResult}
use Rattle.std.specs.Prelude.{IfSome, OnOk}
use Rattle.std.proofs.lemmas.Bool.{cond-true}
use mathlib.Core.Option.{some, some-injective, some-ne-none}
use mathlib.Core.List.{IsPrefix}
use lib.ListN.{get_elem?}
use Rattle.crossbeam_utils.specs.Register.{Admits, TurnsAt, Turns, Forks, Merges}
use Rattle.atomic_table.proofs.Lists.{at_set, at_snoc, set_again}
use Rattle.logbook.specs.Pages.{Book}
use Rattle.an_machine.specs.Legal.{Write}
use Rattle.an_keep.specs.Keeper.{Told}
use Rattle.an_state.specs.Entries.{after}
use Rattle.an_state.specs.State.{State, empty}
use Rattle.an_laws.specs.Events.{Event, Opened, Wrote, IsLegal, state_behind, state_at}
use Rattle.an_published.specs.History.{Led}
use Rattle.an_published.specs.Known.{Known, newcomer}
use Rattle.an_published.specs.Lists.{Stands, last_of}
use Rattle.an_published.specs.Rule.{Fits, IsOneList, Looked, Looks, Earns, led, taking, notice, Publishes, Comes, ComeBehind, accepted, Ready, Shows, told, taught}
use Rattle.an_published.specs.declared.published.Published.{Published}
use Rattle.an_published.specs.declared.published.Addition.{Addition}
use Rattle.an_published.proofs.Lists.{prefix_nil, prefix_self, prefix_more, prefix_trans, stands_longer, stands_last, last_of-push}

-- ---- seats that fit

fits_newcomer : (x : Published) → Fits x newcomer
fits_newcomer x = record { book = tt; seen = prefix_nil x.mark.list; own = tt }

-- y may be published behind x
record Follows (x y : Published) : Type 0 where
  book : y.mark.book ≡ x.mark.book
  later : IsPrefix x.mark.list y.mark.list
  legal : IsLegal y.mark.list
  state : y.snapshot.state ≡ state_at y.mark.list

fits_next : (x y : Published) (v : Known) → Follows x y → Fits x v → Fits y v
fits_next x y v p f = record {
  book = subst (λ (b : Book). IfSome v.book (λ its. its ≡ b)) (sym p.book) f.book;
  seen = prefix_trans v.seen x.mark.list y.mark.list f.seen p.later;
  own = f.own;
}

each_set : (x y : Published) (views : List Known) (seat : ℕ) (w : Known)
    → ((u : Known) → Fits x u → Fits y u)
    → ((j : ℕ) (u : Known) → get_elem? views j ≡ some u → Fits x u) → Fits y w
    → (j : ℕ) (u : Known) → get_elem? (set views seat w) j ≡ some u → Fits y u
each_set x y views seat w on each mine j u e =
    ⊎_elim
    (λ (t : (j ≡ seat) × (w ≡ u)). subst (λ (z : Known). Fits y z) t.1 mine)
    (λ (t : (j ≢ seat) × (get_elem? views j ≡ some u)). on u (each j u t.1))
    (at_set views seat j w u e)

pub begins : (x : Published) → IsLegal x.mark.list → x.snapshot.state ≡ state_at x.mark.list
    → IsOneList x (newcomer ∷ [])
begins x legal state = record { legal = legal; state = state; each = λ j u e. one j u e }
  where
    one : (j : ℕ) (u : Known) → get_elem? (newcomer ∷ []) j ≡ some u → Fits x u
    one zero u e = subst (λ (z : Known). Fits x z) (some-injective newcomer u e) (fits_newcomer x)
    one (suc j) u e = absurd (some-ne-none u (sym e))

pub admits : Admits IsOneList newcomer
admits x views k = record {
  legal = k.legal;
  state = k.state;
  each =
      λ j u e. ⊎_elim (λ (t : get_elem? views j ≡ some u). k.each j u t)
      (λ (same : newcomer ≡ u). subst (λ (z : Known). Fits x z) same (fits_newcomer x))
      (at_snoc views newcomer u j e);
}

-- ---- a look

abbrev seated : Published → List Event → Known
seated x mine = record { book = Some x.mark.book; seen = x.mark.list; own = mine }

-- a look, by which the seat gets the own list `mine`
sees : (seat : ℕ) (v : Known) (mine : List Event) (x : Published) (views : List Known)
    (k : IsOneList x views) → get_elem? views seat ≡ some v → Stands mine x.mark.list
    → IsOneList x (set views seat (seated x mine)) × Looked v x (seated x mine)
sees seat v mine x views k at stands =
    let f = k.each seat v at in (
      record {
        legal = k.legal;
        state = k.state;
        each = each_set x x views seat (seated x mine) (λ u g. g) k.each
            (record { book = refl; seen = prefix_self x.mark.list; own = stands });
      },
      record {
        was = f.book;
        book = refl;
        seen = refl;
        later = f.seen;
        legal = k.legal;
        state = k.state;
        stands = stands;
      },
    )

pub looks : (seat : ℕ) (v : Known) → Turns IsOneList seat v (λ x. x) Looks
looks seat v x views k at =
    let f = k.each seat v at in
    let s = sees seat v v.own x views k at (stands_longer v.own v.seen x.mark.list f.own f.seen) in
    (seated x v.own, s.0, (s.1, refl))

-- the seat's list ends with an event that comes behind its own ones
pub earns : (seat : ℕ) (v : Known) (before : List Event) (e : Event) → v.seen ≡ before ++ e ∷ []
    → Stands v.own before → Turns IsOneList seat v (λ x. x) Earns
earns seat v before e is own x views k at =
    let f = k.each seat v at in
    let mine : List Event = v.own ++ last_of v.seen in
    let last : last_of v.seen ≡ e ∷ [] = ap last_of is ∙ last_of-push before e in
    let ends : Stands mine v.seen =
    subst (λ (p : List Event × List Event). Stands (v.own ++ p.0) p.1) (λ i. (sym last i, sym is i))
    (stands_last v.own before e own) in
    let s = sees seat v mine x views k at (stands_longer mine v.seen x.mark.list ends f.seen) in
    (seated x mine, s.0, (s.1, refl))

-- ---- publishing

fits_notice : (y : Published) → Fits y (notice y)
fits_notice y = record { book = refl; seen = prefix_self y.mark.list; own = tt }

shows : (seat : ℕ) (v : Known) (x y : Published) → Follows x y
    → TurnsAt IsOneList seat v x y Publishes
shows seat v x y p views k at = (
  notice y,
  record {
    legal = p.legal;
    state = p.state;
    each =
        each_set x y views seat (notice y) (λ u f. fits_next x y u p f) k.each (fits_notice y);
  },
  refl,
)

-- the state behind one event more
pub state-wrote : (s : State) (list : List Event) (write : Write) (told : Told)
    → state_behind s (list ++ Wrote write told ∷ []) ≡ after (state_behind s list) write.entry
state-wrote s [] write told = refl
state-wrote s (Opened found its ∷ list) write told = state-wrote found list write told
state-wrote s (Wrote other its ∷ list) write told =
    state-wrote (after s other.entry) list write told

-- what is published after x by what is pending
after_all : (x y : Published) (list : List Addition) → Ready x list
    → led y ≡ fold taking (led x) list → Shows x list y
after_all x y [] k is =
    let mark = ap (λ (l : Led). l.mark) is in record {
      book = ap (λ r. r.book) mark;
      list = ap (λ r. r.list) mark;
      state = ap (λ (l : Led). l.state) is ∙ (k.state ∙ ap (λ r. state_at r.list) (sym mark));
    }
after_all x y (a ∷ []) k is =
    let mark = ap (λ (l : Led). l.mark) is in
    let c : Comes x a = k.come in
    let state : y.snapshot.state ≡ after x.snapshot.state a.entry =
    ap (λ (l : Led). l.state) is ∙ cond-true _ _ _ c.fits in
    let leads : after x.snapshot.state a.entry ≡ after (state_at x.mark.list) c.write.entry =
    ap (λ (p : State). after p a.entry) k.state ∙ ap (after (state_at x.mark.list)) c.entry in
    record {
      book = ap (λ r. r.book) mark ∙ c.book;
      list = ap (λ r. r.list) mark;
      state =
          state
          ∙ (leads
          ∙ (sym (state-wrote empty x.mark.list c.write c.told)
          ∙ ap state_at (sym (ap (λ r. r.list) mark ∙ c.list))));
    }
after_all x y (a ∷ b ∷ list) k is = absurd k.come

later_all : (x : Published) (list : List Addition) → ComeBehind x list
    → IsPrefix x.mark.list (accepted x list)
later_all x [] come = prefix_self x.mark.list
later_all x (a ∷ []) come =
    let c : Comes x a = come in
    subst (λ (l : List Event). IsPrefix x.mark.list l) (sym c.list)
    (prefix_more x.mark.list (Wrote c.write c.told ∷ []))
later_all x (a ∷ b ∷ list) come = absurd come

pub after_is : (x y : Published) (list : List Addition) → Ready x list
    → led y ≡ fold taking (led x) list → Shows x list y
after_is x y list k is = after_all x y list k is

pub publishes : (seat : ℕ) (v : Known) (x y : Published) (list : List Addition) → Ready x list
    → led y ≡ fold taking (led x) list → TurnsAt IsOneList seat v x y Publishes
publishes seat v x y list k is =
    let s = after_all x y list k is in
    shows seat v x y (record {
      book = s.book;
      later =
          subst (λ (l : List Event). IsPrefix x.mark.list l) (sym s.list) (later_all x list k.come);
      legal = subst IsLegal (sym s.list) k.legal;
      state = s.state;
    })

-- ---- a new seat

pub forks : (seat : ℕ) (v : Known) → Forks IsOneList seat v v (told v)
forks seat v x views k at = record {
  legal = k.legal;
  state = k.state;
  each = λ j u e. ⊎_elim
      (λ (t : get_elem? (set views seat v) j ≡ some u).
      k.each j u (subst (λ (l : List Known). get_elem? l j ≡ some u) (set_again views seat v at) t))
      (λ (same : told v ≡ u). subst (λ (z : Known). Fits x z) same
      (record { book = (k.each seat v at).book; seen = (k.each seat v at).seen; own = tt }))
      (at_snoc (set views seat v) (told v) u j e);
}

pub merges : (seat : ℕ) (v : Known) (other : ℕ) (u : Known) → v.own ≡ []
    → Merges IsOneList seat v other u (taught v u) newcomer
merges seat v other u none x views k at apart there =
    let theirs =
    ⊎_elim (λ (t : (other ≡ seat) × (taught v u ≡ u)). absurd (apart t.0))
    (λ (t : (other ≢ seat) × (get_elem? views other ≡ some u)). k.each other u t.1)
    (at_set views seat other (taught v u) u there) in
    record {
      legal = k.legal;
      state = k.state;
      each = each_set x x (set views seat (taught v u)) other newcomer (λ _ f. f)
          (each_set x x views seat (taught v u) (λ _ f. f) k.each (record {
            book = theirs.book;
            seen = theirs.seen;
            own = subst (λ (l : List Event). Stands l u.seen) (sym none) tt;
          }))
          (fits_newcomer x);
    }

pub on_ok : {A B : Type 0} {P : A → Type 0} {R : Type 0} (Q : B → Type 0) (r : Result A B)
    → ((x : A) → P x → R) → MatchResult r P Q → OnOk r R
on_ok Q (Ok x) f m = f x m
on_ok Q (Err y) f m = tt
