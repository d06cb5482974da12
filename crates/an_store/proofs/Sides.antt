-- What is kept under the lock.
use Rattle.std.proofs.Common.{◌≡◌, ℕ, ◌<◌, ℤ, List, [], ◌∷◌, ◌++◌, length, Option, Some, None, Result, Ok, Err, IsTrue, true, refl, sym, ap, subst, ◌∙◌, inl, inr, arith, length-append}
use Rattle.std.specs.Prelude.{IfErr, IfSome, IsSome, option_to_list}
use Rattle.std.proofs.lemmas.List.{append-nil}
use Rattle.logbook.specs.Pages.{Book, Named}
use Rattle.an_base.specs.Faults.{Rises}
use Rattle.an_keep.specs.Keeper.{Stays, Told, Turns}
use Rattle.an_machine.specs.Legal.{Write, Accepts}
use Rattle.an_machine.specs.Step.{step}
use Rattle.an_machine.specs.declared.command.Decided.{Decided}
use Rattle.an_policy.specs.declared.who.Caller.{Caller}
use Rattle.an_rows.specs.Cells.{cells}
use Rattle.an_rows.specs.Valid.{is_valid}
use Rattle.an_snapshot.specs.Fits.{fits}
use Rattle.an_state.specs.Commands.{is_write}
use Rattle.an_state.specs.Entries.{after, state_after}
use Rattle.an_state.specs.Sound.{is_sound}
use Rattle.an_state.specs.State.{State, empty}
use Rattle.an_state.specs.declared.command.Command.{Command}
use Rattle.an_state.specs.declared.entry.Entry.{Entry}
use Rattle.an_shelf.specs.Store as shelf
use Rattle.an_keep.specs.declared.keeper.KeepError.{KeepError}
use Rattle.an_keep.specs.declared.keeper.KeepError.TheVariants as keep
use Rattle.an_shelf.specs.Failure.{write_error}
use Rattle.an_shelf.specs.Front.{CanShow}
use Rattle.an_shelf.specs.Writing.{IsToKeep}
use Rattle.an_shelf.specs.declared.error.WriteError.{WriteError}
use Rattle.an_shelf.specs.declared.error.WriteError.TheVariants as error
use Rattle.an_shelf.proofs.FitLemmas.{decided-fits}
use Rattle.an_shelf.proofs.WritingLemmas.{cells-stay, stands-behind}
use Rattle.an_laws.specs.Events.{Event, Opened, Wrote, IsLegal, AreKept, Keeps, added_by, state_behind, state_at, told_behind, told_at, wrote}
use Rattle.an_published.specs.Rule.{Comes, ComeBehind, accepted, Ready, Shows}
use Rattle.an_store.specs.UnderLock.{Sided, stock_of}
use Rattle.an_store.specs.Stock.{Stock, LacksOne, Settled, Leaves, Fails}
use Rattle.an_published.specs.declared.published.Published.{Published}
use Rattle.an_published.specs.declared.published.Addition.{Addition}
use Rattle.an_published.proofs.Steps.{state-wrote}

-- ---- one event more

pub told-wrote : (before : Told) (list : List Event) (write : Write) (told : Told)
    → told_behind before (list ++ Wrote write told ∷ []) ≡ told
told-wrote before [] write told = refl
told-wrote before (Opened s its ∷ list) write told = told-wrote its list write told
told-wrote before (Wrote other its ∷ list) write told = told-wrote its list write told

kept-wrote : (before : Told) (s : State) (list : List Event) (write : Write) (told : Told)
    → AreKept before s list → Accepts (state_behind s list) write
    → Keeps (told_behind before list) (after (state_behind s list) write.entry) told
    → AreKept before s (list ++ Wrote write told ∷ [])
kept-wrote before s [] write told kept accepts keeps = (accepts, keeps, tt)
kept-wrote before s (Opened found its ∷ list) write told kept accepts keeps = absurd kept
kept-wrote before s (Wrote other its ∷ list) write told kept accepts keeps =
    (kept.0, kept.1, kept-wrote its (after s other.entry) list write told kept.2 accepts keeps)

pub legal-wrote : (list : List Event) (write : Write) (told : Told) → IsLegal list
    → Accepts (state_at list) write → Keeps (told_at list) (after (state_at list) write.entry) told
    → IsLegal (list ++ Wrote write told ∷ [])
legal-wrote [] write told legal accepts keeps = absurd legal
legal-wrote (Opened s its ∷ list) write told (valid, sound, are, kept) accepts keeps =
    (valid, sound, are, kept-wrote its s list write told kept accepts keeps)
legal-wrote (Wrote other its ∷ list) write told legal accepts keeps = absurd legal

-- ---- what is kept

keeps-on : (s t : State) (before old new : Told) → Keeps before s old
    → Turns (λ found. cells t) old new → Keeps before t new
keeps-on s t before old None keeps turns = tt
keeps-on s t before None (Some new) keeps turns = absurd turns
keeps-on s t None (Some old) (Some new) keeps turns = absurd keeps
keeps-on s t (Some found) (Some old) (Some new) keeps turns = turns

pub keeps-itself : (s : State) (told : Told) → IfSome told (λ found. found ≡ cells s)
    → Keeps told s told
keeps-itself s None are = tt
keeps-itself s (Some found) are = are

cells-behind : (t : State) (old new : Told) → Turns (λ found. cells t) old new
    → IfSome new (λ found. found ≡ cells t)
cells-behind t old None turns = tt
cells-behind t None (Some new) turns = absurd turns
cells-behind t (Some old) (Some new) turns = turns

lacks_one : (x : Published) (more : List Addition) → ComeBehind x more
    → LacksOne x.mark.list (accepted x more)
lacks_one x [] come = inl refl
lacks_one x (a ∷ []) come = let c : Comes x a = come in inr (c.write, c.told, c.list)
lacks_one x (a ∷ b ∷ more) come = absurd come

longer : (xs : List Event) (e : Event) → xs ++ e ∷ [] ≡ xs → ⊥
longer xs e is = omega (arith, length-append xs (e ∷ []), ap length is)

-- where all that was accepted is published, nothing waits
none-waits : (x : Published) (more : List Addition) → ComeBehind x more
    → x.mark.list ≡ accepted x more → more ≡ []
none-waits x [] come is = refl
none-waits x (a ∷ []) come is =
    let c : Comes x a = come in
    absurd (longer x.mark.list (Wrote c.write c.told) (sym c.list ∙ sym is))
none-waits x (a ∷ b ∷ more) come is = absurd come

pub none-pend : (xs : List Addition) → (0 < length xs → ⊥) → xs ≡ []
none-pend [] none = refl
none-pend (x ∷ xs) none = absurd (none (omega arith))

-- where nothing waits any more, what pends is all that did
pub all-pend : (pending : List Addition) (waiting : Option Addition) (more : List Addition)
    → waiting ≡ None → pending ≡ more → pending ++ option_to_list waiting ≡ more
all-pend pending waiting more none is =
    ap (λ (w : Option Addition). pending ++ option_to_list w) none ∙ (append-nil pending ∙ is)

none_left : (d o : List Addition) → d ++ o ≡ [] → d ≡ []
none_left [] o e = refl
none_left (x ∷ xs) o e = cc

-- ---- the parts of a store

module _ (name : Book) (head : Named) where
  -- what waits may be published
  pub ready : (x : Published) (more pending : List Addition) (t : Told) (f : ℕ)
      → Sided (stock_of x more t f) name head x more → pending ≡ more → Ready x pending
  ready x more pending t f k is =
      subst (Ready x) (sym is) (record { come = k.come; legal = k.stocked.legal; state = k.state })

  -- it was published
  pub settled : (x y : Published) (more pending left : List Addition) (t : Told) (f : ℕ)
      → Sided (stock_of x more t f) name head x more → pending ≡ more → Shows x pending y
      → left ≡ []
      → Sided (stock_of y left t f) name head y left
  settled x y more pending left t f k is shows none =
      let list : y.mark.list ≡ accepted x more = shows.list ∙ ap (accepted x) is in
      subst (λ (l : List Addition). Sided (stock_of y l t f) name head y l) (sym none) (record {
        stocked = record {
          legal = subst IsLegal (sym list) k.stocked.legal;
          state = refl;
          stands =
              subst (λ (l : List Event). shelf.Stands t (state_at l)) (sym list) k.stocked.stands;
          keeps =
              subst (λ (l : List Event). Keeps (told_at l) (state_at l) t)
              (sym list) k.stocked.keeps;
          lacks = inl refl;
        };
        book = shows.book ∙ k.book;
        is_head = k.is_head;
        come = tt;
        state = shows.state;
      })

  -- the same parts
  pub same : (x x' : Published) (more more' : List Addition) (t : Told) (f : ℕ)
      → Sided (stock_of x more t f) name head x more → x' ≡ x → more' ≡ more
      → Sided (stock_of x' more' t f) name head x' more'
  same x x' more more' t f k here there =
      subst (λ (p : Published × List Addition). Sided (stock_of p.0 p.1 t f) name head p.0 p.1)
      (λ i. (sym here i, sym there i)) k

  -- the cells are as they were
  pub still : (x : Published) (more : List Addition) (t t' : Told) (f f' : ℕ)
      → Sided (stock_of x more t f) name head x more → Stays t t'
      → Sided (stock_of x more t' f') name head x more
  still x more t t' f f' k stays =
      let s : State = state_at (accepted x more) in
      let stands : shelf.Stands t s = k.stocked.stands in
      let turns : Turns (λ found. cells s) t t' = cells-stay s s t t' stands.cells_are stays refl in
      record {
        stocked = record {
          legal = k.stocked.legal;
          state = refl;
          stands = record {
            cells_are = cells-behind s t t' turns;
            valid = stands.valid;
            sound = stands.sound;
          };
          keeps = keeps-on s s (told_at (accepted x more)) t t' k.stocked.keeps turns;
          lacks = k.stocked.lacks;
        };
        book = k.book;
        is_head = k.is_head;
        come = k.come;
        state = k.state;
      }

  -- the state is what is shown, where all is published
  pub shown-state : (x : Published) (more : List Addition) (t : Told) (f : ℕ)
      → Sided (stock_of x more t f) name head x more → x.mark.list ≡ accepted x more
      → x.snapshot.state ≡ state_at (accepted x more)
  shown-state x more t f k all = k.state ∙ ap state_at all

  module _ (moment : ℤ) (caller : Caller) (command : Command) (a : Addition) where
    abbrev write_of : Write
    write_of = record { moment = moment; caller = caller; command = command; entry = a.entry }

    -- a write that was decided and kept waits behind what is published
    pub waits : (x : Published) (d o : List Addition) (decided : Decided) (u : State)
        (t t' : Told) (f f' : ℕ) → Sided (stock_of x (d ++ o) t f) name head x (d ++ o)
        → x.mark.list ≡ accepted x (d ++ o)
        → step (state_at (accepted x (d ++ o))) moment caller command ≡ Ok decided
        → decided.entry ≡ Some a.entry → IsTrue (is_write moment command)
        → u ≡ x.snapshot.state → Turns (λ found. cells (after u a.entry)) t t'
        → a.mark.book ≡ x.mark.book → a.mark.list ≡ x.mark.list ++ Wrote write_of t' ∷ []
        → Sided (stock_of x (d ++ a ∷ []) t' f') name head x (d ++ a ∷ [])
    waits x d o decided u t t' f f' k all is has sent shows turns book list =
        let none : d ≡ [] = none_left d o (none-waits x (d ++ o) k.come all) in
        let p : List Event = x.mark.list in
        let s : State = state_at p in
        let legal : IsLegal p = subst IsLegal (sym all) k.stocked.legal in
        let was : state_at (accepted x (d ++ o)) ≡ s = ap state_at (sym all) in
        let held : shelf.Stands t s = subst (shelf.Stands t) was k.stocked.stands in
        let here : step s moment caller command ≡ Ok decided =
        subst (λ (v : State). step v moment caller command ≡ Ok decided) was is in
        let to : State = after s a.entry in
        let turned : Turns (λ found. cells to) t t' =
        subst (λ (v : State). Turns (λ found. cells (after v a.entry)) t t')
        (shows ∙ k.state) turns in
        let keeps : Keeps (told_at p) to t' =
        keeps-on s to (told_at p) t t'
        (subst (λ (l : List Event). Keeps (told_at l) (state_at l) t) (sym all) k.stocked.keeps)
        turned in
        let stands : shelf.Stands t' to =
        stands-behind s moment caller command decided here sent to t t' held
        (inr (ap (state_after s) (sym has))) turned in
        let more : IsLegal (p ++ Wrote write_of t' ∷ []) =
        legal-wrote p write_of t' legal (decided, here, has) keeps in
        let shown : fits s a.entry ≡ true =
        subst (λ (e : Option Entry). CanShow e s) has
        (decided-fits s moment caller command decided here held.sound) in
        let at : to ≡ state_at a.mark.list =
        sym (state-wrote empty p write_of t') ∙ ap state_at (sym list) in
        let behind : shelf.Stands t' (state_at a.mark.list) = subst (shelf.Stands t') at stands in
        subst
        (λ (l : List Addition). Sided (stock_of x (l ++ a ∷ []) t' f') name head x (l ++ a ∷ []))
        (sym none) (record {
          stocked = record {
            legal = subst IsLegal (sym list) more;
            state = refl;
            stands = behind;
            keeps =
                subst (λ (b : Told). Keeps b (state_at a.mark.list) t')
                (sym (ap told_at list ∙ told-wrote None p write_of t'))
                (keeps-itself (state_at a.mark.list) t' behind.cells_are);
            lacks = inr (write_of, t', list);
          };
          book = k.book;
          is_head = k.is_head;
          come = record {
            write = write_of;
            told = t';
            entry = refl;
            fits = subst (λ (v : State). fits v a.entry ≡ true) (sym k.state) shown;
            book = book;
            list = list;
          };
          state = k.state;
        })

    -- and then all that was accepted ends with it
    pub waits-behind : (x : Published) (d o : List Addition) (t t' told : Told) (f : ℕ)
        → Sided (stock_of x (d ++ o) t f) name head x (d ++ o) → x.mark.list ≡ accepted x (d ++ o)
        → told ≡ t' → a.mark.list ≡ x.mark.list ++ Wrote write_of t' ∷ []
        → accepted x (d ++ a ∷ [])
        ≡ accepted x (d ++ o) ++ wrote told (added_by moment caller command (Some a.entry))
    waits-behind x d o t t' told f k all same list =
        let none : d ≡ [] = none_left d o (none-waits x (d ++ o) k.come all) in
        ap (λ (l : List Addition). accepted x (l ++ a ∷ [])) none
        ∙ (list
        ∙ (ap (λ (l : List Event). l ++ Wrote write_of t' ∷ []) all
        ∙ ap (λ (b : Told). accepted x (d ++ o) ++ Wrote write_of b ∷ []) (sym same)))

-- ---- the keeper failed

same_Err : {A : Type 0} (x y : WriteError) → ◌≡◌ {A = Result A WriteError} (Err x) (Err y) → x ≡ y
same_Err x y is = cc

pub keep-counted : {A B : Type 0} (result : Result A WriteError) (e : KeepError) (y : WriteError)
    (old new : ℕ) → result ≡ Err y → y ≡ write_error e
    → (◌≡◌ {A = Result B KeepError} (Err e) (Err keep.Failed) → Rises old new)
    → result ≡ Err error.Keeper → Rises old new
keep-counted result keep.Failed y old new is so counted keeper = counted refl
keep-counted result keep.Memory y old new is so counted keeper =
    let failed = same_Err y error.Keeper (sym is ∙ keeper) in absurd (cc)

-- ---- what comes of a write that was decided

module _ (moment : ℤ) (caller : Caller) (command : Command) (s t : Stock)
    (write : Decided) (entry : Entry) (is : step s.state moment caller command ≡ Ok write)
    (has : write.entry ≡ Some entry) where
  some : (found : Option Entry) → found ≡ Some entry → IsSome found
  some None at = cc
  some (Some e) at = refl

  -- it was not kept
  pub keep-fails : {A : Type 0} (result : Result A WriteError) (e : KeepError) (y : WriteError)
      → result ≡ Err y → y ≡ write_error e → Settled s t → Leaves s t
      → IfErr result (λ error. Fails moment caller command s error t)
  keep-fails result keep.Failed y at so settled leaves =
      subst (λ r. IfErr r (λ error. Fails moment caller command s error t))
      (sym (at ∙ ap (λ (z : WriteError). Err z) so))
      (subst IsToKeep (sym is) (some write.entry has), settled, leaves)
  keep-fails result keep.Memory y at so settled leaves =
      subst (λ r. IfErr r (λ error. Fails moment caller command s error t))
      (sym (at ∙ ap (λ (z : WriteError). Err z) so))
      (inl (record { accepted = settled.accepted; published = inl settled.published }, leaves))

  -- it was kept, and waits
  pub settle-fails : {A : Type 0} (result : Result A WriteError) (y : WriteError) → result ≡ Err y
      → y ≡ error.Memory → t.published ≡ s.accepted
      → t.accepted ≡ s.accepted ++ wrote t.told (added_by moment caller command (Some entry))
      → IfErr result (λ error. Fails moment caller command s error t)
  settle-fails result y at so published accepted =
      subst (λ r. IfErr r (λ error. Fails moment caller command s error t))
      (sym (at ∙ ap (λ (z : WriteError). Err z) so))
      (inr (record {
        write = write;
        entry = entry;
        is = is;
        has = has;
        published = published;
        accepted = accepted;
      }))
