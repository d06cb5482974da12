-- What is known of the cells that were read, of the one that comes next, and of those behind it.
use Rattle.std.proofs.Common.{◌≡◌, ◌≤◌, ◌<◌, ◌^◌, ◌-◌, ℕ, inl, inr, arith, List, [], ◌∷◌, ◌++◌, true, Option, Some, None, Result, Ok, Err, refl, sym, ap, subst, ◌∙◌, append_assoc}
use Rattle.std.specs.Prelude.{unwrap_or, IfErr, IfSome}
use Rattle.std.proofs.lemmas.Bool.{cases_lt}
use Rattle.std.proofs.lemmas.Option.{same_Some}
use Rattle.an_base.specs.Faults.{Rises}
use Rattle.an_keep.specs.Cells.{Ascend, first_of, next_after}
use Rattle.an_keep.specs.Keeper.{Told, Stays, StaysOrBegins}
use Rattle.an_keep.specs.declared.cell.Cell.{Cell}
use Rattle.an_keep.specs.declared.keeper.KeepError.{KeepError}
use Rattle.an_keep.specs.declared.keeper.KeepError.TheVariants as keep
use Rattle.an_shelf.specs.Failure.{open_error}
use Rattle.an_state.specs.Entries.{with_row}
use Rattle.an_state.specs.Sound.{is_sound}
use Rattle.an_state.specs.State.{State, empty}
use Rattle.an_state.specs.declared.entry.Row.{Row}
use Rattle.an_rows.specs.Cells.{Place, place_of, row_behind, restored, format_in, format_of, first_cell, state_of, cells, cells_in}
use Rattle.an_rows.specs.declared.format.Format.{Format}
use Rattle.an_rows.specs.declared.format.Format.TheVariants.{Second}
use Rattle.an_rows.specs.Valid.{is_valid}
use Rattle.an_rows.proofs.OpenedLemmas.{opened-valid, opened-sound, opened-cells}
use Rattle.an_rows.proofs.RestoreLemmas.{format-first}
use Rattle.an_shelf.specs.Opening.{StandFor, IsDamagedBy}
use Rattle.an_shelf.specs.Reading.{ComesNext, WasRead}
use Rattle.an_shelf.specs.Restoring.{IsDamage, state_behind}
use Rattle.an_shelf.specs.declared.error.OpenError.{OpenError}
use Rattle.an_shelf.specs.declared.error.OpenError.TheVariants.{Keeper, Damaged, Memory}
use Rattle.an_shelf.proofs.NextLemmas.{next-behind}

-- the state is that of the rows which were read, and the cell comes next
pub record IsReading (format : Format) (told : Told) (s : State) (cell : Cell) : Type 0 where
  pub read : List Cell
  pub restores : restored format empty read ≡ Ok s
  pub next : IfSome told (ComesNext format read cell)

-- ---- what a keeper tells

-- a keeper that tells what it told, or began to tell, before calls that change nothing does behind
-- them
pub begins-stays : (old mid new : Told) → StaysOrBegins old mid → Stays mid new
    → StaysOrBegins old new
begins-stays None mid new begins stays = tt
begins-stays (Some cells) mid None begins stays = tt
begins-stays (Some cells) None (Some new) begins stays = absurd stays
begins-stays (Some cells) (Some mid) (Some new) begins stays = stays ∙ begins

-- ---- rows of cells

same_Ok : (s t : State) → ◌≡◌ {A = Result State Place} (Ok s) (Ok t) → s ≡ t
same_Ok s t is = cc

restored-append : (format : Format) (s t : State) (read more : List Cell)
    → restored format s read ≡ Ok t → restored format s (read ++ more) ≡ restored format t more
restored-append format s t [] more is = ap (λ u. restored format u more) (same_Ok s t is)
restored-append format s t (cell ∷ read) more is =
    by_row (λ row. restored-append format (with_row s row) t read more)
    (row_behind format s cell) is
  where
    by_row : ((row : Row) → restored format (with_row s row) read ≡ Ok t
        → restored format (with_row s row) (read ++ more) ≡ restored format t more)
        → (found : Result Row Place)
        → ◌≡◌ {A = Result State Place}
        (elim found [ Err place ↦ Err place | Ok row ↦ restored format (with_row s row) read ])
        (Ok t)
        → ◌≡◌ {A = Result State Place}
        (elim found
        [ Err place ↦ Err place | Ok row ↦ restored format (with_row s row) (read ++ more) ])
        (restored format t more)
    by_row behind (Err place) h = absurd (cc)
    by_row behind (Ok row) h = behind row h

-- the row of the first of these cells is put
restored-next : (format : Format) (s t : State) (cell : Cell) (more : List Cell)
    → state_behind format s cell ≡ Ok t → restored format s (cell ∷ more) ≡ restored format t more
restored-next format s t cell more is = by_row (row_behind format s cell) is
  where
    by_row : (found : Result Row Place)
        → ◌≡◌ {A = Result State Place}
        (elim found [ Err place ↦ Err place | Ok row ↦ Ok (with_row s row) ]) (Ok t)
        → ◌≡◌ {A = Result State Place}
        (elim found [ Err place ↦ Err place | Ok row ↦ restored format (with_row s row) more ])
        (restored format t more)
    by_row (Err place) h = absurd (cc)
    by_row (Ok row) h = ap (λ u. restored format u more) (same_Ok (with_row s row) t h)

-- or it is the one that is damaged
restored-damaged : (format : Format) (s : State) (cell : Cell) (more : List Cell) (place : Place)
    → state_behind format s cell ≡ Err place → restored format s (cell ∷ more) ≡ Err place
restored-damaged format s cell more place is = by_row (row_behind format s cell) is
  where
    by_row : (found : Result Row Place)
        → ◌≡◌ {A = Result State Place}
        (elim found [ Err its ↦ Err its | Ok row ↦ Ok (with_row s row) ]) (Err place)
        → ◌≡◌ {A = Result State Place}
        (elim found [ Err its ↦ Err its | Ok row ↦ restored format (with_row s row) more ])
        (Err place)
    by_row (Err its) h = h
    by_row (Ok row) h = absurd (cc)

-- ---- all cells

state_of-rows : (format : Format) (first cell : Cell) (more : List Cell)
    → format_of first ≡ Some format
    → state_of (first ∷ cell ∷ more) ≡ restored format empty (cell ∷ more)
unfolding state_of
state_of-rows format first cell more form =
    ap (λ found. elim found
    [ None ↦ Err (place_of first) | Some its ↦ restored its empty (cell ∷ more) ]) form

state_of-read : (format : Format) (first : Cell) (read : List Cell) (cell : Cell) (more : List Cell)
    → format_of first ≡ Some format
    → state_of (first ∷ (read ++ cell ∷ more)) ≡ restored format empty (read ++ cell ∷ more)
state_of-read format first [] cell more form = state_of-rows format first cell more form
state_of-read format first (other ∷ read) cell more form =
    state_of-rows format first other (read ++ cell ∷ more) form

state_of-alone : (first : Cell) → state_of (first ∷ []) ≡ Err (place_of first)
unfolding state_of
state_of-alone first = refl

state_of-formless : (first : Cell) (more : List Cell) → format_of first ≡ None
    → state_of (first ∷ more) ≡ Err (place_of first)
unfolding state_of
state_of-formless first [] form = refl
state_of-formless first (cell ∷ more) form =
    ap (λ found. elim found
    [ None ↦ Err (place_of first) | Some its ↦ restored its empty (cell ∷ more) ]) form

state_of-none : state_of [] ≡ Ok empty
unfolding state_of
state_of-none = refl

-- ---- what a keeper tells

-- what holds of the cells before a call that changes none holds of them behind it
pub told-still : (P : List Cell → Type 0) (old new : Told) → Stays old new → IfSome old P
    → IfSome new P
told-still P None None stays holds = tt
told-still P None (Some new) stays holds = absurd stays
told-still P (Some old) None stays holds = tt
told-still P (Some old) (Some new) stays holds = subst P (sym stays) holds

pub stays-on : (a b c : Told) → Stays a b → Stays b c → Stays a c
stays-on None None None f g = tt
stays-on None None (Some z) f g = absurd g
stays-on None (Some y) c f g = absurd f
stays-on (Some x) None None f g = tt
stays-on (Some x) None (Some z) f g = absurd g
stays-on (Some x) (Some y) None f g = tt
stays-on (Some x) (Some y) (Some z) f g = g ∙ f

pub stays-same : (a : Told) → Stays a a
stays-same None = tt
stays-same (Some x) = refl

-- what holds of the cells behind a call that changes none, by what held before and what the call
-- answers
on_told : (P Q R : List Cell → Type 0) → ((cells : List Cell) → P cells → Q cells → R cells)
    → (old new : Told) → Stays old new → IfSome old P → IfSome new Q → IfSome new R
on_told P Q R step old None stays before behind = tt
on_told P Q R step None (Some new) stays before behind = absurd stays
on_told P Q R step (Some old) (Some new) stays before behind =
    step new (subst P (sym stays) before) behind

-- ---- the first cell

first_is : (first : Cell) (cells : List Cell) → Some first ≡ first_of cells
    → (more : List Cell) × (cells ≡ first ∷ more)
first_is first [] is = absurd (cc)
first_is first (other ∷ more) is = (more, ap (λ c. c ∷ more) (sym (same_Some first other is)))

formless : (told : Told) (first : Cell) → format_of first ≡ None
    → IfSome told (λ cells. Some first ≡ first_of cells)
    → IsDamagedBy told (Damaged first.tab first.key)
formless None first form is = tt
formless (Some cells) first form is =
    let found = first_is first cells is in
    ap state_of found.1 ∙ state_of-formless first found.0 form

pub first-formless : (told : Told) (first : Cell) (error : OpenError)
    → error ≡ Damaged first.tab first.key → format_of first ≡ None
    → IfSome told (λ cells. Some first ≡ first_of cells)
    → IsDamagedBy told error
first-formless told first error so form is =
    subst (IsDamagedBy told) (sym so) (formless told first form is)

alone : (first : Cell) (cells : List Cell) → Some first ≡ first_of cells → Ascend cells
    → None ≡ next_after first.tab first.key cells → state_of cells ≡ Err (place_of first)
alone first [] is ascend none = absurd (cc)
alone first (other ∷ []) is ascend none =
    let same = same_Some first other is in
    ap (λ c. state_of (c ∷ [])) (sym same) ∙ state_of-alone first
alone first (other ∷ cell ∷ more) is ascend none =
    let same = same_Some first other is in
    let next =
    next-behind [] first (cell ∷ more) (subst (λ c. Ascend (c ∷ cell ∷ more)) (sym same) ascend) in
    let other_next = ap (λ c. next_after first.tab first.key (c ∷ cell ∷ more)) same in
    absurd (cc)

left-alone : (old new : Told) (first : Cell) → IfSome old (λ cells. Some first ≡ first_of cells)
    → IfSome old Ascend → Stays old new
    → IfSome new (λ cells. None ≡ next_after first.tab first.key cells)
    → IsDamagedBy new (Damaged first.tab first.key)
left-alone old None first is ascend stays none = tt
left-alone None (Some new) first is ascend stays none = absurd stays
left-alone (Some old) (Some new) first is ascend stays none =
    alone first new (subst (λ cells. Some first ≡ first_of cells) (sym stays) is)
    (subst Ascend (sym stays) ascend) none

pub first-alone : (old new : Told) (first : Cell) (error : OpenError) (found : Option Cell)
    → error ≡ Damaged first.tab first.key → IfSome old (λ cells. Some first ≡ first_of cells)
    → IfSome old Ascend
    → Stays old new → found ≡ None
    → IfSome new (λ cells. found ≡ next_after first.tab first.key cells) → IsDamagedBy new error
first-alone old new first error found so is ascend stays none next =
    let P : Option Cell → Type 0 =
    λ f. IfSome new (λ cells. f ≡ next_after first.tab first.key cells) in
    subst (IsDamagedBy new) (sym so) (left-alone old new first is ascend stays (subst P none next))

second : (format : Format) (first cell : Cell) (cells : List Cell) → format_of first ≡ Some format
    → Some first ≡ first_of cells → Ascend cells → Some cell ≡ next_after first.tab first.key cells
    → ComesNext format [] cell cells
second format first cell cells form is ascend next =
    let found = first_is first cells is in
    let behind = next-behind [] first found.0 (subst Ascend found.1 ascend) in
    let seen : Some cell ≡ first_of found.0 =
    next ∙ ap (next_after first.tab first.key) found.1 ∙ behind in
    let rest = first_is cell found.0 seen in
    record {
      first = first;
      more = rest.0;
      is = found.1 ∙ ap (λ l. first ∷ l) rest.1;
      form = form;
      ascend = ascend;
    }

leads : (format : Format) (old new : Told) (first cell : Cell) → format_of first ≡ Some format
    → IfSome old (λ cells. Some first ≡ first_of cells) → IfSome old Ascend → Stays old new
    → IfSome new (λ cells. Some cell ≡ next_after first.tab first.key cells)
    → IfSome new (ComesNext format [] cell)
leads format old None first cell form is ascend stays next = tt
leads format None (Some new) first cell form is ascend stays next = absurd stays
leads format (Some old) (Some new) first cell form is ascend stays next =
    second format first cell new form (subst (λ cells. Some first ≡ first_of cells) (sym stays) is)
    (subst Ascend (sym stays) ascend) next

pub first-leads : (format : Format) (old new : Told) (first cell : Cell) (found : Option Cell)
    → format_of first ≡ Some format → IfSome old (λ cells. Some first ≡ first_of cells)
    → IfSome old Ascend → Stays old new
    → found ≡ Some cell → IfSome new (λ cells. found ≡ next_after first.tab first.key cells)
    → IfSome new (ComesNext format [] cell)
first-leads format old new first cell found form is ascend stays some next =
    let P : Option Cell → Type 0 =
    λ f. IfSome new (λ cells. f ≡ next_after first.tab first.key cells) in
    leads format old new first cell form is ascend stays (subst P some next)

-- ---- a cell among those behind the first

module _ (format : Format) (read : List Cell) (cell : Cell) (cells : List Cell)
    (next : ComesNext format read cell cells) where
  behind : next_after cell.tab cell.key cells ≡ first_of next.more
  behind =
      ap (next_after cell.tab cell.key) next.is
      ∙ next-behind (next.first ∷ read) cell next.more (subst Ascend next.is next.ascend)

  next-on : (other : Cell) → Some other ≡ next_after cell.tab cell.key cells
      → ComesNext format (read ++ cell ∷ []) other cells
  next-on other is =
      let rest = first_is other next.more (is ∙ behind) in
      record {
        first = next.first;
        more = rest.0;
        is =
            next.is ∙ ap (λ l. next.first ∷ (read ++ cell ∷ l)) rest.1
            ∙ ap (λ l. next.first ∷ l) (sym (append_assoc read (cell ∷ []) (other ∷ rest.0)));
        form = next.form;
        ascend = next.ascend;
      }

  -- the state of the cells, where those that were read lead to this one
  state-next : (s : State) → restored format empty read ≡ Ok s
      → state_of cells ≡ restored format s (cell ∷ next.more)
  state-next s restores =
      ap state_of next.is ∙ state_of-read format next.first read cell next.more next.form
      ∙ restored-append format empty s read (cell ∷ next.more) restores

none-left : (more : List Cell) → None ≡ first_of more → more ≡ []
none-left [] none = refl
none-left (cell ∷ more) none = absurd (cc)

-- ---- the turns of a reading

pub reading-begins : (format : Format) (told : Told) (cell : Cell)
    → IfSome told (ComesNext format [] cell) → IsReading format told empty cell
reading-begins format told cell next = record { read = []; restores = refl; next = next }

read-further : (format : Format) (told : Told) (s t : State) (cell : Cell)
    (reading : IsReading format told s cell) → state_behind format s cell ≡ Ok t
    → restored format empty (reading.read ++ cell ∷ []) ≡ Ok t
read-further format told s t cell reading is =
    restored-append format empty s reading.read (cell ∷ []) reading.restores
    ∙ restored-next format s t cell [] is

pub reading-on : (format : Format) (old new : Told) (s t : State) (cell other : Cell)
    (found : Option Cell) → IsReading format old s cell → state_behind format s cell ≡ Ok t
    → Stays old new
    → found ≡ Some other → IfSome new (λ cells. found ≡ next_after cell.tab cell.key cells)
    → IsReading format new t other
reading-on format old new s t cell other found reading is stays some next = record {
  read = reading.read ++ cell ∷ [];
  restores = read-further format old s t cell reading is;
  next =
      on_told (ComesNext format reading.read cell)
      (λ cells. found ≡ next_after cell.tab cell.key cells)
      (ComesNext format (reading.read ++ cell ∷ []) other)
      (λ cells its at. next-on format reading.read cell cells its other (sym some ∙ at)) old new
      stays reading.next next;
}

-- the cells, where the one that was read is the last
module _ (format : Format) (s t : State) (cell : Cell) (found : Option Cell)
    (is : state_behind format s cell ≡ Ok t) (none : found ≡ None) (old new : Told)
    (reading : IsReading format old s cell) (stays : Stays old new)
    (next : IfSome new (λ cells. found ≡ next_after cell.tab cell.key cells)) where
  ends : (cells : List Cell) → ComesNext format reading.read cell cells
      → found ≡ next_after cell.tab cell.key cells → state_of cells ≡ Ok t
  ends cells its at =
      state-next format reading.read cell cells its s reading.restores
      ∙ ap (λ l. restored format s (cell ∷ l))
      (none-left its.more (sym none ∙ at ∙ behind format reading.read cell cells its))
      ∙ restored-next format s t cell [] is

  pub reading-ends : StandFor new t
  reading-ends =
      on_told (ComesNext format reading.read cell)
      (λ cells. found ≡ next_after cell.tab cell.key cells)
      (λ cells. state_of cells ≡ Ok t) ends old new stays reading.next next

  all-read : (all : List Cell) → ComesNext format reading.read cell all
      → found ≡ next_after cell.tab cell.key all → WasRead format t all
  all-read all its at =
      let named : format_in all ≡ format =
      ap format_in its.is ∙ ap (λ found. unwrap_or found Second) its.form in
      record {
        is = sym (opened-cells all t (ends all its at) its.ascend) ∙ ap (λ f. cells_in f t) named;
        named = named;
        some =
            λ none.
            let clash : [] ≡ its.first ∷ (reading.read ++ cell ∷ its.more) = sym none ∙ its.is in
            cc;
        ascend = its.ascend;
      }

  pub reading-cells : IfSome new (WasRead format t)
  reading-cells =
      on_told (ComesNext format reading.read cell)
      (λ cells. found ≡ next_after cell.tab cell.key cells) (WasRead format t)
      all-read old new stays reading.next next

-- whether the cells are told or not, some cells stand for the state
module _ (format : Format) (told : Told) (s t : State) (cell : Cell)
    (reading : IsReading format told s cell) (is : state_behind format s cell ≡ Ok t) where
  read_cells : List Cell
  read_cells = first_cell format ∷ (reading.read ++ cell ∷ [])

  reading-opens : state_of read_cells ≡ Ok t
  unfolding read_cells
  reading-opens =
      state_of-read format (first_cell format) reading.read cell [] (format-first format)
      ∙ read-further format told s t cell reading is

  pub reading-valid : is_valid t ≡ true
  reading-valid = opened-valid read_cells t reading-opens

  pub reading-sound : is_sound t ≡ true
  reading-sound = opened-sound read_cells t reading-opens

pub reading-damaged : (format : Format) (told : Told) (s : State) (cell : Cell) (error : OpenError)
    → IsReading format told s cell → IsDamage (state_behind format s cell) error
    → IsDamagedBy told error
reading-damaged format None s cell (Damaged tab key) reading is = tt
reading-damaged format (Some cells) s cell (Damaged tab key) reading is =
    state-next format reading.read cell cells reading.next s reading.restores
    ∙ restored-damaged format s cell reading.next.more (record { tab = tab; key = key }) is
reading-damaged format told s cell Keeper reading is = tt
reading-damaged format told s cell Memory reading is = tt

-- ---- the exits

-- what a cell that is damaged tells
pub exit-damaged : {X : Type 0} (format : Format) (told : Told) (s : State) (cell : Cell)
    (result : Result X OpenError) (e y : OpenError) → result ≡ Err y → y ≡ e
    → IsReading format told s cell → IsDamage (state_behind format s cell) e
    → IfErr result (IsDamagedBy told)
exit-damaged {X = X} format told s cell result e y is same reading damage =
    let P : Result X OpenError → Type 0 = λ r. IfErr r (IsDamagedBy told) in
    subst P (sym is) (reading-damaged format told s cell y reading
    (subst (IsDamage (state_behind format s cell)) (sym same) damage))

same_Err : {X : Type 0} (x y : OpenError) → ◌≡◌ {A = Result X OpenError} (Err x) (Err y) → x ≡ y
same_Err x y is = cc

-- it isn't the keeper that failed
pub exit-uncounted : {X P : Type 0} (format : Format) (s : State) (cell : Cell)
    (result : Result X OpenError) (e y : OpenError) → result ≡ Err y → y ≡ e
    → IsDamage (state_behind format s cell) e → result ≡ Err Keeper → P
exit-uncounted format s cell result e y is same damage keeper =
    let none : IsDamage (state_behind format s cell) Keeper =
    subst (IsDamage (state_behind format s cell))
    (sym same ∙ same_Err y Keeper (sym is ∙ keeper)) damage in
    absurd none

-- or it failed, and has counted it
pub failed-counted : {X A : Type 0} (result : Result X OpenError) (error : KeepError)
    (y : OpenError) (old mid new : ℕ) → result ≡ Err y → y ≡ open_error error → old ≤ mid
    → mid ≤ new
    → (◌≡◌ {A = Result A KeepError} (Err error) (Err keep.Failed) → Rises mid new)
    → result ≡ Err Keeper → Rises old new
failed-counted result keep.Failed y old mid new is so kept more counted keeper =
    λ below. elim (cases_lt mid (2 ^ 64 - 1)) [
      | inl less ↦ (let rises : mid < new = counted refl less in omega arith)
      | inr full ↦ omega arith
    ]
failed-counted result keep.Memory y old mid new is so kept more counted keeper =
    let failed = same_Err y Keeper (sym is ∙ keeper) in absurd (cc)

-- ---- no cells

module _ (t : State) (none : t ≡ empty) where
  empty-state : state_of [] ≡ Ok t
  empty-state = state_of-none ∙ ap (λ s. Ok s) (sym none)

  pub none-valid : is_valid t ≡ true
  none-valid = opened-valid [] t empty-state

  pub none-sound : is_sound t ≡ true
  none-sound = opened-sound [] t empty-state

  empty-cells : (all : List Cell) → None ≡ first_of all → state_of all ≡ Ok t
  empty-cells [] first = empty-state
  empty-cells (cell ∷ all) first = absurd (cc)

  pub none-state : (told : Told) (found : Option Cell) → found ≡ None
      → IfSome told (λ all. found ≡ first_of all) → StandFor told t
  none-state None found is first = tt
  none-state (Some all) found is first = empty-cells all (sym is ∙ first)

  pub none-cells : (told : Told) (found : Option Cell) → found ≡ None
      → IfSome told (λ all. found ≡ first_of all) → IfSome told Ascend
      → IfSome told (λ all. all ≡ cells t)
  none-cells None found is first ascend = tt
  none-cells (Some all) found is first ascend = by all (sym is ∙ first) ascend
    where
      by : (all : List Cell) → None ≡ first_of all → Ascend all → all ≡ cells t
      by [] none ascend = sym (opened-cells [] t (empty-cells [] none) ascend)
      by (cell ∷ all) none ascend = absurd (cc)
