-- What a keeper that was opened told before, and how its cells are renewed.
use Rattle.std.proofs.Common.{◌≡◌, List, [], ◌∷◌, Option, Some, None, IsSome, Result, Ok, Err, true, refl, sym, ap, subst, ◌∙◌}
use Rattle.std.specs.Prelude.{IfErr, IfOk, IfSome}
use Rattle.std.proofs.lemmas.Bool.{false≢true}
use Rattle.an_keep.specs.Cells.{Ascend, first_of, put_changes}
use Rattle.an_keep.specs.Keeper.{Stays, StaysOrBegins, Told, Turns}
use Rattle.an_keep.specs.declared.cell.Cell.{Cell}
use Rattle.an_keep.specs.declared.cell.Change.{Change}
use Rattle.an_keep.proofs.ToldLemmas.{told-before}
use Rattle.an_rows.specs.Cells.{cells, cells_in, state_of}
use Rattle.an_rows.specs.Migration.{migration}
use Rattle.an_rows.specs.Valid.{is_valid}
use Rattle.an_rows.specs.declared.format.Format.{Format}
use Rattle.an_rows.specs.declared.format.Format.TheVariants.{First, Second}
use Rattle.an_rows.proofs.MigrationLemmas.{migration-leads}
use Rattle.an_rows.proofs.RestoreLemmas.{cells-today}
use Rattle.an_state.specs.Sound.{is_sound}
use Rattle.an_state.specs.State.{State}
use Rattle.an_shelf.specs.Opening.{IsDamagedBy, RenewsOrBegins, StandFor, WasDamagedBy, WasOpened, renewed}
use Rattle.an_shelf.specs.Reading.{WasRead}
use Rattle.an_shelf.specs.declared.error.OpenError.{OpenError}
use Rattle.an_shelf.proofs.ReadingLemmas.{begins-stays, stays-on}

pub was-opened : (before opened : Told) (s : State) → StaysOrBegins before opened
    → StandFor opened s → WasOpened before opened s
was-opened before opened s stays stands =
    told-before (λ told. StandFor told s) before opened opened stays (λ some. some) stands

pub was-damaged : (before opened : Told) (error : OpenError) → StaysOrBegins before opened
    → IsDamagedBy opened error → WasDamagedBy before opened error
was-damaged before opened error stays damaged =
    told-before (λ told. IsDamagedBy told error) before opened opened stays (λ some. some) damaged

-- ---- cells that were read, and renewed

-- renewed cells are those of the state in today's format
renewed-are : (format : Format) (s : State) (found : List Cell) → WasRead format s found
    → renewed s found ≡ cells s
renewed-are First s found read = ap (λ f. elim f [ First ↦ cells s | Second ↦ found ]) read.named
renewed-are Second s found read =
    ap (λ f. elim f [ First ↦ cells s | Second ↦ found ]) read.named ∙ read.is

-- those of today's format are as they were
pub still-renewed : (s : State) (told : Told) → IfSome told (WasRead Second s)
    → Turns (renewed s) told told
still-renewed s None read = tt
still-renewed s (Some found) read =
    sym (ap (λ f. elim f [ First ↦ cells s | Second ↦ found ]) read.named)

-- and the migration renews those of the first
pub turned-renewed : (s : State) (changes : List Change) (old new : Told) → changes ≡ migration s
    → IfSome old (WasRead First s) → Turns (put_changes changes) old new → Turns (renewed s) old new
turned-renewed s changes old None is read turns = tt
turned-renewed s changes None (Some new) is read turns = absurd turns
turned-renewed s changes (Some old) (Some new) is read turns =
    let some : ¬ (cells_in First s ≡ []) = λ none. read.some (read.is ∙ none) in
    turns
    ∙ ap (λ l. put_changes l old) is
    ∙ ap (put_changes (migration s)) read.is
    ∙ migration-leads s some (subst Ascend read.is read.ascend)
    ∙ sym (renewed-are First s old read)

-- ---- what is told once a keeper was read and its cells renewed

module _ (format : Format) (s : State) (mid new : Told) (read : IfSome mid (WasRead format s))
    (renews : Turns (renewed s) mid new) where
  pub renewed-cells : IfSome new (λ found. found ≡ cells s)
  renewed-cells = by mid new read renews
    where
      by : (mid new : Told) → IfSome mid (WasRead format s) → Turns (renewed s) mid new
          → IfSome new (λ found. found ≡ cells s)
      by mid None read renews = tt
      by None (Some new) read renews = absurd renews
      by (Some mid) (Some new) read renews = renews ∙ renewed-are format s mid read

  pub renewed-state : is_valid s ≡ true → is_sound s ≡ true → StandFor new s
  renewed-state valid sound = by new renewed-cells
    where
      by : (new : Told) → IfSome new (λ found. found ≡ cells s) → StandFor new s
      by None are = tt
      by (Some new) are = ap state_of are ∙ cells-today s valid sound

-- a keeper that told before it was read, and nothing of which was changed, stood for the state
pub renewed-opened : (old mid new : Told) (s : State) → Stays old mid → StandFor mid s
    → Turns (renewed s) mid new → WasOpened old new s
renewed-opened None mid None s stays stand renews = tt
renewed-opened None mid (Some new) s stays stand renews = tt
renewed-opened (Some old) mid None s stays stand renews = tt
renewed-opened (Some old) None (Some new) s stays stand renews = absurd renews
renewed-opened (Some old) (Some mid) (Some new) s stays stand renews =
    sym (ap state_of stays) ∙ stand

pub renews-on : (old mid new : Told) (s : State) → Stays old mid → Turns (renewed s) mid new
    → Turns (renewed s) old new
renews-on old mid None s stays renews = tt
renews-on None None (Some new) s stays renews = absurd renews
renews-on None (Some mid) (Some new) s stays renews = absurd stays
renews-on (Some old) None (Some new) s stays renews = absurd renews
renews-on (Some old) (Some mid) (Some new) s stays renews = renews ∙ ap (renewed s) stays

-- the same where it may have begun to tell as it was read
pub begins-renews : (old mid new : Told) (s : State) → StaysOrBegins old mid
    → Turns (renewed s) mid new → RenewsOrBegins s old new
begins-renews None mid new s begins renews = tt
begins-renews (Some old) mid new s begins renews = renews-on (Some old) mid new s begins renews

pub begins-opened : (old mid new : Told) (s : State) → StaysOrBegins old mid → WasOpened mid new s
    → Turns (renewed s) mid new → WasOpened old new s
begins-opened None mid None s begins opened renews = tt
begins-opened None mid (Some new) s begins opened renews = tt
begins-opened (Some old) mid None s begins opened renews = tt
begins-opened (Some old) None (Some new) s begins opened renews = absurd renews
begins-opened (Some old) (Some mid) (Some new) s begins opened renews =
    sym (ap state_of begins) ∙ opened

-- ---- no cells

module _ (s : State) (told : Told) (found : Option Cell) (none : found ≡ None)
    (first : IfSome told (λ all. found ≡ first_of all)) where
  no-cells : (all : List Cell) → None ≡ first_of all → renewed s all ≡ all
  no-cells [] is = refl
  no-cells (cell ∷ all) is = absurd (cc)

  pub none-renewed : Turns (renewed s) told told
  none-renewed = by told first
    where
      by : (told : Told) → IfSome told (λ all. found ≡ first_of all) → Turns (renewed s) told told
      by None first = tt
      by (Some all) first = sym (no-cells all (sym none ∙ first))

-- ---- later calls

-- of a keeper that was opened and tells after later calls, which let none begin to tell
pub opened-on : (before opened after : Told) (s : State) → WasOpened before opened s
    → (IsSome after → IsSome opened) → WasOpened before after s
opened-on before opened None s was since = tt
opened-on None opened (Some after) s was since = tt
opened-on (Some old) None (Some after) s was since = absurd (false≢true (since refl))
opened-on (Some old) (Some mid) (Some after) s was since = was

-- where it begins to tell in no call, it told before
pub renews-tells : (s : State) (old new : Told) → Turns (renewed s) old new → IsSome new
    → IsSome old
renews-tells s old None renews some = absurd (false≢true some)
renews-tells s None (Some new) renews some = absurd renews
renews-tells s (Some old) (Some new) renews some = refl

-- ---- the answer of an opening, of which the first call may have begun to tell

module _ {X E : Type 0} (state : X → State) (old mid new : Told) (result : Result X E)
    (renews : IfOk result (λ x. Turns (renewed (state x)) mid new)) where
  pub some-opened : StaysOrBegins old mid → IfOk result (λ x. WasOpened mid new (state x))
      → IfOk result (λ x. WasOpened old new (state x))
  some-opened begins opened = by result renews opened
    where
      by : (result : Result X E) → IfOk result (λ x. Turns (renewed (state x)) mid new)
          → IfOk result (λ x. WasOpened mid new (state x))
          → IfOk result (λ x. WasOpened old new (state x))
      by (Err e) renews opened = tt
      by (Ok x) renews opened = begins-opened old mid new (state x) begins opened renews

  pub some-renewed : StaysOrBegins old mid → IfOk result (λ x. RenewsOrBegins (state x) old new)
  some-renewed begins = by result renews
    where
      by : (result : Result X E) → IfOk result (λ x. Turns (renewed (state x)) mid new)
          → IfOk result (λ x. RenewsOrBegins (state x) old new)
      by (Err e) renews = tt
      by (Ok x) renews = begins-renews old mid new (state x) begins renews

  pub some-never : {P : Type 0} → (P → Stays old mid)
      → IfOk result (λ x. P → Turns (renewed (state x)) old new)
  some-never {P = P} never = by result renews
    where
      by : (result : Result X E) → IfOk result (λ x. Turns (renewed (state x)) mid new)
          → IfOk result (λ x. P → Turns (renewed (state x)) old new)
      by (Err e) renews = tt
      by (Ok x) renews = λ kind. renews-on old mid new (state x) (never kind) renews

module _ {X E : Type 0} (old mid new : Told) (result : Result X E)
    (stays : IfErr result (λ e. Stays mid new)) where
  pub some-kept : StaysOrBegins old mid → IfErr result (λ e. StaysOrBegins old new)
  some-kept begins = by result stays
    where
      by : (result : Result X E) → IfErr result (λ e. Stays mid new)
          → IfErr result (λ e. StaysOrBegins old new)
      by (Ok x) stays = tt
      by (Err e) stays = begins-stays old mid new begins stays

  pub some-never_refused : {P : Type 0} → (P → Stays old mid)
      → IfErr result (λ e. P → Stays old new)
  some-never_refused {P = P} never = by result stays
    where
      by : (result : Result X E) → IfErr result (λ e. Stays mid new)
          → IfErr result (λ e. P → Stays old new)
      by (Ok x) stays = tt
      by (Err e) stays = λ kind. stays-on old mid new (never kind) stays

pub ruleset renewing = (still-renewed, turned-renewed)

pub ruleset reading_renewed = (renewed-cells, renewed-state, renewed-opened, renews-on)
