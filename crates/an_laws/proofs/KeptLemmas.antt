-- What a keeper told behind each event, where it tells its cells behind the last.
use Rattle.std.proofs.Common.{◌≡◌, List, [], ◌∷◌, Some, None, IfSome, IsSome, refl, ap}
use Rattle.std.proofs.lemmas.Bool.{false≢true}
use Rattle.an_keep.specs.Keeper.{Told}
use Rattle.an_rows.specs.Cells.{cells}
use Rattle.an_state.specs.Entries.{after}
use Rattle.an_state.specs.State.{State, empty}
use Rattle.an_laws.specs.Events.{AreKept, AreTold, Event, IsLegal, Keeps, Opened, Wrote, told_at, told_behind}

is-told : (told : Told) (s : State) → IfSome told (λ found. found ≡ cells s) → IsSome told
    → told ≡ Some (cells s)
is-told None s are some = absurd (false≢true some)
is-told (Some found) s are some = ap Some are

keeps-told : (before told : Told) (s : State) → Keeps before s told → IsSome told
    → IsSome before × (told ≡ Some (cells s))
keeps-told before None s keeps some = absurd (false≢true some)
keeps-told None (Some found) s keeps some = absurd keeps
keeps-told (Some before) (Some found) s keeps some = (refl, ap Some keeps)

kept-told : (before : Told) (s : State) (events : List Event) → AreKept before s events
    → IsSome (told_behind before events) → IsSome before × AreTold s events
kept-told before s [] kept some = (some, tt)
kept-told before s (Opened found told ∷ events) kept some = absurd kept
kept-told before s (Wrote write told ∷ events) (accepts, keeps, kept) some =
    let (mid, are) = kept-told told (after s write.entry) events kept some in
    let (first, is) = keeps-told before told (after s write.entry) keeps mid in
    (first, (is, are))

pub writes_told : (events : List Event) → IsLegal events → IsSome (told_at events)
    → AreTold empty events
writes_told [] legal some = absurd legal
writes_told (Opened s told ∷ events) (valid, sound, are, kept) some =
    let (first, rest) = kept-told told s events kept some in (is-told told s are first, rest)
writes_told (Wrote write told ∷ events) legal some = absurd legal
