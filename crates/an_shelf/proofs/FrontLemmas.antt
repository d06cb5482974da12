-- What a look shows behind an entry.
use Rattle.std.proofs.Common.{◌≡◌, true, Option, Some, ap, subst, sym, ◌∙◌}
use Rattle.std.proofs.lemmas.Bool.{cond-true}
use Rattle.an_snapshot.specs.Absorbed.{Absorbed, absorbed}
use Rattle.an_snapshot.specs.Fits.{fits}
use Rattle.an_state.specs.Entries.{after, state_after}
use Rattle.an_state.specs.declared.entry.Entry.{Entry}
use Rattle.an_shelf.specs.Front.{CanShow}

-- an entry that fits is shown
pub shows : (s t : Absorbed) (entry : Entry) → fits s.state entry ≡ true → t ≡ absorbed s entry
    → t.state ≡ after s.state entry
shows s t entry is so = ap (λ (u : Absorbed). u.state) so ∙ cond-true _ _ _ is

-- and so is one that waited
pub shows_waiting : (s t : Absorbed) (waiting : Option Entry) (entry : Entry)
    → CanShow waiting s.state → waiting ≡ Some entry → t ≡ absorbed s entry
    → t.state ≡ state_after s.state waiting
shows_waiting s t waiting entry can is so =
    shows s t entry (subst (λ w. CanShow w s.state) is can) so ∙ ap (state_after s.state) (sym is)

pub ruleset showing = (shows, shows_waiting)
