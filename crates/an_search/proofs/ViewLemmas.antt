-- What a caller may read that is wanted.
use Rattle.std.proofs.Common.{ℕ, List, subst}
use Rattle.std.specs.Prelude.{filter}
use Rattle.an_policy.specs.Audience.{Identity}
use Rattle.an_state.specs.State.{State}
use Rattle.an_state.specs.View.{view_of, readable_places}
use Rattle.an_list.specs.Listed.{StandAt}
use Rattle.an_list.proofs.ReadableLemmas.{readable_rows}
use Rattle.an_search.specs.Found.{is_wanted_at}
use Rattle.an_search.specs.Search.{hits}
use Rattle.an_search.specs.Wanted.{matches}
use Rattle.an_search.specs.declared.wanted.Wanted.{Wanted}
use Rattle.an_search.proofs.FoundLemmas.{stand-wanted}

-- the hits of the view stand at the readable places that are wanted
pub hits-stand : (s : State) (who : Identity) (manifest : List ℕ) (wanted : Wanted)
    → StandAt s.notes (filter (is_wanted_at s.notes wanted) (readable_places s who manifest))
    (hits (view_of s who) manifest wanted)
unfolding hits
hits-stand s who manifest wanted =
    subst (λ rows. StandAt s.notes
    (filter (is_wanted_at s.notes wanted) (readable_places s who manifest))
    (filter (matches wanted) rows))
    (readable_rows s who manifest)
    (stand-wanted s.notes wanted (readable_places s who manifest))
