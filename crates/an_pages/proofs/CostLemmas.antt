-- How many annotations are fetched.
use Rattle.std.proofs.Common.{◌≡◌, ℕ, List, length, Bool, true, false, refl}
use Rattle.an_policy.specs.Audience.{Identity}
use Rattle.an_state.specs.State.{State}
use Rattle.an_state.specs.View.{readable_places, view_of}
use Rattle.an_list.proofs.PageLemmas.{page_count-same}
use Rattle.an_list.proofs.ReadableLemmas.{readable_count}
use Rattle.an_pages.specs.Container.{notes_on}
use Rattle.an_pages.specs.Cost.{first_cost}

-- as many places are readable as annotations of the view are on the manifest
pub on_count : (s : State) (who : Identity) (manifest : List ℕ)
    → length (readable_places s who manifest) ≡ length (notes_on (view_of s who) manifest)
unfolding notes_on
on_count s who manifest = readable_count s who manifest

pub first_cost-same : {A B : Type 0} (size : ℕ) (minimal : Bool) (first : List A) (second : List B)
    → length first ≡ length second → first_cost size minimal first ≡ first_cost size minimal second
first_cost-same size true first second same = refl
first_cost-same size false first second same = page_count-same 1 size first second same
