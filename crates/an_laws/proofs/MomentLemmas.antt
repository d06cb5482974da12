-- The moments of the activities never fall.
use Rattle.std.proofs.Common.{◌≡◌, suc, ℤ, ◌-◌, Bool, true, not, int_lt, List, [], ◌∷◌, ◌++◌, length, slice_get, option_map, refl, ap, ◌∙◌, arith}
use Rattle.std.specs.List.{list_all}
use Rattle.std.specs.Prelude.{unwrap_or}
use Rattle.std.proofs.lemmas.Bool.{and_parts, and_from, cond_both, not_from_false}
use Rattle.std.proofs.lemmas.Int.{ints}
use Rattle.std.proofs.lemmas.List.Folds.{list_all-append}
use Rattle.an_machine.specs.Accepted.{later}
use Rattle.an_state.specs.View.{last_moment}
use Rattle.an_state.specs.declared.activity.Activity.{Activity}
use Rattle.an_state.specs.Sound.{moments_never_fall}
use Rattle.an_keyed.proofs.FoundLemmas.{all-weaker}

-- ---- moments

-- no moment is before itself
pub not_below-self : (a : ℤ) → not (int_lt a a) ≡ true
not_below-self a = grind (arith, ints)

-- what is not before a moment is not before an earlier one
not_below-trans : (a b c : ℤ) → not (int_lt b a) ≡ true → not (int_lt c b) ≡ true
    → not (int_lt c a) ≡ true
not_below-trans a b c first second = grind (arith, ints)

-- the later of two moments is not before the second
later-not_below : (a b : ℤ) → not (int_lt (later a b) b) ≡ true
later-not_below a b =
    cond_both (int_lt a b) b a (λ m. not (int_lt m b) ≡ true) (λ h. not_below-self b)
    (λ h. not_from_false _ h)

-- ---- activities

abbrev pub is_from : ℤ → Activity → Bool
is_from at activity = not (int_lt activity.at at)

abbrev pub is_until : ℤ → Activity → Bool
is_until at activity = not (int_lt at activity.at)

-- activities from a moment on stand behind those until it
rise-append : (at : ℤ) (before more : List Activity) → moments_never_fall before ≡ true
    → list_all (is_until at) before ≡ true
    → list_all (is_from at) more ≡ true → moments_never_fall more ≡ true
    → moments_never_fall (before ++ more) ≡ true
rise-append at [] more rise until from rising = rising
rise-append at (activity ∷ before) more rise until from rising =
    let parts = and_parts _ _ rise in
    let ends = and_parts _ _ until in
    let behind =
    all-weaker (is_from at) (is_from activity.at)
    (λ other h. not_below-trans activity.at at other.at ends.0 h) more from in
    and_from _ _ (list_all-append (is_from activity.at) before more ∙ and_from _ _ parts.0 behind)
    (rise-append at before more parts.1 ends.1 from rising)

-- activities of one moment rise
rise-same : (at : ℤ) (activities : List Activity) → list_all (is_from at) activities ≡ true
    → list_all (is_until at) activities ≡ true → moments_never_fall activities ≡ true
rise-same at [] from until = refl
rise-same at (activity ∷ activities) from until =
    let starts = and_parts _ _ from in
    let ends = and_parts _ _ until in
    and_from _ _ (all-weaker (is_from at) (is_from activity.at)
    (λ other h. not_below-trans activity.at at other.at ends.0 h) activities starts.1)
    (rise-same at activities starts.1 ends.1)

-- ---- the last moment

abbrev last_at : ℤ → List Activity → ℤ
last_at moment [] = moment
last_at moment (activity ∷ activities) = last_at activity.at activities

-- the activity in the last place has the last moment
last-found : (moment : ℤ) (first : Activity) (activities : List Activity)
    → unwrap_or
    (option_map (λ activity. activity.at) (slice_get (first ∷ activities) (length activities)))
    moment ≡ last_at first.at activities
last-found moment first [] = refl
last-found moment first (activity ∷ activities) = last-found moment activity activities

last_moment-is : (moment : ℤ) (activities : List Activity)
    → last_moment moment activities ≡ last_at moment activities
last_moment-is moment [] = refl
last_moment-is moment (first ∷ activities) =
    let one : suc (length activities) - 1 ≡ length activities = omega arith in
    ap (λ place.
    unwrap_or (option_map (λ activity. activity.at) (slice_get (first ∷ activities) place)) moment)
    one
    ∙ last-found moment first activities

-- each activity is until the last moment
until-last : (first : Activity) (activities : List Activity)
    → moments_never_fall (first ∷ activities) ≡ true
    → list_all (is_until (last_at first.at activities)) (first ∷ activities) ≡ true
until-last first [] rise = and_from _ _ (not_below-self first.at) refl
until-last first (second ∷ activities) rise =
    let parts = and_parts _ _ rise in
    let rest = until-last second activities parts.1 in
    let next = (and_parts _ _ parts.0).0 in
    and_from _ _
    (not_below-trans first.at second.at (last_at second.at activities) next (and_parts _ _ rest).0)
    rest

-- each activity is until the moment of the next write
until-later : (moment : ℤ) (activities : List Activity) → moments_never_fall activities ≡ true
    → list_all (is_until (later moment (last_moment moment activities))) activities ≡ true
until-later moment [] rise = refl
until-later moment (first ∷ activities) rise =
    let last = last_at first.at activities in
    ap (λ at. list_all (is_until (later moment at)) (first ∷ activities))
    (last_moment-is moment (first ∷ activities))
    ∙ all-weaker (is_until last) (is_until (later moment last))
    (λ other h. not_below-trans other.at last (later moment last) h (later-not_below moment last))
    (first ∷ activities) (until-last first activities rise)

-- new activities, all of the moment of their write, stand behind those before
pub moments-rise : (moment : ℤ) (before more : List Activity) → moments_never_fall before ≡ true
    → list_all (is_from (later moment (last_moment moment before))) more ≡ true
    → list_all (is_until (later moment (last_moment moment before))) more ≡ true
    → moments_never_fall (before ++ more) ≡ true
moments-rise moment before more rise from until =
    let at = later moment (last_moment moment before) in
    rise-append at before more rise (until-later moment before rise) from
    (rise-same at more from until)
