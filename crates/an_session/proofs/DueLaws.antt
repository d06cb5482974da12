-- What is due of the same bytes is one list alone, its requests are those that the bytes are cut
-- into, and they are few.
use Rattle.std.proofs.lemmas.Bool.Decides.{nat_tests}
use Rattle.std.proofs.Common.{◌≡◌, ℕ, ◌+◌, ◌<◌, ◌≤◌, length, arith, ◌-◌, List, [], ◌∷◌, ◌++◌, Bool, true, false, ◌||◌, nat_le, if◌then◌else◌, Option, inl, inr, refl, sym, ap, subst, ◌∙◌}
use Rattle.an_code.specs.declared.code.Code.{Code}
use Rattle.an_world.specs.Link.{Traffic}
use Rattle.an_http.specs.declared.request.Request.{Request}
use Rattle.an_http.specs.Requests.{Piece, Whole, Wrong, Front, Nothing, Begins, Cuts, IsLast, Requests}
use Rattle.an_http.proofs.CutLemmas.{begins_unique}
use Rattle.an_session.specs.Due.{Due, Ask, Refuse, is_last, has_last, tries, IsRefused, IsDue, Fronts, AreAll, requests_of}
use Rattle.an_session.proofs.DueLemmas.{open_parts}

-- a whole request isn't refused
not_refused : (told : Option Traffic) (bytes : List ℕ) (request : Request) (rest : List ℕ)
    (refusal : Code) → Begins bytes (Whole request rest) → IsRefused told bytes refusal → ⊥
not_refused told bytes request rest refusal h (inl wrong) =
    let same = begins_unique bytes (Whole request rest) (Wrong refusal) h wrong in cc
not_refused told bytes request rest refusal h (inr (front, ended)) =
    let same = begins_unique bytes (Whole request rest) (Front refusal) h front in cc

refused_unique : (told : Option Traffic) (bytes : List ℕ) (one other : Code)
    → IsRefused told bytes one → IsRefused told bytes other → one ≡ other
refused_unique told bytes one other (inl h) (inl k) =
    let same = begins_unique bytes (Wrong one) (Wrong other) h k in cc
refused_unique told bytes one other (inl h) (inr (k, ended)) =
    let same = begins_unique bytes (Wrong one) (Front other) h k in cc
refused_unique told bytes one other (inr (h, ended)) (inl k) =
    let same = begins_unique bytes (Front one) (Wrong other) h k in cc
refused_unique told bytes one other (inr (h, ended)) (inr (k, ended')) =
    let same = begins_unique bytes (Front one) (Front other) h k in cc

-- the same bytes begin with one that is due alone
due_unique : (told : Option Traffic) (left : ℕ) (bytes : List ℕ) (one other : Due)
    (rest rest' : List ℕ) → IsDue told left bytes one rest → IsDue told left bytes other rest'
    → (one ≡ other) × (rest ≡ rest')
due_unique told left bytes (Ask request last) (Ask request' last') rest rest' (h, is) (k, is') =
    let same = begins_unique bytes (Whole request rest) (Whole request' rest') h k in
    let first : request ≡ request' = (cc) in
    let behind : rest ≡ rest' = (cc) in
    let flag : last ≡ last' = is ∙ ap (λ (r : Request). r.close || nat_le left 1) first ∙ sym is' in
    (rw (first, flag) refl, behind)
due_unique told left bytes (Ask request last) (Refuse refusal) rest rest' (h, is) (k, same) =
    absurd (not_refused told bytes request rest refusal h k)
due_unique told left bytes (Refuse refusal) (Ask request last) rest rest' (h, same) (k, is) =
    absurd (not_refused told bytes request rest' refusal k h)
due_unique told left bytes (Refuse refusal) (Refuse refusal') rest rest' (h, same) (k, same') =
    (ap (λ c. Refuse c) (refused_unique told bytes refusal refusal' h k), same ∙ sym same')

-- where no byte of a request came nothing is due
nothing_due : (told : Option Traffic) (left : ℕ) (bytes : List ℕ) (due : Due) (rest : List ℕ)
    → Begins bytes Nothing → IsDue told left bytes due rest → ⊥
nothing_due told left bytes (Ask request last) rest none (h, is) =
    let same = begins_unique bytes Nothing (Whole request rest) none h in cc
nothing_due told left bytes (Refuse refusal) rest none (inl h, same) =
    let same = begins_unique bytes Nothing (Wrong refusal) none h in cc
nothing_due told left bytes (Refuse refusal) rest none (inr (h, ended), same) =
    let same = begins_unique bytes Nothing (Front refusal) none h in cc

-- nothing is due at all, or something is
none_or_some : (told : Option Traffic) (left : ℕ) (bytes : List ℕ) (due : Due) (mid rest : List ℕ)
    → bytes ≡ rest → AreAll told [] rest → IsDue told left bytes due mid → ⊥
none_or_some told left bytes due mid rest is (inl last) here = cc
none_or_some told left bytes due mid rest is (inr (none, ended)) here =
    nothing_due told left bytes due mid (rw (← is) at none) here

-- what is behind the first
all_behind : (told : Option Traffic) (due : Due) (dues : List Due) (rest : List ℕ)
    → is_last due ≡ false → AreAll told (due ∷ dues) rest → AreAll told dues rest
all_behind told due dues rest goes_on (inl last) = inl (rw goes_on at last)
all_behind told due dues rest goes_on (inr none) = inr none

-- all that is due of the same bytes
pub all_unique : (told : Option Traffic) (left : ℕ) (bytes : List ℕ) (one other : List Due)
    (rest rest' : List ℕ) → Fronts told left bytes one rest → AreAll told one rest
    → Fronts told left bytes other rest' → AreAll told other rest' → (one ≡ other) × (rest ≡ rest')
all_unique told left bytes [] [] rest rest' h all k all' = (refl, sym h ∙ k)
all_unique told left bytes [] (due ∷ dues) rest rest' h all (mid, here, only, next) all' =
    absurd (none_or_some told left bytes due mid rest h all here)
all_unique told left bytes (due ∷ dues) [] rest rest' (mid, here, only, next) all k all' =
    absurd (none_or_some told left bytes due mid rest' k all' here)
all_unique told left bytes (due ∷ dues) (due' ∷ dues') rest rest' (mid, here, only, next) all
    (mid', here', only', next') all' =
    let same = due_unique told left bytes due due' mid mid' here here' in
    by (is_last due) refl same.0 same.1
    (λ (goes_on : is_last due ≡ false) (first : due ≡ due') (behind : mid ≡ mid').
    all_unique told (left - 1) mid dues dues' rest rest' next
    (all_behind told due dues rest goes_on all) (rw (← behind) at next')
    (all_behind told due' dues' rest' (rw first at goes_on) all'))
  where
    by : (last : Bool) → is_last due ≡ last → due ≡ due' → mid ≡ mid'
        → (is_last due ≡ false → due ≡ due' → mid ≡ mid' → (dues ≡ dues') × (rest ≡ rest'))
        → (due ∷ dues ≡ due' ∷ dues') × (rest ≡ rest')
    by true last first behind more =
        let none : dues ≡ [] = only last in
        let none' : dues' ≡ [] = only' (rw first at last) in
        let end : mid ≡ rest = rw none at next in
        let end' : mid' ≡ rest' = rw none' at next' in
        (rw (first, none, none') refl, sym end ∙ behind ∙ end')
    by false goes_on first behind more =
        let later = more goes_on first behind in (rw (first, later.0) refl, later.1)

-- those of which none is the last are the requests that the bytes begin with
pub dues_cuts : (told : Option Traffic) (left : ℕ) (bytes : List ℕ) (dues : List Due)
    (rest : List ℕ) → has_last dues ≡ false → Fronts told left bytes dues rest
    → Cuts bytes (requests_of dues) rest
dues_cuts told left bytes [] rest goes_on is = is
dues_cuts told left bytes (Ask request last ∷ dues) rest goes_on (mid, here, only, next) = (
  mid,
  here.0,
  dues_cuts told (left - 1) mid dues rest (open_parts (Ask request last) dues goes_on).1 next,
)
dues_cuts told left bytes (Refuse refusal ∷ dues) rest goes_on h = cc

-- one more in front
first_of : (front requests : List Request) (request request' : Request) → request' ≡ request
    → ((more : List Request) × (requests ≡ front ++ more))
    → (more : List Request) × (request' ∷ requests ≡ (request ∷ front) ++ more)
first_of front requests request request' same (more, is) = (more, rw (same, is) refl)

-- the requests that are due are the first of those that the bytes are cut into
pub dues_first : (told : Option Traffic) (left : ℕ) (bytes : List ℕ) (dues : List Due)
    (rest : List ℕ) (requests : List Request) (end : List ℕ) (piece : Piece)
    → Fronts told left bytes dues rest → Requests bytes requests end piece
    → (more : List Request) × (requests ≡ requests_of dues ++ more)
dues_first told left bytes dues rest requests end piece h k = by left bytes dues requests h k.cuts
  where
    is_whole : (request : Request) (mid : List ℕ) (last : Piece) → last ≡ Whole request mid
        → IsLast last → ⊥
    is_whole request mid (Whole _ _) is none = none
    is_whole request mid (Wrong _) is none = cc
    is_whole request mid (Front _) is none = cc
    is_whole request mid Nothing is none = cc

    by : (left : ℕ) (bytes : List ℕ) (dues : List Due) (requests : List Request)
        → Fronts told left bytes dues rest → Cuts bytes requests end
        → (more : List Request) × (requests ≡ requests_of dues ++ more)
    by left bytes [] requests h cuts = (requests, refl)
    by left bytes (Refuse refusal ∷ dues) requests (mid, here, only, next) cuts =
        (requests, rw (only refl) refl)
    by left bytes (Ask request last ∷ dues) [] (mid, here, only, next) cuts =
        absurd (is_whole request mid piece
        (begins_unique bytes piece (Whole request mid) (rw (← cuts) at k.begins) here.0) k.last)
    by left bytes (Ask request last ∷ dues) (request' ∷ requests) (mid, here, only, next)
        (mid', here', next') =
        let same = begins_unique bytes (Whole request mid) (Whole request' mid') here.0 here' in
        let first : request' ≡ request = (cc) in
        let behind : mid' ≡ mid = (cc) in
        first_of (requests_of dues) requests request request' first
        (by (left - 1) mid dues requests next (rw behind at next'))

-- ---- how many are due

or_last : (b : Bool) → (b || true) ≡ true
or_last true = refl
or_last false = refl

-- one that isn't the last leaves a reply
more_left : (told : Option Traffic) (left : ℕ) (bytes : List ℕ) (due : Due) (rest : List ℕ)
    → IsDue told left bytes due rest → is_last due ≡ false → 0 < left - 1
more_left told left bytes (Ask request last) rest (begins, is) goes_on = more (nat_le left 1) refl
  where
    more : (b : Bool) → nat_le left 1 ≡ b → 0 < left - 1
    more true at =
        let last : last ≡ true = is ∙ ap (λ b. request.close || b) at ∙ or_last request.close in
        absurd (cc (last, goes_on))
    more false at = grind (arith, nat_tests)
more_left told left bytes (Refuse refusal) rest is goes_on = cc

-- behind a last one there is none
pub fronts_tries : (told : Option Traffic) (left : ℕ) (bytes : List ℕ) (list : List Due)
    (rest : List ℕ) → 0 < left → Fronts told left bytes list rest → tries list ≤ left
fronts_tries told left bytes [] rest some fronts = omega arith
fronts_tries told left bytes (due ∷ list) rest some (mid, is, ends, fronts) =
    by (is_last due) refl (λ more. fronts_tries told (left - 1) mid list rest more fronts)
  where
    of : (last : Bool) → (if last then length list else length list + 1) ≤ left - 1 → 0 < left - 1
        → (if last then length (due ∷ list) else length (due ∷ list) + 1) ≤ left
    of true few more = omega (arith, few, more)
    of false few more = omega (arith, few, more)

    by : (last : Bool) → is_last due ≡ last → (0 < left - 1 → tries list ≤ left - 1)
        → tries (due ∷ list) ≤ left
    by true last few =
        let none : list ≡ [] = ends last in
        subst (λ list. tries (due ∷ list) ≤ left) (sym none) (rw last (omega (arith, some)))
    by false goes_on few =
        let more = more_left told left bytes due mid is goes_on in
        rw goes_on (of (has_last list) (few more) more)

pub fronts_few : (told : Option Traffic) (left : ℕ) (bytes : List ℕ) (list : List Due)
    (rest : List ℕ) → 0 < left → Fronts told left bytes list rest → length list ≤ left
fronts_few told left bytes list rest some fronts =
    by (has_last list) (fronts_tries told left bytes list rest some fronts)
  where
    by : (last : Bool) → (if last then length list else length list + 1) ≤ left → length list ≤ left
    by true few = few
    by false few = omega (arith, few)
