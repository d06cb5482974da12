-- What is gathered of each half of a list is what is gathered of all.
use Rattle.std.proofs.Common.{◌≡◌, ℕ, zero, suc, ◌+◌, List, [], ◌∷◌, ◌++◌, length, get_or, take, drop, Bool, true, false, ◌&&◌, ◌||◌, Bor, refl, sym, ap, subst, ◌∙◌, arith, append_assoc, append-nil}
use Rattle.std.specs.Prelude.{filter}
use Rattle.std.specs.List.{flat_map, list_any, sum_by}
use Rattle.std.proofs.lemmas.List.Sums.{sum_by-append}
use Rattle.an_policy.specs.Audience.{Identity}
use Rattle.an_slots.specs.Places.{ascending, places_from, Rises}
use Rattle.an_slots.proofs.GatheredLemmas.{Rises-kept}
use Rattle.an_slots.proofs.MergedLemmas.{merged}
use Rattle.an_slots.proofs.PlacesFromLemmas.{Rises-places_from}
use Rattle.an_slots.proofs.PlacesLemmas.{ascending-append, ascending_is}
use Rattle.an_state.specs.State.{State, NoteState}
use Rattle.an_state.specs.View.{View, view_of, is_on, shows_note, readable_places}
use Rattle.an_list.specs.Listed.{StandAt}
use Rattle.an_list.proofs.ListedLemmas.{filter_same}
use Rattle.an_list.proofs.ReadableLemmas.{filter_both, rows_at_places}
use Rattle.an_search.specs.Found.{is_wanted_at}
use Rattle.an_search.specs.Wanted.{matches}
use Rattle.an_search.specs.declared.wanted.Wanted.{Wanted}
use Rattle.an_search.proofs.FoundLemmas.{stand-wanted}
use Rattle.an_search.proofs.PlaceLemmas.{same_places, tested_places}
use Rattle.an_search.specs.Cost.{candidates}
use Rattle.an_search.specs.Search.{hits}
use Rattle.an_search.specs.Gathered.{find_cost_on, hits_at, hits_on, is_on_one, lent_names}

-- ---- halves

flat-append : (f : List ℕ → List ℕ) (xs ys : List (List ℕ))
    → flat_map f (xs ++ ys) ≡ flat_map f xs ++ flat_map f ys
flat-append f [] ys = refl
flat-append f (x ∷ xs) ys =
    ap (λ (l : List ℕ). f x ++ l) (flat-append f xs ys)
    ∙ sym (append_assoc (f x) (flat_map f xs) (flat_map f ys))

lent-halves : (n : ℕ) (ls : List (Bor (List ℕ)))
    → lent_names (take n ls) ++ lent_names (drop n ls) ≡ lent_names ls
lent-halves zero ls = refl
lent-halves (suc n) [] = refl
lent-halves (suc n) (l ∷ ls) = ap (λ (xs : List (List ℕ)). l.now ∷ xs) (lent-halves n ls)

pub places-halves : (f : List ℕ → List ℕ) (n : ℕ) (ls : List (Bor (List ℕ)))
    → ascending (ascending (flat_map f (lent_names (take n ls)))
    ++ ascending (flat_map f (lent_names (drop n ls)))) ≡ ascending (flat_map f (lent_names ls))
places-halves f n ls =
    ascending-append (flat_map f (lent_names (take n ls))) (flat_map f (lent_names (drop n ls)))
    ∙ ap ascending (sym (flat-append f (lent_names (take n ls)) (lent_names (drop n ls)))
    ∙ ap (flat_map f) (lent-halves n ls))

pub sum-halves : (f : List ℕ → ℕ) (n : ℕ) (ls : List (Bor (List ℕ)))
    → sum_by f (lent_names (take n ls)) + sum_by f (lent_names (drop n ls))
    ≡ sum_by f (lent_names ls)
sum-halves f n ls =
    sym (sum_by-append f (lent_names (take n ls)) (lent_names (drop n ls)))
    ∙ ap (sum_by f) (lent-halves n ls)

-- ---- one manifest

pub hits-rise : (s : State) (who : Identity) (wanted : Wanted) (manifest : List ℕ)
    → Rises 0 (hits_at s who wanted manifest)
hits-rise s who wanted manifest =
    Rises-kept (is_wanted_at s.notes wanted) 0 (readable_places s who manifest)
    (Rises-places_from (λ row. is_on manifest row && shows_note s who row) 0 s.notes)

one-of : (ls : List (Bor (List ℕ))) (d : Bor (List ℕ)) → length ls ≡ 1
    → lent_names ls ≡ (get_or ls 0 d).now ∷ []
one-of [] d is = absurd (omega arith)
one-of (l ∷ []) d is = refl
one-of (l ∷ m ∷ ls) d is = absurd (omega arith)

pub one-hits : (f : List ℕ → List ℕ) (ls : List (Bor (List ℕ))) (item : Bor (List ℕ))
    → item ≡ get_or ls 0 item → length ls ≡ 1 → Rises 0 (f item.now)
    → f item.now ≡ ascending (flat_map f (lent_names ls))
one-hits f ls item at is rises =
    sym (ap (λ names. ascending (flat_map f names)) (one-of ls item is)
    ∙ ap ascending (append-nil (f (get_or ls 0 item).now))
    ∙ ap (λ (l : Bor (List ℕ)). ascending (f l.now)) (sym at)
    ∙ ascending_is (f item.now) rises)

pub one-sum : (f : List ℕ → ℕ) (ls : List (Bor (List ℕ))) (d : Bor (List ℕ)) → length ls ≡ 1
    → sum_by f (lent_names ls) ≡ f (get_or ls 0 d).now
one-sum f ls d is = ap (sum_by f) (one-of ls d is) ∙ omega arith

none-of : (ls : List (Bor (List ℕ))) → length ls ≡ 0 → lent_names ls ≡ []
none-of [] is = refl
none-of (l ∷ ls) is = absurd (omega arith)

pub none-hits : (f : List ℕ → List ℕ) (ls : List (Bor (List ℕ))) → length ls ≡ 0
    → ascending (flat_map f (lent_names ls)) ≡ []
none-hits f ls is = ap (λ names. ascending (flat_map f names)) (none-of ls is)

pub none-sum : (f : List ℕ → ℕ) (ls : List (Bor (List ℕ))) → length ls ≡ 0
    → sum_by f (lent_names ls) ≡ 0
none-sum f ls is = ap (sum_by f) (none-of ls is)

-- ---- all manifests

any-and : {A : Type 0} (p : A → Bool) (a b : Bool) (xs : List A)
    → list_any (λ x. (p x && a) && b) xs ≡ ((list_any p xs && a) && b)
any-and p a b [] = refl
any-and p a b (x ∷ xs) =
    ap (λ t. ((p x && a) && b) || t) (any-and p a b xs) ∙ mix (p x) (list_any p xs) a b
  where
    mix : (p q a b : Bool) → (((p && a) && b) || ((q && a) && b)) ≡ (((p || q) && a) && b)
    mix true true true true = refl
    mix true true true false = refl
    mix true true false b = refl
    mix true false true true = refl
    mix true false true false = refl
    mix true false false b = refl
    mix false q a b = refl

flat-same : (f g : List ℕ → List ℕ) → ((m : List ℕ) → f m ≡ g m) → (ms : List (List ℕ))
    → flat_map f ms ≡ flat_map g ms
flat-same f g same [] = refl
flat-same f g same (m ∷ ms) = rw (same m, flat-same f g same ms) refl

module _ (s : State) (who : Identity) (wanted : Wanted) (manifests : List (List ℕ)) where
  abbrev on_one : NoteState → Bool
  on_one row = is_on_one manifests row && shows_note s who row

  pub gathered-places : ascending (flat_map (hits_at s who wanted) manifests)
      ≡ filter (is_wanted_at s.notes wanted) (places_from on_one 0 s.notes)
  gathered-places =
      ap ascending (flat-same (hits_at s who wanted)
      (λ m.
      places_from (λ row. (is_on m row && shows_note s who row) && matches wanted row) 0 s.notes)
      (λ m. tested_places (matches wanted) (λ row. is_on m row && shows_note s who row) [] s.notes)
      manifests)
      ∙ merged (λ m row. (is_on m row && shows_note s who row) && matches wanted row)
      s.notes manifests
      ∙ same_places
      (λ row. list_any (λ m. (is_on m row && shows_note s who row) && matches wanted row) manifests)
      (λ row. on_one row && matches wanted row) 0 s.notes
      (λ row. any-and (λ m. is_on m row) (shows_note s who row) (matches wanted row) manifests)
      ∙ sym (tested_places (matches wanted) on_one [] s.notes)

  -- the hits of the view stand at the places that are gathered
  pub gathered-stand : StandAt s.notes (ascending (flat_map (hits_at s who wanted) manifests))
      (hits_on (view_of s who) manifests wanted)
  unfolding hits_on
  gathered-stand =
      subst (λ places. StandAt s.notes places
      (filter (matches wanted) (filter (is_on_one manifests) (filter (shows_note s who) s.notes))))
      (sym gathered-places)
      (subst (λ rows. StandAt s.notes
      (filter (is_wanted_at s.notes wanted) (places_from on_one 0 s.notes))
      (filter (matches wanted) rows))
      (rows_at_places on_one [] s.notes
      ∙ sym (filter_both (is_on_one manifests) (shows_note s who) s.notes))
      (stand-wanted s.notes wanted (places_from on_one 0 s.notes)))

-- ---- one manifest is a list of one

or_false : (b : Bool) → (b || false) ≡ b
or_false true = refl
or_false false = refl

pub hits-one : (view : View) (manifest : List ℕ) (wanted : Wanted)
    → hits_on view (manifest ∷ []) wanted ≡ hits view manifest wanted
unfolding hits_on hits
hits-one view manifest wanted =
    ap (filter (matches wanted))
    (filter_same (is_on_one (manifest ∷ [])) (is_on manifest)
    (λ row. or_false (is_on manifest row)) view.notes)

pub find_cost-one : (view : View) (manifest : List ℕ) (terms : List (List ℕ))
    → find_cost_on view (manifest ∷ []) terms ≡ length (candidates view manifest terms)
find_cost-one view manifest terms = omega arith
