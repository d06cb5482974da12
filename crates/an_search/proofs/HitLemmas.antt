-- Hits are found among the candidates.
use Rattle.std.proofs.Common.{◌≡◌, ℕ, List, [], ◌∷◌, length, Bool, true, false, ◌&&◌, not, Option, Some, None, refl, sym, ap, ◌∙◌, ⊎_elim, arith}
use Rattle.std.proofs.lemmas.Bool.{and_from, and_parts, both_ways, cases_Bool, not_from_false, or_cases, or_right}
use Rattle.std.proofs.lemmas.Bool.Decides.{nat_tests}
use Rattle.std.proofs.lemmas.Slice.Eq.{bytes_eq-Decides}
use Rattle.std.specs.Prelude.{bytes_eq, filter, ◌==◌}
use Rattle.std.specs.List.{list_all}
use Rattle.an_base.specs.TextSet.{has_text}
use Rattle.an_model.specs.Bodies.{note_terms}
use Rattle.an_policy.specs.Audience.{Identity}
use Rattle.an_slots.proofs.GatheredLemmas.{Rises-kept}
use Rattle.an_slots.proofs.PlacesFromLemmas.{Rises-places_from}
use Rattle.an_state.specs.State.{State, NoteState, LiveNote}
use Rattle.an_state.specs.Terms.{has_term}
use Rattle.an_state.specs.Places.{places_from, Rises}
use Rattle.an_state.specs.View.{view_of, is_on, is_sought, is_within, shows_note, sought_places}
use Rattle.an_list.proofs.ListedLemmas.{filter_same}
use Rattle.an_list.proofs.ReadableLemmas.{filter_both, length-places, readable_count}
use Rattle.an_query.specs.declared.dates.DateRange.{DateRange}
use Rattle.an_search.specs.Cost.{candidates}
use Rattle.an_search.specs.Found.{candidate_places, is_first, is_suited_at, is_wanted_at, suits, with_terms}
use Rattle.an_search.specs.Wanted.{fits_but_terms, matches, wants_terms_alone}
use Rattle.an_search.specs.declared.wanted.Wanted.{Wanted}
use Rattle.an_search.proofs.PlaceLemmas.{common_places, same_places, tested_places}
use Rattle.an_search.proofs.SetLemmas.{all_from, all_passes, first_text, same_bool}

-- ---- where terms alone are wanted

is_some : {A : Type 0} (x : A) (xs : List A) → (length (x ∷ xs) == 0) ≡ false
is_some x xs = grind (arith, nat_tests)

fits_alone : (iris terms motivations : List (List ℕ)) (ranges : List DateRange)
    (users : List (List ℕ)) (live : LiveNote)
    → wants_terms_alone (record {
      iris = iris;
      terms = terms;
      motivations = motivations;
      ranges = ranges;
      users = users;
    }) ≡ true
    → fits_but_terms (record {
      iris = iris;
      terms = terms;
      motivations = motivations;
      ranges = ranges;
      users = users;
    }) live ≡ true
fits_alone [] terms [] [] [] live alone = refl
fits_alone [] terms [] [] (user ∷ users) live alone = cc (is_some user users)
fits_alone [] terms [] (range ∷ ranges) users live alone = cc (is_some range ranges)
fits_alone [] terms (motivation ∷ motivations) ranges users live alone =
    cc (is_some motivation motivations)
fits_alone (iri ∷ iris) terms motivations ranges users live alone = cc (is_some iri iris)

-- each annotation has what is wanted but for them
pub alone_fits : (wanted : Wanted) (live : LiveNote) → wants_terms_alone wanted ≡ true
    → fits_but_terms wanted live ≡ true
alone_fits wanted live alone =
    fits_alone wanted.iris wanted.terms wanted.motivations wanted.ranges wanted.users live alone

pub alone_suits : (wanted : Wanted) (row : NoteState) → wants_terms_alone wanted ≡ true
    → suits wanted row ≡ true
alone_suits wanted row alone =
    elim row.live as (λ live. suits wanted (record row { live = live }) ≡ true) [
      | None ↦ refl
      | Some live ↦ alone_fits wanted live alone
    ]

-- ---- tests of one annotation

both_last : (a b c : Bool) → ((a && b) && c) ≡ (a && (b && c))
both_last true b c = refl
both_last false b c = refl

and_true : (a : Bool) → a ≡ (a && true)
and_true true = refl
and_true false = refl

either_first : (a b : Bool) → (a && b) ≡ (b && a)
either_first true true = refl
either_first true false = refl
either_first false true = refl
either_first false false = refl

one_after_another : (may has suited : Bool) (each : List ℕ → Bool) (others terms : List (List ℕ))
    → (has ≡ true → list_all each others ≡ list_all each terms)
    → (((may && has) && suited) && list_all (λ term. may && each term) others)
    ≡ (may && ((has && list_all each terms) && suited))
one_after_another false has suited each others terms same = refl
one_after_another true false suited each others terms same = refl
one_after_another true true suited each others terms same =
    ap (λ b. suited && b) (same refl) ∙ either_first suited (list_all each terms)

-- what was deleted is found in neither way
gone_either : (within suited others : Bool)
    → ((((within && false) && false) && suited) && others) ≡ ((within && false) && false)
gone_either true suited others = refl
gone_either false suited others = refl

none_either : (within : Bool) → ((within && false) && true) ≡ ((within && false) && false)
none_either true = refl
none_either false = refl

-- ---- the terms but for the first

-- these are the terms but for the first, in any order
abbrev pub AreOthers : List (List ℕ) → List (List ℕ) → Type 0
AreOthers terms others =
    (term : List ℕ) → has_text term others ≡ (has_text term terms && not (is_first term terms))

-- where no term is, there are no others
no_others : (others : List (List ℕ)) → AreOthers [] others → others ≡ []
no_others [] are = refl
no_others (other ∷ others) are = absurd (both_ways _ (are other) (first_text other others))

-- what passes the first passes each of the others where it passes each behind the first
others_pass : (test : List ℕ → Bool) (first : List ℕ) (terms others : List (List ℕ))
    → AreOthers (first ∷ terms) others → test first ≡ true
    → list_all test others ≡ list_all test terms
others_pass test first terms others are passes =
    same_bool (list_all test others) (list_all test terms) behind before
  where
    same : (term : List ℕ) → bytes_eq first term ≡ true → test term ≡ true
    same term is = sym (ap test ((bytes_eq-Decides first term).0 is)) ∙ passes

    behind : list_all test others ≡ true → list_all test terms ≡ true
    behind all = all_from test terms (λ term there. passes_too term there)
      where
        passes_too : (term : List ℕ) → has_text term terms ≡ true → test term ≡ true
        passes_too term there =
            ⊎_elim (same term)
            (λ other. all_passes test others term all
            (are term
            ∙ and_from _ _ (or_right (bytes_eq first term) (has_text term terms) there)
            (not_from_false _ other)))
            (cases_Bool (bytes_eq first term))

    before : list_all test terms ≡ true → list_all test others ≡ true
    before all = all_from test others (λ term there. passes_too term there)
      where
        passes_too : (term : List ℕ) → has_text term others ≡ true → test term ≡ true
        passes_too term there =
            let parts =
            and_parts (has_text term (first ∷ terms)) (not (bytes_eq first term))
            (sym (are term) ∙ there) in
            ⊎_elim (same term) (all_passes test terms term all)
            (or_cases (bytes_eq first term) (has_text term terms) parts.0)

-- ---- places

module _ (s : State) (who : Identity) (manifest : Option (List ℕ)) where
  abbrev may : NoteState → Bool
  may row = is_sought s who manifest row

  abbrev has : List ℕ → NoteState → Bool
  has term row = may row && has_term term row

  with_each : (kept : NoteState → Bool) (terms : List (List ℕ))
      → with_terms s who manifest (places_from kept 0 s.notes) terms
      ≡ places_from (λ row. kept row && list_all (λ term. has term row) terms) 0 s.notes
  with_each kept [] =
      same_places kept (λ row. kept row && true) 0 s.notes (λ row. and_true (kept row))
  with_each kept (term ∷ terms) =
      ap (λ places. with_terms s who manifest places terms)
      (common_places kept (has term) 0 s.notes)
      ∙ with_each (λ row. kept row && has term row) terms
      ∙ same_places (λ row. (kept row && has term row) && list_all (λ term. has term row) terms)
      (λ row. kept row && list_all (λ term. has term row) (term ∷ terms)) 0 s.notes
      (λ row. both_last (kept row) (has term row) (list_all (λ term. has term row) terms))

  -- what is wanted of an annotation, and what is asked of it in turn
  in_turn : (wanted : Wanted) (term : List ℕ) (terms others : List (List ℕ)) (row : NoteState)
      → wanted.terms ≡ term ∷ terms → AreOthers (term ∷ terms) others
      → ((has term row && suits wanted row) && list_all (λ term. has term row) others)
      ≡ (may row && matches wanted row)
  in_turn wanted term terms others row are those = elim row.live as (λ live.
      ((has term (record row { live = live }) && suits wanted (record row { live = live }))
      && list_all (λ term. has term (record row { live = live })) others)
      ≡ (may (record row { live = live }) && matches wanted (record row { live = live }))) [
        | None ↦
            gone_either (is_within s who manifest (record row { live = None }))
            (suits wanted (record row { live = None }))
            (list_all (λ term. has term (record row { live = None })) others)
        | Some live ↦
            let each : List ℕ → Bool = λ term. has_text term (note_terms live.tree) in
            rw are (one_after_another (may (record row { live = Some live }))
            (each term) (fits_but_terms wanted live) each others terms
            (others_pass each term terms others those))
      ]

  no_terms : (wanted : Wanted) (row : NoteState) → wanted.terms ≡ []
      → (may row && suits wanted row) ≡ (may row && matches wanted row)
  no_terms wanted row none =
      elim row.live as (λ live.
      (may (record row { live = live }) && suits wanted (record row { live = live }))
      ≡ (may (record row { live = live }) && matches wanted (record row { live = live }))) [
        | None ↦ none_either (is_within s who manifest (record row { live = None }))
        | Some live ↦ rw none refl
      ]

  -- the wanted places are those of the candidates that suit and have each other term
  wanted_places : (wanted : Wanted) (terms others : List (List ℕ)) → wanted.terms ≡ terms
      → AreOthers terms others
      → with_terms s who manifest
      (filter (is_suited_at s.notes wanted) (candidate_places s who manifest terms)) others
      ≡ filter (is_wanted_at s.notes wanted) (sought_places s who manifest)
  wanted_places wanted [] others none those =
      ap (with_terms s who manifest
      (filter (is_suited_at s.notes wanted) (candidate_places s who manifest [])))
      (no_others others those)
      ∙ tested_places (suits wanted) may [] s.notes
      ∙ same_places (λ row. may row && suits wanted row)
      (λ row. may row && matches wanted row) 0 s.notes (λ row. no_terms wanted row none)
      ∙ sym (tested_places (matches wanted) may [] s.notes)
  wanted_places wanted (term ∷ terms) others are those =
      ap (λ places. with_terms s who manifest places others)
      (tested_places (suits wanted) (has term) [] s.notes)
      ∙ with_each (λ row. has term row && suits wanted row) others
      ∙ same_places
      (λ row. (has term row && suits wanted row) && list_all (λ term. has term row) others)
      (λ row. may row && matches wanted row) 0 s.notes
      (λ row. in_turn wanted term terms others row are those)
      ∙ sym (tested_places (matches wanted) may [] s.notes)

  pub found_places : (wanted : Wanted) (others : List (List ℕ)) → AreOthers wanted.terms others
      → with_terms s who manifest
      (filter (is_suited_at s.notes wanted) (candidate_places s who manifest wanted.terms)) others
      ≡ filter (is_wanted_at s.notes wanted) (sought_places s who manifest)
  found_places wanted others those = wanted_places wanted wanted.terms others refl those

  -- of no places none have terms
  pub none_having : (terms : List (List ℕ)) → with_terms s who manifest [] terms ≡ []
  none_having [] = refl
  none_having (term ∷ terms) = none_having terms

-- there are as many candidates on a manifest as the view has there
pub candidate_count : (s : State) (who : Identity) (manifest : List ℕ) (terms : List (List ℕ))
    → length (candidate_places s who (Some manifest) terms)
    ≡ length (candidates (view_of s who) manifest terms)
unfolding candidates
candidate_count s who manifest [] = readable_count s who manifest
candidate_count s who manifest (term ∷ terms) =
    let may : NoteState → Bool = is_sought s who (Some manifest) in
    length-places (λ row. may row && has_term term row) 0 s.notes
    ∙ ap length (filter_same (λ row. may row && has_term term row)
    (λ row. has_term term row && may row)
    (λ row. either_first (may row) (has_term term row)) s.notes
    ∙ sym (filter_both (has_term term) may s.notes)
    ∙ ap (filter (has_term term)) (sym (filter_both (is_on manifest) (shows_note s who) s.notes)))

-- ---- places in order

candidates_rise : (s : State) (who : Identity) (manifest : Option (List ℕ)) (terms : List (List ℕ))
    → Rises 0 (candidate_places s who manifest terms)
candidates_rise s who manifest [] = Rises-places_from (is_sought s who manifest) 0 s.notes
candidates_rise s who manifest (term ∷ terms) =
    Rises-places_from (λ row. is_sought s who manifest row && has_term term row) 0 s.notes

-- those of the candidates that suit stand one behind another
pub suited_rise : (s : State) (who : Identity) (manifest : Option (List ℕ)) (wanted : Wanted)
    → Rises 0 (filter (is_suited_at s.notes wanted) (candidate_places s who manifest wanted.terms))
suited_rise s who manifest wanted =
    Rises-kept (is_suited_at s.notes wanted) 0 (candidate_places s who manifest wanted.terms)
    (candidates_rise s who manifest wanted.terms)

-- ---- where only terms are wanted all candidates suit

alone_in : (s : State) (wanted : Wanted) (kept : NoteState → Bool) → wants_terms_alone wanted ≡ true
    → filter (is_suited_at s.notes wanted) (places_from kept 0 s.notes) ≡ places_from kept 0 s.notes
alone_in s wanted kept alone =
    tested_places (suits wanted) kept [] s.notes
    ∙ same_places (λ row. kept row && suits wanted row) kept 0 s.notes
    (λ row. ap (λ b. kept row && b) (alone_suits wanted row alone) ∙ sym (and_true (kept row)))

pub alone_places : (s : State) (who : Identity) (manifest : Option (List ℕ)) (wanted : Wanted)
    (terms : List (List ℕ)) → wants_terms_alone wanted ≡ true
    → filter (is_suited_at s.notes wanted) (candidate_places s who manifest terms)
    ≡ candidate_places s who manifest terms
alone_places s who manifest wanted [] alone = alone_in s wanted (is_sought s who manifest) alone
alone_places s who manifest wanted (term ∷ terms) alone =
    alone_in s wanted (λ row. is_sought s who manifest row && has_term term row) alone
