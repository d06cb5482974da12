-- The annotations whose terms are counted.
use Rattle.std.proofs.Common.{◌≡◌, ℕ, List, [], ◌∷◌, length, Bool, true, false, cond, ◌&&◌, Option, Some, None, refl, sym, ap, ◌∙◌, arith}
use Rattle.std.proofs.lemmas.Bool.Decides.{nat_tests}
use Rattle.std.specs.Prelude.{IsTrue, filter, slice_get, ◌==◌}
use Rattle.std.specs.List.{filter_map, sum_by}
use Rattle.an_policy.specs.Audience.{Identity}
use Rattle.an_state.specs.State.{State, NoteState, LiveNote, manifests_are_distinct}
use Rattle.an_state.specs.Terms.{terms_with_prefix, totals_in}
use Rattle.an_state.specs.View.{view_of, is_on, is_sought, is_within, shows_note, sought_places}
use Rattle.an_model.specs.Bodies.{note_terms}
use Rattle.an_search.proofs.HitLemmas.{alone_fits}
use Rattle.an_list.proofs.ReadableLemmas.{filter_both, readable_count, rows_at_places}
use Rattle.an_list.proofs.ListedLemmas.{filter_same}
use Rattle.an_search.specs.Wanted.{fits, fits_but_terms, has_all, matches, wants_nothing, wants_terms_alone}
use Rattle.an_search.specs.declared.wanted.Wanted.{Wanted}
use Rattle.an_search.specs.Cost.{candidates}
use Rattle.an_search.specs.Gathered.{all_names}
use Rattle.an_search.proofs.AllLemmas.{all-count, all-rows}
use Rattle.an_search.proofs.ApartLemmas.{sum-none}
use Rattle.an_complete.specs.Complete.{asked_notes, asked_notes_on}
use Rattle.an_complete.specs.Cost.{filter_cost, filter_cost_on, sought_cost}

-- ---- where nothing is wanted

is_some : {A : Type 0} (x : A) (xs : List A) → (length (x ∷ xs) == 0) ≡ false
is_some x xs = grind (arith, nat_tests)

no_term : (terms : List (List ℕ)) (alone : Bool) → ((length terms == 0) && alone) ≡ true
    → (terms ≡ []) × (alone ≡ true)
no_term [] alone none = (refl, none)
no_term (term ∷ terms) alone none = absurd (cc (is_some term terms))

all_fit : (wanted : Wanted) (live : LiveNote) → wants_nothing wanted ≡ true
    → fits wanted live ≡ true
all_fit wanted live none =
    let alone = no_term wanted.terms (wants_terms_alone wanted) none in
    ap (λ terms. has_all terms (note_terms live.tree) && fits_but_terms wanted live) alone.0
    ∙ alone_fits wanted live alone.1

and-false : (b : Bool) → (b && false) ≡ false
and-false true = refl
and-false false = refl

module _ (s : State) (who : Identity) (manifest : Option (List ℕ)) where
  -- an annotation that the caller may read is live, so it fits
  sought_and_fits : (wanted : Wanted) (row : NoteState) → wants_nothing wanted ≡ true
      → (matches wanted row && is_sought s who manifest row) ≡ is_sought s who manifest row
  sought_and_fits wanted row none =
      elim row.live as (λ live. (matches wanted (record row { live = live })
      && is_sought s who manifest (record row { live = live }))
      ≡ is_sought s who manifest (record row { live = live })) [
        | None ↦ sym (and-false (is_within s who manifest (record row { live = None })))
        | Some live ↦
            ap (λ fit. fit && is_sought s who manifest (record row { live = Some live }))
            (all_fit wanted live none)
      ]

  pub all_asked : (prefix : List ℕ) (wanted : Wanted) → wants_nothing wanted ≡ true
      → terms_with_prefix s who manifest prefix
      ≡ totals_in prefix (filter (matches wanted) (filter (is_sought s who manifest) s.notes))
  unfolding terms_with_prefix
  all_asked prefix wanted none =
      ap (totals_in prefix)
      (sym (filter_same (λ row. matches wanted row && is_sought s who manifest row)
      (is_sought s who manifest) (λ row. sought_and_fits wanted row none) s.notes)
      ∙ sym (filter_both (matches wanted) (is_sought s who manifest) s.notes))

  pub asked_at_places : (wanted : Wanted) (places : List ℕ) → places ≡ sought_places s who manifest
      → filter (matches wanted) (filter_map (slice_get s.notes) places)
      ≡ filter (matches wanted) (filter (is_sought s who manifest) s.notes)
  asked_at_places wanted places are =
      ap (λ ps. filter (matches wanted) (filter_map (slice_get s.notes) ps)) are
      ∙ ap (filter (matches wanted)) (rows_at_places (is_sought s who manifest) [] s.notes)

-- ---- on one manifest, and on all of the view

pub on_manifest : (s : State) (who : Identity) (manifest : List ℕ) (wanted : Wanted)
    → filter (matches wanted) (filter (is_sought s who (Some manifest)) s.notes)
    ≡ asked_notes (view_of s who) manifest wanted
on_manifest s who manifest wanted =
    ap (filter (matches wanted)) (sym (filter_both (is_on manifest) (shows_note s who) s.notes))

pub manifest_cost : (s : State) (who : Identity) (manifest : List ℕ) (wanted : Wanted)
    → sought_cost s who (Some manifest) wanted ≡ filter_cost (view_of s who) manifest wanted
manifest_cost s who manifest wanted =
    ap (λ n. cond (wants_nothing wanted) 0 n) (readable_count s who manifest)

module _ (s : State) (who : Identity) (distinct : IsTrue (manifests_are_distinct s)) where
  pub on_all : (wanted : Wanted)
      → filter (matches wanted) (filter (is_sought s who None) s.notes)
      ≡ asked_notes_on (view_of s who) (all_names (view_of s who)) wanted
  on_all wanted = ap (filter (matches wanted)) (all-rows s who distinct)

  pub all_cost : (wanted : Wanted)
      → sought_cost s who None wanted
      ≡ filter_cost_on (view_of s who) wanted (all_names (view_of s who))
  unfolding candidates
  all_cost wanted =
      elim (wants_nothing wanted)
      as (λ b. cond b 0 (length (sought_places s who None))
      ≡ sum_by (λ m. cond b 0 (length (filter (is_on m) (view_of s who).notes)))
      (all_names (view_of s who))) [
        | true ↦ sym (sum-none (all_names (view_of s who)))
        | false ↦ all-count s who distinct []
      ]
