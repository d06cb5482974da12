-- The targets of annotations, and those of them that pass a test.
use Rattle.std.proofs.Common.{◌≡◌, ℕ, suc, ◌+◌, ◌<◌, List, [], ◌∷◌, ◌++◌, length, get_or, take, map, Bool, true, false, cond, ◌&&◌, ◌||◌, Option, Some, None, refl, sym, ap, ◌∙◌, arith, append-nil}
use Rattle.std.proofs.lemmas.List.{length-take-le, take_more}
use Rattle.std.proofs.lemmas.Grind.{flat_map-append}
use Rattle.std.proofs.lemmas.List.Elements.{filter-append}
use Rattle.std.specs.Prelude.{bytes_eq, filter, is_some, option_and_then, slice_get}
use Rattle.std.specs.List.{filter_map, flat_map, list_any}
use Rattle.an_iri.specs.Names.{names_in}
use Rattle.an_model.specs.Targets.{kept_target}
use Rattle.an_model.specs.declared.target.Target.{Target}
use Rattle.an_base.specs.Outcome.{passes}
use Rattle.an_policy.specs.Audience.{Identity}
use Rattle.an_state.specs.State.{NoteState, State}
use Rattle.an_state.specs.View.{View, readable_places, view_of}
use Rattle.an_list.proofs.ListedLemmas.{filter_same}
use Rattle.an_list.proofs.ReadableLemmas.{filter_both, readable_rows}
use Rattle.an_list.specs.Site.{Site}
use Rattle.an_pages.specs.Container.{notes_on}
use Rattle.an_anchor.specs.Comments.{is_about, is_lost_in, is_orphaned, numbered, row_targets, targets_on, texts_in}
use Rattle.an_anchor.specs.Walk.{is_comment, is_kept_about, is_kept_comment, is_lost}
use Rattle.an_anchor.specs.declared.comment.Comment.{Comment}

module _ (row : NoteState) where
  -- one target more
  pub numbered-more : (number : ℕ) (targets : List Target) (target : Target)
      → numbered row number (targets ++ target ∷ [])
      ≡ numbered row number targets ++ numbered row (number + length targets) (target ∷ [])
  numbered-more number [] target = ap (λ n. numbered row n (target ∷ [])) (omega arith)
  numbered-more number (first ∷ targets) target =
      ap (λ others. numbered row number (first ∷ []) ++ others)
      (numbered-more (number + 1) targets target
      ∙ ap (λ n. numbered row (number + 1) targets ++ numbered row n (target ∷ [])) (omega arith))

  -- what is kept of the targets is enough to count those about an annotation
  pub kept-count : (iri : List ℕ) (number : ℕ) (targets : List Target)
      → length (filter (is_kept_about iri) (map kept_target targets))
      ≡ length (filter (is_about iri) (numbered row number targets))
  kept-count iri number [] = refl
  kept-count iri number (target ∷ targets) =
      let next = kept-count iri (number + 1) targets in
      elim (bytes_eq target.source iri)
      as (λ b. length (cond b
      (kept_target target ∷ filter (is_kept_about iri) (map kept_target targets))
      (filter (is_kept_about iri) (map kept_target targets)))
      ≡ length (cond b (numbered row number (target ∷ [])
      ++ filter (is_about iri) (numbered row (number + 1) targets))
      (filter (is_about iri) (numbered row (number + 1) targets)))) [
        | true ↦ ap suc next
        | false ↦ next
      ]

  -- and to see that none is about any
  pub kept-none : (base : List ℕ) (number : ℕ) (targets : List Target)
      → list_any (is_kept_comment base) (map kept_target targets) ≡ false
      → filter (is_comment base) (numbered row number targets) ≡ []
  kept-none base number [] none = refl
  kept-none base number (target ∷ targets) none =
      by (kept-none base (number + 1) targets) (is_some (names_in base target.source)) none
    where
      by : (list_any (is_kept_comment base) (map kept_target targets) ≡ false
          → filter (is_comment base) (numbered row (number + 1) targets) ≡ [])
          → (b : Bool) → (b || list_any (is_kept_comment base) (map kept_target targets)) ≡ false
          → ◌≡◌ {A = List Comment} (cond b
          (numbered row number (target ∷ [])
          ++ filter (is_comment base) (numbered row (number + 1) targets))
          (filter (is_comment base) (numbered row (number + 1) targets))) []
      by others true none = absurd (cc none)
      by others false none = others none

  -- the target at a place more
  pub taken-more : (test : Comment → Bool) (targets : List Target) (i : ℕ) (target : Target)
      → i < length targets → target ≡ get_or targets i target
      → filter test (numbered row 0 (take (i + 1) targets))
      ≡ filter test (numbered row 0 (take i targets)) ++ filter test (numbered row i (target ∷ []))
  taken-more test targets i target within is =
      let count : 0 + length (take i targets) ≡ i =
      omega (arith, length-take-le i targets (omega (arith, within))) in
      ap (filter test) (ap (numbered row 0)
      (take_more targets i target within ∙ ap (λ t. take i targets ++ t ∷ []) (sym is))
      ∙ numbered-more 0 (take i targets) target
      ∙ ap (λ n. numbered row 0 (take i targets) ++ numbered row n (target ∷ [])) count)
      ∙ filter-append test (numbered row 0 (take i targets)) (numbered row i (target ∷ []))

-- the targets of one annotation more
pub targets-more : (test : Comment → Bool) (rows : List NoteState) (row : NoteState)
    → filter test (flat_map row_targets (rows ++ row ∷ []))
    ≡ filter test (flat_map row_targets rows) ++ filter test (row_targets row)
targets-more test rows row =
    ap (filter test) (flat_map-append row_targets rows (row ∷ [])
    ∙ ap (λ last. flat_map row_targets rows ++ last) (append-nil (row_targets row)))
    ∙ filter-append test (flat_map row_targets rows) (row_targets row)

-- the targets of the annotations at the readable places are those on the manifest
pub targets-read : (s : State) (who : Identity) (manifest : List ℕ)
    → flat_map row_targets (filter_map (slice_get s.notes) (readable_places s who manifest))
    ≡ targets_on (view_of s who) manifest
unfolding targets_on notes_on
targets-read s who manifest = ap (flat_map row_targets) (readable_rows s who manifest)

-- an orphan is a comment that is lost in the texts of what it is about
pub orphans-are : (site : Site) (view : View) (targets : List Comment)
    → filter (is_lost site.base view) (filter (is_comment site.base) targets)
    ≡ filter (is_orphaned site view) targets
orphans-are site view targets =
    filter_both (is_lost site.base view) (is_comment site.base) targets
    ∙ filter_same (λ comment. is_lost site.base view comment && is_comment site.base comment)
    (is_orphaned site view)
    (λ comment. same comment (names_in site.base comment.target.source)) targets
  where
    same : (comment : Comment) (names : Option (List ℕ × List ℕ))
        → (is_lost_in (option_and_then (texts_in view) names) comment && is_some names)
        ≡ passes (λ names. is_lost_in (texts_in view names) comment) names
    same comment None = refl
    same comment (Some names) = kept (is_lost_in (texts_in view names) comment)
      where
        kept : (b : Bool) → (b && true) ≡ b
        kept true = refl
        kept false = refl
