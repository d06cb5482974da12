-- The rows of the classes that are read are those that the caller may read.
use Rattle.std.proofs.Common.{◌≡◌, ℕ, ◌+◌, Bool, true, false, cond, ◌&&◌, List, [], ◌∷◌, filter, map, Option, Some, None, sym, ap, ◌∙◌, subst, refl}
use Rattle.std.specs.Prelude.{bytes_eq, IfOk, Result, Ok, Err}
use Rattle.std.specs.List.{AllByRecursion, flat_map, list_any}
use Rattle.std.proofs.lemmas.List.Folds.{flat_map-map}
use Rattle.an_base.specs.Totals.{totals_of, with_prefix}
use Rattle.an_base.proofs.AscendLemmas.{bytes_eq-turned}
use Rattle.an_base.proofs.TotalLemmas.{has_text-totals}
use Rattle.an_postings.specs.Totals.{Climbs, told_from}
use Rattle.an_postings.proofs.WordLemmas.{CountsWords, live-counts, tombstone-counts, words-told}
use Rattle.an_model.specs.Bodies.{note_terms}
use Rattle.an_postings.specs.Postings.{Lists, places_in}
use Rattle.an_postings.specs.declared.class_postings.ClassPostings.{ClassPostings}
use Rattle.an_slots.specs.Places.{Rises, ascending, has, places_from}
use Rattle.an_slots.specs.Rows.{Row, is_in}
use Rattle.an_slots.specs.Slot.{slot_of}
use Rattle.an_slots.specs.Texts.{under}
use Rattle.an_slots.proofs.GatheredLemmas.{gathered-shown, has-kept, kept-shown, Rises-kept}
use Rattle.an_state.specs.State.{LiveNote}
use Rattle.an_state.specs.Terms.{has_term, terms_of_row, totals_in}
use Rattle.an_state.specs.View.{is_on}
use Rattle.an_listed.specs.Filed.{is_under}
use Rattle.an_listed.specs.Keys.{keyed, keys_by}
use Rattle.an_listed.specs.Stands.{AreOf, Stands, kind_within, lists_within, text_within}
use Rattle.an_listed.specs.declared.filed.Filed.{Filed}
use Rattle.an_listed.specs.declared.kind.Kind.TheVariants.{Whole}
use Rattle.an_listed.specs.declared.register.Register.{Register}
use Rattle.an_listed.proofs.KeyLemmas.{any-term}

-- ---- answers

pub if_both : {X E : Type 0} (r : Result X E) (P Q R : X → Type 0) → ((x : X) → P x → Q x → R x)
    → IfOk r P → IfOk r Q → IfOk r R
if_both (Ok x) P Q R f p q = f x p q
if_both (Err e) P Q R f p q = tt

-- ---- one row

always : (b : Bool) → (b && true) ≡ b
always true = refl
always false = refl

whole-in : (m : List ℕ) (passes : ℕ → Bool) (row : Filed)
    → is_in m [] passes (keys_by Whole row) ≡ (is_on m row.note && passes row.class)
whole-in m passes row = by row.note.live refl
  where
    by : (live : Option LiveNote) → row.note.live ≡ live
        → is_in m [] passes (keys_by Whole row) ≡ (is_on m row.note && passes row.class)
    by None is = rw is refl
    by (Some live) is =
        rw is (always (bytes_eq m live.manifest && passes row.class)
        ∙ ap (λ (b : Bool). b && passes row.class) (bytes_eq-turned m live.manifest))

module _ (sought : Option (List ℕ)) (row : Filed) where
  text-under : (live : LiveNote) → row.note.live ≡ Some live → (keys : Row)
      → keys.manifest ≡ live.manifest
      → bytes_eq (text_within sought) (keyed (kind_within sought) keys).manifest
      ≡ is_under sought row.note
  text-under live is keys same = by sought
    where
      by : (sought : Option (List ℕ))
          → bytes_eq (text_within sought) (keyed (kind_within sought) keys).manifest
          ≡ is_under sought row.note
      by None = rw is refl
      by (Some m) = rw is (ap (bytes_eq m) same ∙ bytes_eq-turned m live.manifest)

  pub words-in : (passes : ℕ → Bool) (t : List ℕ)
      → is_in (text_within sought) t passes (keys_by (kind_within sought) row)
      ≡ ((is_under sought row.note && passes row.class) && has_term t row.note)
  words-in passes t = by sought row.note.live refl
    where
      by : (sought : Option (List ℕ)) (live : Option LiveNote) → row.note.live ≡ live
          → is_in (text_within sought) t passes (keys_by (kind_within sought) row)
          ≡ ((is_under sought row.note && passes row.class) && has_term t row.note)
      by None None is = rw is refl
      by (Some m) None is = rw is refl
      by None (Some live) is =
          rw is (ap (λ (b : Bool). passes row.class && b)
          (any-term t (totals_of (note_terms live.tree))
          ∙ has_text-totals t (note_terms live.tree)))
      by (Some m) (Some live) is = rw is (
          ap (λ (b : Bool). (b && passes row.class)
          && list_any (λ x. bytes_eq t x.term) (totals_of (note_terms live.tree)))
          (bytes_eq-turned m live.manifest)
          ∙ ap (λ (b : Bool). (bytes_eq live.manifest m && passes row.class) && b)
          (any-term t (totals_of (note_terms live.tree))
          ∙ has_text-totals t (note_terms live.tree)))

-- ---- places

-- where rows pass one test, they pass another that comes to the same
places-viewed : {A : Type 0} (p q : A → Bool) (place : ℕ) (rows : List A)
    → ((row : A) → p row ≡ q row) → places_from p place rows ≡ places_from q place rows
places-viewed p q place [] same = refl
places-viewed p q place (row ∷ rows) same =
    ap
    (λ (b : Bool). cond b (place ∷ places_from p (place + 1) rows) (places_from p (place + 1) rows))
    (same row)
    ∙ ap (λ (xs : List ℕ). cond (q row) (place ∷ xs) xs) (places-viewed p q (place + 1) rows same)

-- the classes that pass, of those that a term has
module _ (passes : ℕ → Bool) (own read : List ℕ) (is : read ≡ filter passes own) where
  both : (a b : Bool) → (a && b) ≡ true → b ≡ true
  both true b h = h
  both false b h = cc

  shut : (a b : Bool) → (a && b) ≡ false → b ≡ true → a ≡ false
  shut true b h t = cc
  shut false b h t = refl

  has-read : (c : ℕ) → has c read ≡ (has c own && passes c)
  has-read c = ap (has c) is ∙ has-kept passes c own

  pub read-passes : (c : ℕ) → has c read ≡ true → passes c ≡ true
  read-passes c there = both (has c own) (passes c) (sym (has-read c) ∙ there)

  pub read-others : (lists : ℕ → List ℕ) → ((c : ℕ) → has c own ≡ false → lists c ≡ []) → (c : ℕ)
      → passes c ≡ true → has c read ≡ false → lists c ≡ []
  read-others lists others c pass out =
      others c (shut (has c own) (passes c) (sym (has-read c) ∙ out) pass)

  pub rises-read : Rises 0 own → Rises 0 read
  rises-read up = rw is (Rises-kept passes 0 own up)

module _ (r : Register) (rows : List Filed) (stands : Stands r rows) where
  pub stands-within : (sought : Option (List ℕ))
      → AreOf (kind_within sought) (lists_within r sought) rows
  stands-within None = stands.anywhere
  stands-within (Some m) = stands.words

  -- the places of a term in the classes that pass
  pub words-read : (sought : Option (List ℕ)) (lists : Lists) (text : List ℕ)
      → lists ≡ lists_within r sought → text ≡ text_within sought
      → (t : List ℕ) (passes : ℕ → Bool) (read : List ℕ)
      → ((c : ℕ) → has c read ≡ true → passes c ≡ true)
      → ((c : ℕ) → passes c ≡ true → has c read ≡ false → places_in lists (slot_of text t c) ≡ [])
      → ascending (flat_map (λ c. places_in lists (slot_of text t c)) read)
      ≡ places_from
      (λ row. (is_under sought row.note && passes row.class) && has_term t row.note) 0 rows
  words-read sought lists text lists_are text_is t passes read some others =
      let of = stands-within sought in
      let told = places_in (lists_within r sought) in
      let same : (c : ℕ)
      → places_in lists (slot_of text t c) ≡ told (slot_of (text_within sought) t c) = λ c.
      ap (λ (ls : Lists). places_in ls (slot_of text t c)) lists_are
      ∙ ap (λ (m : List ℕ). told (slot_of m t c)) text_is in
      ap (λ (f : ℕ → List ℕ). ascending (flat_map f read)) (λ i c. (same c) i)
      ∙ gathered-shown (keys_by (kind_within sought)) told rows of.places
      (text_within sought) t passes read some (λ c pass out. sym (same c) ∙ others c pass out)
      ∙ places-viewed
      (λ row. is_in (text_within sought) t passes (keys_by (kind_within sought) row))
      (λ row. (is_under sought row.note && passes row.class) && has_term t row.note) 0 rows
      (λ row. words-in sought row passes t)

  module _ (m : List ℕ) where
    -- the places of all rows in whatever class
    pub whole-all : (own : List ℕ)
        → ((c : ℕ) → has c own ≡ false → places_in r.whole (slot_of m [] c) ≡ [])
        → ascending (flat_map (λ c. places_in r.whole (slot_of m [] c)) own)
        ≡ places_from (λ row. is_on m row.note) 0 rows
    whole-all own others =
        gathered-shown (keys_by Whole) (places_in r.whole) rows stands.whole.places m []
        (λ c. true) own (λ c there. refl) (λ c pass out. others c out)
        ∙ places-viewed (λ row. is_in m [] (λ c. true) (keys_by Whole row))
        (λ row. is_on m row.note) 0 rows
        (λ row. whole-in m (λ c. true) row ∙ always (is_on m row.note))

    module _ (passes : ℕ → Bool) (read : List ℕ)
        (some : (c : ℕ) → has c read ≡ true → passes c ≡ true)
        (others : (c : ℕ) → passes c ≡ true → has c read ≡ false
        → places_in r.whole (slot_of m [] c) ≡ []) where
      -- the places of all rows in the classes that pass
      pub whole-read : ascending (flat_map (λ c. places_in r.whole (slot_of m [] c)) read)
          ≡ places_from (λ row. is_on m row.note && passes row.class) 0 rows
      whole-read =
          gathered-shown (keys_by Whole)
          (places_in r.whole) rows stands.whole.places m [] passes read some others
          ∙ places-viewed (λ row. is_in m [] passes (keys_by Whole row))
          (λ row. is_on m row.note && passes row.class) 0 rows (whole-in m passes)

      -- each row on the manifest is of such a class where it passes
      pub whole-classes : AllByRecursion
          (λ row. (is_on m row.note && has row.class read) ≡ (is_on m row.note && passes row.class))
          rows
      whole-classes =
          each rows (kept-shown (keys_by Whole)
          (places_in r.whole) rows stands.whole.places m [] passes read some others)
        where
          each : (rs : List Filed)
              → AllByRecursion (λ row. is_in m [] (λ c. has c read) (keys_by Whole row)
              ≡ is_in m [] passes (keys_by Whole row)) rs
              → AllByRecursion (λ row.
              (is_on m row.note && has row.class read) ≡ (is_on m row.note && passes row.class)) rs
          each [] all = tt
          each (row ∷ rs) all = (
            sym (whole-in m (λ c. has c read) row) ∙ all.0 ∙ whole-in m passes row,
            each rs all.1,
          )

  -- ---- counts

  module _ (sought : Option (List ℕ)) (passes : ℕ → Bool) (read : List ℕ) where
    abbrev Counts : Filed → Type 0
    Counts row =
        CountsWords (keys_by (kind_within sought)) (λ row. terms_of_row row.note)
        (λ row. is_under sought row.note && passes row.class) (text_within sought) read row

    -- a row counts its words where its class passes
    counts-words : (row : Filed)
        → (is_under sought row.note && has row.class read)
        ≡ (is_under sought row.note && passes row.class)
        → Counts row
    counts-words row same = by row.note.live refl
      where
        nothing : (sought : Option (List ℕ)) → row.note.live ≡ None
            → keys_by (kind_within sought) row ≡ None
        nothing sought none = rw none refl

        terms : (sought : Option (List ℕ)) (keys : Row)
            → (keyed (kind_within sought) keys).terms ≡ keys.terms
        terms None keys = refl
        terms (Some m) keys = refl

        by : (live : Option LiveNote) → row.note.live ≡ live → Counts row
        by None none =
            tombstone-counts (keys_by (kind_within sought)) (λ row. terms_of_row row.note)
            (λ row. is_under sought row.note && passes row.class) (text_within sought) read row
            (nothing sought none) (rw none refl)
        by (Some live) some =
            let keys : Row = record {
              manifest = live.manifest;
              class = row.class;
              terms = totals_of (note_terms live.tree);
            } in
            live-counts (keys_by (kind_within sought)) (λ row. terms_of_row row.note)
            (λ row. is_under sought row.note && passes row.class) (text_within sought) read row
            (keyed (kind_within sought) keys)
            (rw some refl) (terms sought keys ∙ rw some refl)
            (ap (λ (b : Bool). b && has row.class read) (text-under sought row live some keys refl)
            ∙ same)

    all-count : (rs : List Filed)
        → AllByRecursion (λ row. (is_under sought row.note && has row.class read)
        ≡ (is_under sought row.note && passes row.class)) rs
        → AllByRecursion Counts rs
    all-count [] all = tt
    all-count (row ∷ rs) all = (counts-words row all.0, all-count rs all.1)

    -- what is told of the counts in the classes that pass
    pub counts-read : AllByRecursion
        (λ row. (is_under sought row.note && has row.class read)
        ≡ (is_under sought row.note && passes row.class)) rows
        → Rises 0 read → (own : List (List ℕ × List ClassPostings))
        → own ≡ under (text_within sought) (lists_within r sought) → Climbs own → (prefix : List ℕ)
        → told_from prefix read own
        ≡ totals_in prefix
        (map (λ row. row.note) (filter (λ row. is_under sought row.note && passes row.class) rows))
    counts-read same up own is climbs prefix =
        let of = stands-within sought in
        ap (told_from prefix read) is
        ∙ words-told (keys_by (kind_within sought)) (λ row. terms_of_row row.note)
        (λ row. is_under sought row.note && passes row.class) (text_within sought) read
        (lists_within r sought) rows of.counts up (subst Climbs is climbs)
        (all-count rows same) prefix
        ∙ ap (λ (ws : List (List ℕ)). totals_of (with_prefix prefix ws))
        (sym (flat_map-map terms_of_row (λ row. row.note)
        (filter (λ row. is_under sought row.note && passes row.class) rows)))

-- where each class is read that passes, each row is of such a class where it passes
pub all-classes : (sought : Option (List ℕ)) (passes : ℕ → Bool) (read : List ℕ)
    → ((c : ℕ) → has c read ≡ passes c) → (rows : List Filed)
    → AllByRecursion (λ row. (is_under sought row.note && has row.class read)
    ≡ (is_under sought row.note && passes row.class)) rows
all-classes sought passes read same [] = tt
all-classes sought passes read same (row ∷ rows) = (
  ap (λ b. is_under sought row.note && b) (same row.class),
  all-classes sought passes read same rows,
)
