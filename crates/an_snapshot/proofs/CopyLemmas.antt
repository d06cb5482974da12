-- A state is copied row by row, and classes one by one.
use Rattle.std.proofs.Common.{◌≡◌, ℕ, suc, ◌+◌, ◌<◌, Bool, true, false, List, [], ◌∷◌, ◌++◌, length, take, drop, get_or, Option, Some, None, refl, sym, ap, subst, ◌∙◌, drop-cons, arith}
use Rattle.std.specs.List.{list_any, position}
use Rattle.std.proofs.lemmas.Bool.{and_parts, or_parts, or_from, not-true, false_from_ne_true, both_ways}
use Rattle.std.proofs.lemmas.Grind.{common_steps}
use Rattle.std.proofs.lemmas.List.{take-append-drop, take_more}
use Rattle.an_keyed.specs.Key.{Key}
use Rattle.an_keyed.specs.Rows.{keys_are_distinct, put_row}
use Rattle.an_keyed.proofs.PutLemmas.{distinct-before, put_row-new}
use Rattle.an_policy.specs.Classes.{Grows, class_of, classes_are_distinct, same_audience, with_class}
use Rattle.an_policy.specs.declared.group.Audience.{Audience}
use Rattle.an_policy.proofs.AudienceLemmas.{same_audience-refl, same_audience-true}
use Rattle.an_state.specs.Entries.{with_row}
use Rattle.an_state.specs.State.{State, ReaderState, ManifestState, NoteState, reader_key, manifest_key, note_key}
use Rattle.an_state.specs.declared.activity.Activity.{Activity}
use Rattle.an_state.specs.declared.entry.Row.TheVariants as kept
use Rattle.an_listed.specs.declared.filed.Filed.{Filed}
use Rattle.an_snapshot.specs.Listing.{IsListing}
use Rattle.an_snapshot.proofs.StepLemmas.{listing-grown}

-- ---- an item among others

module _ {A : Type 0} (items : List A) (i : ℕ) (item : A) (within : i < length items)
    (is : item ≡ get_or items i item) where
  split : take i items ++ item ∷ drop (suc i) items ≡ items
  split =
      ap (λ (x : _). take i items ++ x ∷ drop (suc i) items) is
      ∙ (ap (λ (l : List _). take i items ++ l) (sym (drop-cons items i item within))
      ∙ take-append-drop i items)

  next : take i items ++ item ∷ [] ≡ take (i + 1) items
  next = ap (λ (x : _). take i items ++ x ∷ []) is ∙ sym (take_more items i item within)

-- a row behind those before it, under distinct keys
put-next : {R : Type 0} (key : R → Key) (rows : List R) (i : ℕ) (row : R) → i < length rows
    → row ≡ get_or rows i row → keys_are_distinct key rows ≡ true
    → put_row key row (take i rows) ≡ take (i + 1) rows
put-next key rows i row within is distinct =
    let none =
    distinct-before key (take i rows) row (drop (suc i) rows)
    (subst (λ (l : List _). keys_are_distinct key l ≡ true)
    (sym (split rows i row within is)) distinct) in
    put_row-new key row (take i rows) none ∙ next rows i row within is

-- ---- a row is copied

module _ (s t u : State) (rows : List ReaderState) (i : ℕ) (row : ReaderState) where
  pub adds-reader : t ≡ record s { readers = take i rows } → u ≡ with_row t (kept.Reader row)
      → i < length rows → row ≡ get_or rows i row → keys_are_distinct reader_key rows ≡ true
      → u ≡ record s { readers = take (i + 1) rows }
  adds-reader was now within is distinct =
      now
      ∙ (ap (λ (w : State). with_row w (kept.Reader row)) was
      ∙ ap (λ (l : List ReaderState). let w : State = record s { readers = l } in w)
      (put-next reader_key rows i row within is distinct))

module _ (s t u : State) (rows : List ManifestState) (i : ℕ) (row : ManifestState) where
  pub adds-manifest : t ≡ record s { manifests = take i rows } → u ≡ with_row t (kept.Manifest row)
      → i < length rows → row ≡ get_or rows i row → keys_are_distinct manifest_key rows ≡ true
      → u ≡ record s { manifests = take (i + 1) rows }
  adds-manifest was now within is distinct =
      now
      ∙ (ap (λ (w : State). with_row w (kept.Manifest row)) was
      ∙ ap (λ (l : List ManifestState). let w : State = record s { manifests = l } in w)
      (put-next manifest_key rows i row within is distinct))

module _ (s t u : State) (rows : List NoteState) (i : ℕ) (row : NoteState) where
  pub adds-note : t ≡ record s { notes = take i rows } → u ≡ with_row t (kept.Note row)
      → i < length rows → row ≡ get_or rows i row → keys_are_distinct note_key rows ≡ true
      → u ≡ record s { notes = take (i + 1) rows }
  adds-note was now within is distinct =
      now
      ∙ (ap (λ (w : State). with_row w (kept.Note row)) was
      ∙ ap (λ (l : List NoteState). let w : State = record s { notes = l } in w)
      (put-next note_key rows i row within is distinct))

module _ (s t u : State) (rows : List Activity) (i : ℕ) (row : Activity) where
  pub adds-activity : t ≡ record s { activities = take i rows } → u ≡ with_row t (kept.Activity row)
      → i < length rows → row ≡ get_or rows i row
      → u ≡ record s { activities = take (i + 1) rows }
  adds-activity was now within is =
      now
      ∙ (ap (λ (w : State). with_row w (kept.Activity row)) was
      ∙ ap (λ (l : List Activity). let w : State = record s { activities = l } in w)
      (next rows i row within is))

-- ---- a class is copied

other-audience : (a b : Audience) → same_audience a b ≡ false → same_audience b a ≡ false
other-audience a b differ =
    false_from_ne_true (same_audience b a)
    (λ h. both_ways _ differ (subst (λ (c : Audience). same_audience a c ≡ true)
    (sym (same_audience-true b a h)) (same_audience-refl a)))

none-later : (first audience : Audience) (front classes : List Audience)
    → list_any (λ other. same_audience other first) (front ++ audience ∷ classes) ≡ false
    → same_audience audience first ≡ false
none-later first audience [] classes none = (or_parts _ _ none).0
none-later first audience (other ∷ front) classes none =
    none-later first audience front classes (or_parts _ _ none).1

-- no audience before one among distinct ones is the same
class-before : (front : List Audience) (audience : Audience) (classes : List Audience)
    → classes_are_distinct (front ++ audience ∷ classes) ≡ true
    → list_any (λ other. same_audience other audience) front ≡ false
class-before [] audience classes distinct = refl
class-before (first ∷ front) audience classes distinct =
    let parts = and_parts _ (classes_are_distinct (front ++ audience ∷ classes)) distinct in
    or_from _ _
    (other-audience audience first (none-later first audience front classes (not-true _ parts.0)))
    (class-before front audience classes parts.1)

nowhere : {A : Type 0} (p : A → Bool) (xs : List A) → list_any p xs ≡ false → position p xs ≡ None
nowhere p [] none = refl
nowhere p (x ∷ xs) none =
    let parts = or_parts (p x) _ none in
    let rest = nowhere p xs parts.1 in
    rw parts.0 (grind (arith, common_steps))

with-new : (audience : Audience) (classes : List Audience) → class_of audience classes ≡ None
    → with_class audience classes ≡ classes ++ audience ∷ []
with-new audience classes none =
    ap (λ (found : Option ℕ). elim found [ None ↦ classes ++ audience ∷ [] | Some class ↦ classes ])
    none

pub adds-class : (classes old new : List Audience) (i : ℕ) (audience : Audience)
    → old ≡ take i classes → new ≡ with_class audience old → i < length classes
    → audience ≡ get_or classes i audience
    → classes_are_distinct classes ≡ true → new ≡ take (i + 1) classes
adds-class classes old new i audience was now within is distinct =
    let none =
    class-before (take i classes) audience (drop (suc i) classes)
    (subst (λ (l : List Audience). classes_are_distinct l ≡ true)
    (sym (split classes i audience within is)) distinct) in
    now
    ∙ (ap (with_class audience) was
    ∙ (with-new audience (take i classes)
    (nowhere (λ other. same_audience other audience) (take i classes) none)
    ∙ next classes i audience within is))

-- ---- what stands beside a state

-- a copy of the rows is a listing still, with a copy of the classes and more
pub listing-copied : (s t : State) (held first last : List Audience) (rows copies : List Filed)
    → t ≡ s → first ≡ held → Grows first last → copies ≡ rows
    → IsListing s held rows → IsListing t last copies
listing-copied s t held first last rows copies state same grows items listing =
    let copied = subst (λ (l : List Audience). IsListing s l rows) (sym same) listing in
    subst (λ (u : State). IsListing u last copies) (sym state)
    (subst (IsListing s last) (sym items) (listing-grown s first last rows grows copied))
