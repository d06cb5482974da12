-- What an annotation's row that is put makes of the list beside the state's.
use Rattle.std.proofs.Common.{◌≡◌, ℕ, zero, suc, ◌<◌, Bool, true, false, cond, nat_lt, List, [], ◌∷◌, ◌++◌, All, length, map, Option, Some, None, unwrap_or, slice_set, refl, sym, ap, ◌∙◌, arith}
use Rattle.std.proofs.lemmas.Bool.{lt-ltb, le-ltb}
use Rattle.std.proofs.lemmas.List.{map-append}
use Rattle.std.proofs.lemmas.List.Elements.{All-push, All-set}
use Rattle.std.proofs.lemmas.List.Quantifiers.{position-Some}
use Rattle.an_keyed.specs.Key.{same_key}
use Rattle.an_keyed.specs.Rows as keyed
use Rattle.an_state.specs.State.{NoteState, note_key}
use Rattle.an_listed.specs.Filed.{put_at}
use Rattle.an_listed.specs.declared.filed.Filed.{Filed}

map-set : {A B : Type 0} (f : A → B) (xs : List A) (i : ℕ) (x : A)
    → map f (slice_set xs i x) ≡ slice_set (map f xs) i (f x)
map-set f [] i x = refl
map-set f (y ∷ ys) zero x = refl
map-set f (y ∷ ys) (suc i) x = ap (λ (zs : List _). f y ∷ zs) (map-set f ys i x)

abbrev notes_of : List Filed → List NoteState
notes_of rows = map (λ filed. filed.note) rows

place-within : (row : NoteState) (notes : List NoteState) (place : ℕ)
    → keyed.place_of note_key (note_key row) notes ≡ Some place → place < length notes
place-within row notes place is =
    (position-Some (λ other. same_key (note_key other) (note_key row)) notes place row is).0

length-notes : (rows : List Filed) → length (notes_of rows) ≡ length rows
length-notes [] = refl
length-notes (row ∷ rows) = ap suc (length-notes rows)

same-length : (rows : List Filed) (notes : List NoteState) → notes_of rows ≡ notes
    → length rows ≡ length notes
same-length rows notes is = sym (length-notes rows) ∙ ap (λ (l : List NoteState). length l) is

-- where a row stands or is to stand
abbrev place_in : NoteState → List NoteState → ℕ
place_in row notes = unwrap_or (keyed.place_of note_key (note_key row) notes) (length notes)

-- it is put into the list as the annotation is into the state
pub notes-put : (filed : Filed) (row : NoteState) (rows : List Filed) (notes : List NoteState)
    → notes_of rows ≡ notes → filed.note ≡ row
    → notes_of (put_at (place_in row notes) filed rows) ≡ keyed.put_row note_key row notes
notes-put filed row rows notes is own =
    either (keyed.place_of note_key (note_key row) notes) refl (same-length rows notes is)
  where
    either : (place : Option ℕ) → keyed.place_of note_key (note_key row) notes ≡ place
        → length rows ≡ length notes
        → notes_of (put_at (unwrap_or place (length notes)) filed rows)
        ≡ keyed.put_at note_key place row notes
    either None e same =
        let behind : nat_lt (length notes) (length rows) ≡ false =
        le-ltb (length notes) (length rows) (omega arith) in
        rw behind (map-append (λ (f : Filed). f.note) rows (filed ∷ []) ∙ rw (is, own) refl)
    either (Some p) e same =
        let within = place-within row notes p e in
        let before : nat_lt p (length rows) ≡ true = lt-ltb p (length rows) (omega arith) in
        rw before (map-set (λ (f : Filed). f.note) rows p filed ∙ rw (is, own) refl)

-- what all have, all have with it
pub all-put : (P : Filed → Type 0) (place : ℕ) (filed : Filed) (rows : List Filed) → P filed
    → All P rows → All P (put_at place filed rows)
all-put P place filed rows here all = either (nat_lt place (length rows))
  where
    either : (b : Bool) → All P (cond b (slice_set rows place filed) (rows ++ filed ∷ []))
    either true = All-set P rows place filed here all
    either false = All-push P rows filed all here
