-- Annotations that are held are those at their places.
use Rattle.std.proofs.Common.{◌≡◌, ℕ, List, [], ◌∷◌, ◌++◌, map, Bool, true, false, cond, refl, ap, ◌∙◌}
use Rattle.std.specs.Option.{option_copied}
use Rattle.std.specs.Prelude.{filter, slice_get}
use Rattle.an_base.specs.Outcome.{passes}
use Rattle.an_state.specs.State.{NoteState}
use Rattle.an_search.specs.Found.{is_suited_at, suits}
use Rattle.an_search.specs.Held.{suited_of}
use Rattle.an_search.specs.declared.hits.Held.{Held}
use Rattle.an_search.specs.declared.wanted.Wanted.{Wanted}

-- one is put before both or before none
kept_both : (first : Held) (b : Bool) (before after : List Held) (front back : List ℕ)
    → map (λ one. one.place) before ++ front ≡ map (λ one. one.place) after ++ back
    → map (λ one. one.place) (cond b (first ∷ before) before) ++ front
    ≡ map (λ one. one.place) (cond b (first ∷ after) after) ++ back
kept_both first true before after front back same = ap (λ places. first.place ∷ places) same
kept_both first false before after front back same = same

last_kept : (b : Bool) (one : Held) (rest : List ℕ)
    → map (λ one. one.place) (cond b (one ∷ []) []) ++ rest ≡ cond b (one.place ∷ rest) rest
last_kept true one rest = refl
last_kept false one rest = refl

-- one more is held, which was the first of those that were left
pub held_more : (notes : List NoteState) (wanted : Wanted) (held : List Held) (one : Held)
    (left : List ℕ) → option_copied one.row ≡ slice_get notes one.place
    → suited_of wanted (held ++ one ∷ []) ++ filter (is_suited_at notes wanted) left
    ≡ suited_of wanted held ++ filter (is_suited_at notes wanted) (one.place ∷ left)
held_more notes wanted [] one left is =
    let rest = filter (is_suited_at notes wanted) left in
    last_kept (passes (suits wanted) (option_copied one.row)) one rest
    ∙ ap (λ found. cond (passes (suits wanted) found) (one.place ∷ rest) rest) is
held_more notes wanted (first ∷ held) one left is =
    let test : Held → Bool = λ one. passes (suits wanted) (option_copied one.row) in
    kept_both first (test first) (filter test (held ++ one ∷ []))
    (filter test held) (filter (is_suited_at notes wanted) left)
    (filter (is_suited_at notes wanted) (one.place ∷ left))
    (held_more notes wanted held one left is)
