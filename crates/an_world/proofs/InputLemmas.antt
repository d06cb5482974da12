-- What the input of a link in memory is behind a read, and that no piece of it is empty.
use Rattle.std.proofs.Common.{◌≡◌, ℕ, ◌+◌, List, [], ◌∷◌, take, drop, filter, Bool, true, false, cond, refl}
use Rattle.std.specs.List.{list_all}
use Rattle.std.proofs.Math.Seq.{take-add}
use Rattle.std.proofs.lemmas.List.{drop-drop}
use Rattle.an_world.specs.Input.{cut_behind, pieces_behind}

-- an element is kept where it passes the test, so what is kept passes it
list_all-kept : (test : ℕ → Bool) (x : ℕ) (xs : List ℕ) (passes : Bool) → test x ≡ passes
    → list_all test xs ≡ true → list_all test (cond passes (x ∷ xs) xs) ≡ true
list_all-kept test x xs true is all = rw is all
list_all-kept test x xs false is all = all

-- no piece that is kept is empty
pub list_all-filter : (test : ℕ → Bool) (xs : List ℕ) → list_all test (filter test xs) ≡ true
list_all-filter test [] = refl
list_all-filter test (x ∷ xs) =
    list_all-kept test x (filter test xs) (test x) refl (list_all-filter test xs)

-- the input, as it stands behind the next bytes
pub pieces_behind-at : (bytes : List ℕ) (at count : ℕ) (cut behind : List ℕ)
    → behind ≡ cut_behind count cut
    → record { read = take (at + count) bytes; left = drop (at + count) bytes; cut = behind }
    ≡ pieces_behind count (record { read = take at bytes; left = drop at bytes; cut = cut })
pieces_behind-at bytes at count cut behind is =
    rw (is, take-add at count bytes, drop-drop count at bytes)
