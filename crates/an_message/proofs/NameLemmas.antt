-- Names in any case.
use Rattle.std.proofs.Common.{◌≡◌, ℕ, List, Bool, true, false, ◌↔◌, IsTrue, bytes_eq, refl, sym}
use Rattle.std.proofs.lemmas.Slice.Eq.{bytes_eq-Decides}

-- two tests that hold together are one
both : (a b : Bool) → (a ≡ true → b ≡ true) → (b ≡ true → a ≡ true) → a ≡ b
both true true h k = refl
both true false h k = sym (h refl)
both false true h k = k refl
both false false h k = refl

-- a test of two texts
pub same_letters : (b : Bool) (one other : List ℕ) → (IsTrue b) ↔ (one ≡ other)
    → b ≡ bytes_eq one other
same_letters b one other h =
    both b (bytes_eq one other) (λ e. (bytes_eq-Decides one other).1 (h.0 e))
    (λ e. h.1 ((bytes_eq-Decides one other).0 e))
