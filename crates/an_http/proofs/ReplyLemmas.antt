-- Lines, and parts of a reply, that are written one behind the other.
use Rattle.std.proofs.Common.{◌≡◌, ℕ, ◌+◌, min, List, ◌++◌, length, take, Option, ap, ◌∙◌, append_assoc, arith}
use Rattle.std.proofs.lemmas.List.{take-append-le, take_min}
use Rattle.std.proofs.Math.Seq.{take-append-add}
use Rattle.an_world.specs.Link.{Traffic, Writes, WritesFront}
use Rattle.an_world.proofs.LinkLemmas.{Writes-append}

-- four texts behind what stands there
pub pushed_four : (out a b c d first second third fourth : List ℕ) → first ≡ out ++ a
    → second ≡ first ++ b → third ≡ second ++ c → fourth ≡ third ++ d
    → fourth ≡ out ++ (a ++ (b ++ (c ++ d)))
pushed_four out a b c d first second third fourth one two three four =
    four
    ∙ ap (λ front. front ++ d)
    (three ∙ ap (λ front. front ++ c) (two ∙ ap (λ front. front ++ b) one))
    ∙ append_assoc (out ++ a ++ b) c d ∙ append_assoc (out ++ a) b (c ++ d)
    ∙ append_assoc out a (b ++ (c ++ d))

-- a front of the first bytes is one of both
pub WritesFront-first : (first next : List ℕ) (old new : Option Traffic)
    → WritesFront first old new → WritesFront (first ++ next) old new
WritesFront-first first next old new w = record {
  count = min w.count (length first);
  writes =
      rw (take-append-le (min w.count (length first)) first next (omega arith)
      ∙ take_min w.count first) w.writes;
}

-- all of the first bytes, and a front of the next
pub WritesFront-next : (first next : List ℕ) (old mid new : Option Traffic)
    → Writes first old mid → WritesFront next mid new → WritesFront (first ++ next) old new
WritesFront-next first next old mid new h w = record {
  count = length first + w.count;
  writes =
      rw (take-append-add first next w.count)
      (Writes-append first (take w.count next) old mid new h w.writes);
}
