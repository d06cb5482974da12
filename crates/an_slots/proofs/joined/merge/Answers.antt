use Rattle.std.proofs.Common.{ℕ, ◌≤◌, ◌++◌, ◌⊎◌, inl, inr, List, length, get_or, drop, leb, ap, ◌∙◌, arith}
use Rattle.an_slots.proofs.MergeLemmas.{merge_more, merge_end, one_at_least, one_le, rest}
use Rattle.an_slots.proofs.joined.merge.Goals as goal
use Rattle.an_slots.proofs.joined.merge.Goals.{then-loop-i-test+else-j-b, else-loop-i-test}

pub loop-i-preserved : goal.loop-i-preserved
loop-i-preserved c =
    let a = c.args.a.now in
    let b = c.args.b.now in
    let x = get_or a c.loop-i.i 0 in
    let y = get_or b c.loop-i.j 0 in
    let p = one_le (leb x y) in
    let q = one_le (leb y x) in
    record {
      i = omega (arith, p, c.one_if-i.ensures, c.loop-i-test.true);
      j = omega (arith, q, c.one_if-j.ensures, c.if-j-b.true);
      room =
          (let o = one_at_least x y in
          omega (
            arith,
            o,
            p,
            q,
            c.one_if-i.ensures,
            c.one_if-j.ensures,
            c.loop-i-test.true,
            c.if-j-b.true,
            c.push_reserved.ensures.len,
            c.push_reserved.ensures.capacity,
            c.loop-i.invariant.room,
          ));
      whole =
          rw (c.push_reserved.ensures.items, c.min.ensures, c.one_if-i.ensures, c.one_if-j.ensures)
          (merge_more a b c.loop-i.places.items c.loop-i.i c.loop-i.j c.requires.a c.requires.b
          c.loop-i-test.true c.if-j-b.true c.loop-i.invariant.whole);
    }

pub returns : goal.returns
returns c =
    let a = c.args.a.now in
    let b = c.args.b.now in
    let past : (length a ≤ c.loop-i.i) ⊎ (length b ≤ c.loop-i.j) = elim c.loop-i-test.branch [
      | then-loop-i-test+else-j-b w ↦ inr w.if-j-b.false
      | else-loop-i-test w ↦ inl w.loop-i-test.false
    ] in
    record {
      places =
          c.in_ok-extend_from_slice-2.ensures.items
          ∙ ap (λ (l : List ℕ). c.extend_from_slice.new.self.items ++ l) (rest c.loop-i.j b)
          ∙ ap (λ (l : List ℕ). l ++ drop c.loop-i.j b) c.in_ok-extend_from_slice.ensures.items
          ∙ ap (λ (l : List ℕ). c.loop-i.places.items ++ l ++ drop c.loop-i.j b) (rest c.loop-i.i a)
          ∙ merge_end a b c.loop-i.places.items c.loop-i.i c.loop-i.j c.requires.a c.requires.b past
          c.loop-i.invariant.whole;
    }
