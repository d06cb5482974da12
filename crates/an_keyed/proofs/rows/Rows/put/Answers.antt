use Rattle.std.proofs.Common.{◌≡◌, arith, Some, None}
use Rattle.an_keyed.specs.KeyHash.{key_hash}
use Rattle.an_keyed.specs.Rows.{place_of}
use Rattle.an_keyed.proofs.RowLemmas.{IsHashed-push_row, IsHashed-set_row}
use Rattle.an_keyed.proofs.rows.Rows.put.Goals as goal

pub invariant_of-self : goal.invariant_of-self
invariant_of-self g c =
    let key = g.R.Keyed.key in
    let hash : key_hash (key c.args.row) ≡ c.hash_of-hash.result = grind arith in
    let new : place_of key (key c.args.row) c.self.inside.rows.items ≡ None = grind arith in
    record {
      hashed =
          rw (c.push_reserved.ensures.items, c.push.ensures.hashes, ← hash)
          (IsHashed-push_row key _ _ c.self.invariant.hashed c.args.row new);
      rows = omega arith;
      index = omega arith;
    }

pub invariant_of-self-in-Some : goal.invariant_of-self-in-Some
invariant_of-self-in-Some g c =
    let key = g.R.Keyed.key in
    let here : place_of key (key c.args.row) c.self.inside.rows.items ≡ Some c.in-Some.place =
    grind arith in
    record {
      hashed = IsHashed-set_row key _ _ c.self.invariant.hashed c.args.row c.in-Some.place here;
      rows = c.self.invariant.rows;
      index = c.self.invariant.index;
    }
