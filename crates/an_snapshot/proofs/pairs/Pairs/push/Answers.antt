use Rattle.std.proofs.Common.{◌≡◌, None, ap, ◌∙◌}
use Rattle.an_keyed.specs.Index.{place_of_key}
use Rattle.an_keyed.proofs.PlaceLemmas.{IsHashed-push}
use Rattle.an_snapshot.specs.PairHash.{pair_hash}
use Rattle.an_snapshot.specs.Pairs.{same_pair}
use Rattle.an_snapshot.proofs.PairLemmas.{same_pair-true, same_pair-refl}
use Rattle.an_snapshot.proofs.pairs.Pairs.push.Goals as goal

pub invariant_of-self-2 : goal.invariant_of-self-2
invariant_of-self-2 c =
    let new : place_of_key same_pair c.args.pair c.self.inside.pairs.items ≡ None =
    ap (place_of_key same_pair c.args.pair) c.self.view_is ∙ c.requires.new in
    rw (
      c.push_reserved.ensures.items,
      c.reserve.ensures.items,
      c.push.ensures.hashes,
      c.make_room.ensures.hashes,
      c.hash_of.ensures,
    )
    (IsHashed-push same_pair pair_hash same_pair-true same_pair-refl c.self.inside.pairs.items
    c.self.inside.index.hashes c.args.pair c.self.invariant new)
