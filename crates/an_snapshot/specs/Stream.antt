-- For private clauses: changes as a caller sees them.
use Rattle.std.specs.Prelude.{◌≡◌, ◌^◌, ◌<◌, ◌≤◌, length, map, take}
use Rattle.an_snapshot.specs.Changes.{numbers_in}
use Rattle.an_snapshot.specs.PairLists.{AreFiled, lists_seen}
use Rattle.an_snapshot.specs.declared.stream.Stream.{Stream}

-- the first changes are filed by their pairs, and the lists are those of what is of some kind
pub record IsStream (stream : Stream) : Type 0 where
  pub few : length stream.rows.now < 2 ^ 64
  pub within : stream.filed.now.count ≤ length stream.rows.now
  pub filed : AreFiled (numbers_in (take stream.filed.now.count stream.rows.now)) stream.filed.now
  pub lists : map (λ list. list.now) stream.lists.now
      ≡ lists_seen stream.kinds.now stream.filed.now.lists
