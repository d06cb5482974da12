use Rattle.std.proofs.Common.{◌≡◌}
use Rattle.an_postings.specs.Postings.{count_in, places_in}
use Rattle.an_slots.specs.Rows.{IsThere, parts_in, parts_of, taken, unposted}
use Rattle.an_listed.specs.Keys.{parts_from}
use Rattle.an_listed.specs.Left.{left_parts}
use Rattle.an_listed.specs.Room.{IsKeptBut}
use Rattle.an_listed.proofs.change.take_all.Given as goal

-- with what is left taken, the lists and the counts are those with all taken
abbrev pub invariant-loop-at : goal.invariant-loop-at
invariant-loop-at l =
    let new = parts_in l.new in record {
      there : IsThere (count_in l.lists) (parts_from l.keys l.at);
      places : unposted l.place (places_in l.lists) (left_parts new (parts_from l.keys l.at))
          ≡ unposted l.place (places_in l.fn.lists) (left_parts new (parts_of l.keys));
      counts : taken (count_in l.lists) (parts_from l.keys l.at)
          ≡ taken (count_in l.fn.lists) (parts_of l.keys);
      kept : IsKeptBut l.more (left_parts new (parts_of l.keys)) l.fn.lists l.lists;
    }
