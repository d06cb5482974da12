use Rattle.an_postings.proofs.LiveLemmas.{Rises-live, put, room_for}
use Rattle.std.specs.VecDeque.{deque_len, deque_capacity}
use Rattle.an_postings.proofs.noted.put_in.Goals as goal

pub add_to-requires-clause-room : goal.add_to-requires-clause-room
add_to-requires-clause-room c =
    room_for c.args.place c.args.all.now.items c.args.gone.now.items c.requires.all
    (deque_len c.args.all.now) (deque_capacity c.args.all.now) c.requires.room

pub returns-clause-rises : goal.returns-clause-rises
returns-clause-rises c =
    Rises-live 0 c.add_to.new.places.items c.remove_from.new.places.items c.add_to.ensures.rises

pub returns-clause-places : goal.returns-clause-places
returns-clause-places c =
    rw (c.add_to.ensures.places, c.remove_from.ensures.places)
    (put c.args.place c.args.all.now.items c.args.gone.now.items c.requires.all c.requires.gone)
