use Rattle.an_postings.proofs.LiveLemmas.{Rises-live, noted, taken}
use Rattle.an_postings.proofs.noted.take_out.Goals as goal

pub returns-then-is_inside-clause-rises : goal.returns-then-is_inside-clause-rises
returns-then-is_inside-clause-rises c =
    Rises-live 0 c.args.all.now.items c.add_to.new.places.items c.requires.all

pub returns-then-is_inside-clause-places : goal.returns-then-is_inside-clause-places
returns-then-is_inside-clause-places c =
    rw c.add_to.ensures.places
    (noted c.args.place c.args.all.now.items c.args.gone.now.items c.requires.all)

pub returns-else-has_room-clause-rises : goal.returns-else-has_room-clause-rises
returns-else-has_room-clause-rises c =
    Rises-live 0 c.remove_from.new.places.items c.args.gone.now.items c.remove_from.ensures.rises

pub returns-else-has_room-clause-places : goal.returns-else-has_room-clause-places
returns-else-has_room-clause-places c =
    rw c.remove_from.ensures.places
    (taken c.args.place c.args.all.now.items c.args.gone.now.items c.requires.all)
