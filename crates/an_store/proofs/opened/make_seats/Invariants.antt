use Rattle.std.proofs.Common.{◌≡◌, length, All}
use Rattle.left_right.specs.Sides.{view}
use Rattle.an_published.specs.Lists.{newly_seated}
use Rattle.an_store.proofs.opened.make_seats.Given as goal

abbrev pub invariant-loop : goal.invariant-loop
invariant-loop l = record {
  seats : All (λ seat. seat
      ≡ newly_seated l.initial.writer.desk.shown.value.mark.book
      l.initial.writer.desk.shown.value.mark.list) l.all.items;
  number : length l.all.items ≡ l.counter;
  knows : view l.writer.desk.place ≡ view l.initial.writer.desk.place;
  shown : l.writer.desk.shown ≡ l.initial.writer.desk.shown;
  log : l.writer.log ≡ l.initial.writer.log;
  behind : l.writer.behind ≡ l.initial.writer.behind;
}
