use Rattle.std.proofs.Common.{sym, ap, ◌∙◌}
use Rattle.an_state.specs.State.{State}
use Rattle.an_snapshot.proofs.CopyLemmas.{listing-copied}
use Rattle.an_snapshot.proofs.snapshot.SnapshotTryCopy.copy.Goals as goal

pub copy_book-requires-clause-readers : goal.copy_book-requires-clause-readers
copy_book-requires-clause-readers c = c.self.invariant.listing.readers

pub copy_book-requires-clause-distinct : goal.copy_book-requires-clause-distinct
copy_book-requires-clause-distinct c = c.self.invariant.listing.distinct

pub invariant_of-result : goal.invariant_of-result
invariant_of-result c =
    let inside = c.self.inside in
    let state = c.in_ok-book.ensures.state in
    record {
      listing =
          listing-copied inside.book.state c.in_ok-book.book.state inside.classes
          c.in_ok-classes.classes c.copy_changes.new.classes inside.listed.rows
          c.in_ok-listed.listed.rows
          state c.in_ok-classes.ensures.classes c.copy_changes.ensures.grows
          c.in_ok-listed.ensures.rows c.self.invariant.listing;
      changes = record {
        activities =
            c.in_ok-changes.ensures.activities ∙ c.activities.ensures.rows
            ∙ ap (λ (s : State). s.activities) (sym state);
        filed = c.in_ok-changes.ensures.filed;
      };
    }
