use Rattle.std.proofs.Common.{[], ap, sym, ◌∙◌, arith}
use Rattle.an_slots.specs.Places.{has}
use Rattle.an_slots.proofs.ClassedLemmas.{at_within, told_at-at, told_at-gap}
use Rattle.an_postings.specs.Lists.{class_of, places_of}
use Rattle.an_postings.proofs.among.is_listed.Goals as goal

pub offset_bounds-lists-at : goal.offset_bounds-lists-at
offset_bounds-lists-at c =
    omega (arith, at_within class_of _ c.args.lists.now c.in-Ok.at c.in-Ok.ensures.place)

pub bounds-lists-at : goal.bounds-lists-at
bounds-lists-at c = at_within class_of _ c.args.lists.now c.in-Ok.at c.in-Ok.ensures.place

pub returns-in-Ok : goal.returns-in-Ok
returns-in-Ok c = record {
  listed =
      c.has.ensures
      ∙ ap (has c.args.place) (sym
      (told_at-at class_of places_of [] _ c.args.lists.now c.in-Ok.at c.index-lists-at.result
      c.in-Ok.ensures.place));
}

pub returns-in-Err : goal.returns-in-Err
returns-in-Err c = record {
  listed =
      ap (has c.args.place) (sym
      (told_at-gap class_of places_of [] 0 _ c.args.lists.now c.in-Err.field-0 c.requires.ordered.0
      c.in-Err.ensures.place));
}
