use Rattle.an_shelf.proofs.FrontLemmas.{shows}
use Rattle.an_shelf.proofs.restoring.show.Goals as goal

pub returns : goal.returns
returns c = record {
  shown =
      shows c.args.snapshot.now c.apply.new.self c.args.entry.now c.requires.fits
      c.in_ok-apply.ensures.ok;
}
