use Rattle.an_postings.specs.declared.gather.Run.TheVariants.{Copy}
use Rattle.an_postings.proofs.GatherLemmas.{RunsRise-push}
use Rattle.an_postings.proofs.gather.choose.Goals as goal

pub returns-in_ok-push-in-None-clause-rise : goal.returns-in_ok-push-in-None-clause-rise
returns-in_ok-push-in-None-clause-rise c =
    rw c.in_ok-push-in-None.ensures.items
    (RunsRise-push c.args.chosen.now.items (Copy c.in_ok-copy-in-None.copy) c.requires.chosen
    (rw c.in_ok-copy-in-None.ensures.places c.requires.list))
