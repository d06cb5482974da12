use Rattle.std.proofs.Common.{string_bytes}
use Rattle.std.specs.Prelude.{map}
use Rattle.an_app.specs.Form.{form_of}
use Rattle.an_app.proofs.RunLemmas.{ends_kept, ends_shut, ends_unfailing, never_rises}
use Rattle.an_app.proofs.program.run.Goals as goal

pub returns-clause-sure_link : goal.returns-clause-sure_link
returns-clause-sure_link g c = λ sure.
    ends_unfailing _ _ _ _ _ _ (form_of (map string_bytes c.args.words.now)) (λ rises. rises)
    (λ rises. rises)
    (never_rises _ _ (g.met.L.Link.sure_reads sure c.args.link.now)
    (g.met.L.Link.sure_reads sure c.run_words.new.link))
    (never_rises _ _ (g.met.L.Link.sure_writes sure c.args.link.now)
    (g.met.L.Link.sure_writes sure c.run_words.new.link))
    c.run_words.ensures.understood c.run_words.ensures.misunderstood

pub returns-clause-sure_keeper : goal.returns-clause-sure_keeper
returns-clause-sure_keeper g c = λ sure.
    ends_kept _ _ _ _ _ _ (form_of (map string_bytes c.args.words.now))
    (λ unsure. unsure sure) c.run_words.ensures.understood c.run_words.ensures.misunderstood

pub returns-clause-sure_door : goal.returns-clause-sure_door
returns-clause-sure_door g c = λ sure.
    ends_shut _ _ _ _ _ _ (form_of (map string_bytes c.args.words.now))
    ((g.met.D.Door g.world.𝓛 g.world.𝓜 g.world.𝓡
    ((λ s x. x), (λ x. x), (λ x. x), λ x. x)).sure_calls sure c.run_words.new.door)
    c.run_words.ensures.understood c.run_words.ensures.misunderstood
