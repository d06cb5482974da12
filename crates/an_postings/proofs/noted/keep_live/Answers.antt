use Rattle.std.proofs.Common.{rules, ◌≡◌, subst, sym}
use Rattle.std.specs.Prelude.{not}
use Rattle.std.proofs.lemmas.Fn.{filter_same}
use Rattle.an_slots.specs.Places.{Rises, has}
use Rattle.an_postings.specs.Live.{live}
use Rattle.an_postings.proofs.LiveLemmas.{Rises-live}
use Rattle.an_postings.proofs.noted.keep_live.Goals as goal

pub returns-clause-rises : goal.returns-clause-rises
returns-clause-rises c =
    let kept : c.retain.new.self.items ≡ live c.args.all.now.items c.args.gone.now.items =
    filter_same _ (λ place. not (has place c.args.gone.now.items)) _
    (λ x b f' k. search rules) _ _ c.retain.ensures.filtered in
    subst (Rises 0) (sym kept)
    (Rises-live 0 c.args.all.now.items c.args.gone.now.items c.requires.all)

pub returns-clause-places : goal.returns-clause-places
returns-clause-places c =
    filter_same _ (λ place. not (has place c.args.gone.now.items)) _
    (λ x b f' k. search rules) _ _ c.retain.ensures.filtered
