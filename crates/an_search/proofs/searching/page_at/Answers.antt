use Rattle.an_search.proofs.FoundLemmas.{found_by}
use Rattle.an_search.proofs.searching.page_at.Goals as goal

pub returns-clause-answer : goal.returns-clause-answer
returns-clause-answer g c = λ rows stand.
    found_by c.args.site.now c.args.whole.now c.args.query.now rows c.page.result _ _
    (λ page. page) c.page_of_notes.result
    c.page.ensures.value c.requires.terms c.ignored.ensures.value
    (c.page_of_notes.ensures.page rows stand)
