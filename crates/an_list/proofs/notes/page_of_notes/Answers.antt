use Rattle.std.proofs.Common.{length, sym}
use Rattle.an_list.proofs.ListedLemmas.{stand-count, stand-page}
use Rattle.an_list.proofs.NotesLemmas.{found_notes, past_notes}
use Rattle.an_list.proofs.notes.page_of_notes.Goals as goal

pub returns-in-Err-clause-page : goal.returns-in-Err-clause-page
returns-in-Err-clause-page g c = λ rows stand memory.
    past_notes c.args.site.now _ _ c.args.page _ _ rows (length c.args.places.now)
    (stand-count _ _ rows stand) c.in-Err.error c.in-Err.ensures.page

pub returns-in_ok-write_page-in-Ok-clause-page : goal.returns-in_ok-write_page-in-Ok-clause-page
returns-in_ok-write_page-in-Ok-clause-page g c = λ rows stand.
    let shown =
    rw (sym c.page_of-shown.ensures.page) at
    (stand-page _ c.in-Ok.paging.page c.in-Ok.paging.size c.args.places.now rows stand) in
    found_notes c.args.site.now _ _ c.args.page _ _ rows (length c.args.places.now)
    (stand-count _ _ rows stand) c.in-Ok.paging c.base.result.now _ c.in-Ok.ensures.page
    c.base.ensures.value
    (c.in_ok-write_page-in-Ok.ensures.page _ shown)
