use Rattle.std.proofs.Common.{length, sym}
use Rattle.an_list.proofs.ListedLemmas.{stand-count, stand-page}
use Rattle.an_pages.proofs.ContainerLemmas.{found_own_page, past_own_page}
use Rattle.an_pages.proofs.containers.page_at.Goals as goal

pub returns-in-Err-clause-body : goal.returns-in-Err-clause-body
returns-in-Err-clause-body g c = λ rows stand memory.
    past_own_page c.args.site.now c.args.whole.now c.args.iris c.args.page rows
    (length c.args.places.now) (stand-count _ _ rows stand) c.in-Err.error c.in-Err.ensures.page

pub returns-in_ok-write_page-in-Ok-clause-body : goal.returns-in_ok-write_page-in-Ok-clause-body
returns-in_ok-write_page-in-Ok-clause-body g c = λ rows stand.
    let shown =
    rw (sym c.page_of-shown.ensures.page) at
    (stand-page _ c.in-Ok.paging.page c.in-Ok.paging.size c.args.places.now rows stand) in
    found_own_page c.args.site.now c.args.whole.now c.args.iris c.args.page rows
    (length c.args.places.now) (stand-count _ _ rows stand) c.in-Ok.paging c.base.result.now _
    c.in-Ok.ensures.page c.base.ensures.value
    (c.in_ok-write_page-in-Ok.ensures.text _ shown)
