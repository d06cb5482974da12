use Rattle.std.proofs.Common.{◌≡◌, ap, ◌∙◌}
use Rattle.std.specs.List.{filter_map}
use Rattle.serde_json.specs.View.{items_of}
use Rattle.serde_json.specs.Written.{compact_text}
use Rattle.an_list.specs.Listed.{listed_note, marks_of}
use Rattle.an_list.specs.Page.{list_page, page_iri}
use Rattle.an_list.proofs.notes.write_page.Goals as goal

pub returns-clause-page : goal.returns-clause-page
returns-clause-page g c = λ rows stand.
    let listed = c.in_ok-listed.ensures.listed rows stand in
    let list = c.args.list.now in
    let whole = list.whole.now in
    let iri : c.as_str.result.now ≡ page_iri whole c.args.paging.page =
    c.as_str.ensures.value ∙ c.in_ok-iri.ensures.iri in
    let items = c.as_slice-items.ensures.value ∙ listed.items in
    let marks = c.as_slice-marks.ensures.value ∙ listed.marks in
    let shown = items_of (filter_map (listed_note c.args.base.now) rows) in
    c.in_ok-text.ensures.text shown
    (items_of (marks_of c.args.base.now list.terms.now c.as_str.result.now 1 rows)) items marks
    ∙ ap (λ iri. compact_text
    (list_page list.context.now whole c.args.paging.page c.args.paging.size c.args.paging.total
    shown (items_of (marks_of c.args.base.now list.terms.now iri 1 rows)) list.ignored.now)) iri
