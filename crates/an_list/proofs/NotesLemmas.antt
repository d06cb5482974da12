-- The page of annotations that is asked for.
use Rattle.std.proofs.Common.{◌≡◌, ℕ, List, length, Ok, Err, sym, ap, ◌∙◌}
use Rattle.std.specs.List.{filter_map}
use Rattle.serde_json.specs.View.{items_of}
use Rattle.serde_json.specs.Written.{compact_text}
use Rattle.an_state.specs.State.{NoteState}
use Rattle.an_list.specs.Listed.{listed_note, marks_of}
use Rattle.an_list.specs.Notes.{notes_page, notes_text}
use Rattle.an_list.specs.Page.{list_page, page_iri, page_of, paging_of}
use Rattle.an_list.specs.Site.{Site}
use Rattle.an_list.specs.declared.error.ReadError.{ReadError}
use Rattle.an_list.specs.declared.page.Paging.{Paging}
use Rattle.an_list.specs.declared.page.PagedList.{PagedList}
use Rattle.an_list.proofs.PageLemmas.{paging_is, shown_past, shown_there}

module _ (site : Site) (context : List ℕ) (whole : PagedList) (page : ℕ)
    (terms ignored : List (List ℕ)) (rows : List NoteState) (total : ℕ) (total_is : total ≡ length rows) where
  pub past_notes : (error : ReadError) → Err error ≡ paging_of site page total
      → notes_text site context whole page terms ignored rows ≡ Err error
  unfolding notes_text
  past_notes error is =
      shown_past site page (length rows) error
      (compact_text (notes_page site context whole page terms ignored rows)) (rw total_is at is)

  pub found_notes : (paging : Paging) (base text : List ℕ) → Ok paging ≡ paging_of site page total
      → base ≡ site.base
      → text ≡ compact_text (list_page context whole paging.page paging.size paging.total
      (items_of (filter_map (listed_note base) (page_of paging.page paging.size rows)))
      (items_of
      (marks_of base terms (page_iri whole paging.page) 1 (page_of paging.page paging.size rows)))
      ignored)
      → notes_text site context whole page terms ignored rows ≡ Ok text
  unfolding notes_text
  found_notes paging base text checked base_is is =
      let there : Ok paging ≡ paging_of site page (length rows) = rw total_is at checked in
      let asked = paging_is site page (length rows) paging there in
      shown_there site page (length rows) paging
      (compact_text (notes_page site context whole page terms ignored rows)) there
      ∙ ap Ok (sym (rw (asked, base_is) at is))
