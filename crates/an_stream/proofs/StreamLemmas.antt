-- The page of the stream that is asked for.
use Rattle.std.proofs.Common.{◌≡◌, ℕ, List, length, map, Ok, Err, sym, ap, ◌∙◌}
use Rattle.serde_json.specs.View.{items_of}
use Rattle.serde_json.specs.Written.{compact_text}
use Rattle.an_state.specs.declared.activity.Seen.{Seen}
use Rattle.an_list.specs.Page.{page_count, page_of, paging_of, start_of}
use Rattle.an_list.specs.Site.{Site}
use Rattle.an_list.specs.declared.error.ReadError.{ReadError}
use Rattle.an_list.specs.declared.page.Paging.{Paging}
use Rattle.an_list.proofs.PageLemmas.{paging_is, shown_past, shown_there}
use Rattle.an_stream.specs.Activity.{activity}
use Rattle.an_stream.specs.Stream.{changes_whole, page_of_stream, stream_page}

module _ (site : Site) (page : ℕ) (seen : List Seen) (total : ℕ)
    (total_is : total ≡ length seen) where
  abbrev text : List ℕ
  text =
      compact_text (stream_page (changes_whole site.base) (page_count (length seen) site.size) page
      (start_of page site.size) (items_of (map (activity site.base) (page_of page site.size seen))))

  pub past_stream : (error : ReadError) → Err error ≡ paging_of site page total
      → page_of_stream site seen page ≡ Err error
  unfolding page_of_stream
  past_stream error is = shown_past site page (length seen) error text (rw total_is at is)

  pub found_stream : (paging : Paging) (base found : List ℕ) → Ok paging ≡ paging_of site page total
      → base ≡ site.base
      → found ≡ compact_text (stream_page (changes_whole base)
      (page_count paging.total paging.size) paging.page (start_of paging.page paging.size)
      (items_of (map (activity base) (page_of paging.page paging.size seen))))
      → page_of_stream site seen page ≡ Ok found
  unfolding page_of_stream
  found_stream paging base found checked base_is is =
      let there : Ok paging ≡ paging_of site page (length seen) = rw total_is at checked in
      let asked = paging_is site page (length seen) paging there in
      shown_there site page (length seen) paging text there
      ∙ ap Ok (sym (rw (asked, base_is) at is))
