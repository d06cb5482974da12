-- The pages of comments and of orphans: their members, which of them is asked for, and how many
-- steps it takes.
use Rattle.std.proofs.Common.{◌≡◌, ℕ, ◌+◌, List, length, map, take, drop, Result, Ok, Err, codes, refl, sym, ap, ◌∙◌}
use Rattle.serde_json.specs.Data.{Data, array, object, string, member}
use Rattle.serde_json.specs.View.{items_of}
use Rattle.serde_json.specs.Written.{compact_text}
use Rattle.an_base.specs.Write.{item_commas}
use Rattle.an_list.proofs.PageLemmas.{paging_is, shown_past, shown_there}
use Rattle.an_list.specs.Cost.{Takes}
use Rattle.an_list.specs.Page.{page_iri, page_of, paging_of, start_of}
use Rattle.an_list.specs.Site.{Site}
use Rattle.an_list.specs.declared.error.ReadError.{ReadError}
use Rattle.an_list.specs.declared.page.Paging.{Paging}
use Rattle.an_list.specs.declared.page.PagedList.{PagedList}
use Rattle.an_anchor.specs.Comments.{anchor_item, anchors_text, anchors_tree, orphan_item, orphans_text, orphans_tree}
use Rattle.an_anchor.specs.Walk.{HasCounted, count_members}
use Rattle.an_anchor.specs.declared.comment.Comment.{Comment}
use Rattle.an_anchor.specs.declared.counted.Counted.{Counted}
use Rattle.an_anchor.specs.declared.counted.Window.{Window}

-- ---- members

pub anchors-is : (whole : PagedList) (paging : Paging) (list : List Data)
    → object (member (codes "anchors") (array (items_of list))
    (member (codes "id") (string (page_iri whole paging.page)) (count_members paging)))
    ≡ anchors_tree whole paging.page paging.size paging.total list
unfolding anchors_tree
anchors-is whole paging list = refl

pub orphans-is : (whole : PagedList) (paging : Paging) (list : List Data)
    → object (member (codes "id") (string (page_iri whole paging.page))
    (member (codes "orphans") (array (items_of list)) (count_members paging)))
    ≡ orphans_tree whole paging.page paging.size paging.total list
unfolding orphans_tree
orphans-is whole paging list = refl

-- ---- which page

module _ (item : Comment → Data) (site : Site) (page : ℕ) (comments : List Comment)
    (window : Window) (counted : Counted) (start : window.start ≡ start_of page site.size)
    (size : window.size ≡ site.size)
    (has : HasCounted item window comments counted) where
  -- the walk wrote the items of the page that is asked for
  pub items-are : (paging : Paging) → Ok paging ≡ paging_of site page counted.total
      → counted.items.items ≡ item_commas (items_of (map item (page_of page site.size comments)))
  items-are paging is =
      has.items
      ∙ ap (λ n. item_commas (items_of (map item (take window.size (drop n comments))))) start
      ∙ ap
      (λ n. item_commas (items_of (map item (take n (drop (start_of page site.size) comments)))))
      size

module _ (site : Site) (whole : PagedList) (page : ℕ) (texts : List (List ℕ))
    (comments : List Comment) (total : ℕ) (total_is : total ≡ length comments) where
  pub past_anchors : (error : ReadError) → Err error ≡ paging_of site page total
      → anchors_text site whole page texts comments ≡ Err error
  unfolding anchors_text
  past_anchors error is =
      shown_past site page (length comments) error
      (compact_text (anchors_tree whole page site.size (length comments)
      (map (anchor_item site.base texts) (page_of page site.size comments))))
      (rw total_is at is)

  pub found_anchors : (paging : Paging) (text : List ℕ) → Ok paging ≡ paging_of site page total
      → text ≡ compact_text (anchors_tree whole paging.page paging.size paging.total
      (map (anchor_item site.base texts) (page_of page site.size comments)))
      → anchors_text site whole page texts comments ≡ Ok text
  unfolding anchors_text
  found_anchors paging text checked is =
      let there : Ok paging ≡ paging_of site page (length comments) = rw total_is at checked in
      let asked = paging_is site page (length comments) paging there in
      shown_there site page (length comments) paging
      (compact_text (anchors_tree whole page site.size (length comments)
      (map (anchor_item site.base texts) (page_of page site.size comments)))) there
      ∙ ap Ok (sym (rw asked at is))

module _ (site : Site) (whole : PagedList) (page : ℕ) (orphans : List Comment) (total : ℕ)
    (total_is : total ≡ length orphans) where
  pub past_orphans : (error : ReadError) → Err error ≡ paging_of site page total
      → orphans_text site whole page orphans ≡ Err error
  unfolding orphans_text
  past_orphans error is =
      shown_past site page (length orphans) error
      (compact_text (orphans_tree whole page site.size (length orphans)
      (map (orphan_item site.base) (page_of page site.size orphans))))
      (rw total_is at is)

  pub found_orphans : (paging : Paging) (text : List ℕ) → Ok paging ≡ paging_of site page total
      → text ≡ compact_text (orphans_tree whole paging.page paging.size paging.total
      (map (orphan_item site.base) (page_of page site.size orphans)))
      → orphans_text site whole page orphans ≡ Ok text
  unfolding orphans_text
  found_orphans paging text checked is =
      let there : Ok paging ≡ paging_of site page (length orphans) = rw total_is at checked in
      let asked = paging_is site page (length orphans) paging there in
      shown_there site page (length orphans) paging
      (compact_text (orphans_tree whole page site.size (length orphans)
      (map (orphan_item site.base) (page_of page site.size orphans)))) there
      ∙ ap Ok (sym (rw asked at is))

-- ---- steps

-- steps that a call took before what may fail
pub takes_anyway : {A E : Type 0} (memory : E) (result : Result A E) (old new cost : ℕ)
    → new ≡ old + cost → Takes memory result old new cost
takes_anyway memory (Ok x) old new cost is = is
takes_anyway memory (Err e) old new cost is = λ other. is
