-- The container's annotations at their places, and the texts of the container and of its pages.
use Rattle.std.proofs.Common.{◌≡◌, ℕ, ◌+◌, List, [], ◌∷◌, ◌++◌, map, length, Bool, true, false, cond, ◌&&◌, Option, Some, None, Ok, Err, codes, refl, sym, ap, subst, ◌∙◌, append-nil, append_assoc, length-append}
use Rattle.std.specs.Prelude.{filter, slice_get}
use Rattle.std.specs.List.{filter_map}
use Rattle.serde_json.specs.Data.{Data, number, unsigned, string, array, object, Items, Members, member, no_members}
use Rattle.serde_json.specs.View.{items_of}
use Rattle.serde_json.specs.Written.{compact_text}
use Rattle.an_base.specs.Object.{with_member, with_member_if}
use Rattle.an_base.specs.Write.{member_text, commas, item_commas}
use Rattle.an_policy.specs.Audience.{Identity}
use Rattle.an_state.specs.State.{State, NoteState}
use Rattle.an_state.specs.Places.{places_from}
use Rattle.an_state.specs.View.{view_of, is_on, shows_note, readable_places}
use Rattle.an_base.specs.declared.span.Prefer.{Prefer}
use Rattle.an_list.proofs.ListedLemmas.{stand-found}
use Rattle.an_list.proofs.ReadableLemmas.{filter_both}
use Rattle.an_list.proofs.WrittenLemmas.{commas-member_if}
use Rattle.an_list.specs.Listed.{StandAt}
use Rattle.an_list.specs.Page.{page_count, page_iri, page_of, paging_of, start_of, link_after, link_before}
use Rattle.an_list.specs.PageText.{member_if, text_if}
use Rattle.an_list.specs.Site.{Site}
use Rattle.an_list.specs.declared.page.PageForm.TheVariants as form
use Rattle.an_list.specs.declared.error.ReadError.{ReadError}
use Rattle.an_list.specs.declared.page.Paging.{Paging}
use Rattle.an_list.specs.declared.page.PagedList.{PagedList}
use Rattle.an_list.proofs.PageLemmas.{paging_is, shown_past, shown_there}
use Rattle.an_pages.specs.Bodies.{note_context}
use Rattle.an_pages.specs.Container.{container_contexts, container_link, container_tree, container_body, container_types, first_page, held_page, iri_item, items_on, notes_on, own_page, own_text}
use Rattle.an_pages.specs.ContainerText.{content_text, end_text, part_text, whole_text}

-- ---- at places

slice_get-append : {A : Type 0} (before : List A) (row : A) (rows : List A)
    → slice_get (before ++ row ∷ rows) (length before) ≡ Some row
slice_get-append [] row rows = refl
slice_get-append (x ∷ before) row rows = slice_get-append before row rows

-- the rows that pass a test stand at the places where it passes
stand_places : (test : NoteState → Bool) (before rows : List NoteState)
    → map (slice_get (before ++ rows)) (places_from test (length before) rows)
    ≡ map Some (filter test rows)
stand_places test before [] = refl
stand_places test before (row ∷ rows) =
    let places = places_from test (length before + 1) rows in
    let next : map (slice_get (before ++ row ∷ rows)) places ≡ map Some (filter test rows) =
    subst (λ n.
    map (slice_get (before ++ row ∷ rows)) (places_from test n rows) ≡ map Some (filter test rows))
    (length-append before (row ∷ []))
    (subst (λ all. map (slice_get all) (places_from test (length (before ++ row ∷ [])) rows)
    ≡ map Some (filter test rows))
    (append_assoc before (row ∷ []) rows)
    (stand_places test (before ++ row ∷ []) rows)) in
    elim (test row) as (λ b. map (slice_get (before ++ row ∷ rows))
    (cond b (length before ∷ places) places)
    ≡ map Some (cond b (row ∷ filter test rows) (filter test rows))) [
      | true ↦ rw (slice_get-append before row rows) (ap (λ more. Some row ∷ more) next)
      | false ↦ next
    ]

-- the annotations of the view on the manifest stand at the readable places
pub on_stand : (s : State) (who : Identity) (manifest : List ℕ)
    → StandAt s.notes (readable_places s who manifest) (notes_on (view_of s who) manifest)
unfolding notes_on
on_stand s who manifest =
    stand_places (λ row. is_on manifest row && shows_note s who row) [] s.notes
    ∙ ap (λ (rows : List NoteState). map Some rows)
    (sym (filter_both (is_on manifest) (shows_note s who) s.notes))

-- the IRIs at the places are those of the annotations that stand there
pub iris_on : (base : List ℕ) (iris : Bool) (notes : List NoteState) (places : List ℕ)
    (rows : List NoteState) → iris ≡ true → StandAt notes places rows
    → item_commas (items_of (map (iri_item base) (filter_map (slice_get notes) places)))
    ≡ item_commas (items_on base iris rows)
iris_on base iris notes places rows is stand =
    ap (λ rows. item_commas (items_of (map (iri_item base) rows)))
    (stand-found notes places rows stand)
    ∙ ap (λ iris. item_commas (items_on base iris rows)) (sym is)

-- ---- which page

module _ (site : Site) (whole : PagedList) (iris : Bool) (page : ℕ) (rows : List NoteState)
    (total : ℕ) (total_is : total ≡ length rows) where
  pub past_own_page : (error : ReadError) → Err error ≡ paging_of site page total
      → own_text site whole iris page rows ≡ Err error
  unfolding own_text
  past_own_page error is =
      shown_past site page (length rows) error
      (compact_text (own_page whole page site.size (length rows)
      (items_on site.base iris (page_of page site.size rows))))
      (rw total_is at is)

  pub found_own_page : (paging : Paging) (base text : List ℕ)
      → Ok paging ≡ paging_of site page total → base ≡ site.base
      → text ≡ compact_text (own_page whole paging.page paging.size paging.total
      (items_on base iris (page_of paging.page paging.size rows)))
      → own_text site whole iris page rows ≡ Ok text
  unfolding own_text
  found_own_page paging base text checked base_is is =
      let there : Ok paging ≡ paging_of site page (length rows) = rw total_is at checked in
      let asked = paging_is site page (length rows) paging there in
      shown_there site page (length rows) paging
      (compact_text (own_page whole page site.size (length rows)
      (items_on site.base iris (page_of page site.size rows)))) there
      ∙ ap Ok (sym (rw (asked, base_is) at is))

-- ---- the members' texts

abbrev end_members : ℕ → ℕ → Members
end_members page size =
    member (codes "startIndex") (number (unsigned (start_of page size)))
    (member (codes "type") (string (codes "AnnotationPage")) no_members)

abbrev content_members : PagedList → ℕ → ℕ → ℕ → Items → Members → Members
content_members whole page size total items others =
    member (codes "id") (string (page_iri whole page))
    (member (codes "items") (array items)
    (member_if (codes "next") (link_after form.Iri whole (page_count total size) page) others))

abbrev part_members : PagedList → ℕ → ℕ → Members → Members
part_members whole page total others =
    member (codes "partOf") (container_link whole total)
    (member_if (codes "prev") (link_before form.Iri whole page) others)

abbrev pub held_members : PagedList → ℕ → ℕ → ℕ → Items → Members
held_members whole page size total items =
    content_members whole page size total items (end_members page size)

abbrev pub own_members : PagedList → ℕ → ℕ → ℕ → Items → Members
own_members whole page size total items =
    member (codes "@context") (string note_context)
    (content_members whole page size total items
    (part_members whole page total (end_members page size)))

end_is : (page size : ℕ) → end_text page size ≡ commas (end_members page size)
end_is page size =
    ap (λ last. member_text (codes "startIndex") (number (unsigned (start_of page size))) ++ last)
    (sym (append-nil (member_text (codes "type") (string (codes "AnnotationPage")))))

content_then : (whole : PagedList) (page size total : ℕ) (items : Items) (others : Members)
    → content_text whole page size total items ++ commas others
    ≡ commas (content_members whole page size total items others)
content_then whole page size total items others =
    let id = member_text (codes "id") (string (page_iri whole page)) in
    let list = member_text (codes "items") (array items) in
    let after = link_after form.Iri whole (page_count total size) page in
    append_assoc id (list ++ text_if (codes "next") after) (commas others)
    ∙ ap (λ all. id ++ all) (append_assoc list (text_if (codes "next") after) (commas others)
    ∙ ap (λ all. list ++ all) (sym (commas-member_if (codes "next") after others)))

part_then : (whole : PagedList) (page total : ℕ) (others : Members)
    → part_text whole page total ++ commas others ≡ commas (part_members whole page total others)
part_then whole page total others =
    let part = member_text (codes "partOf") (container_link whole total) in
    let before = link_before form.Iri whole page in
    append_assoc part (text_if (codes "prev") before) (commas others)
    ∙ ap (λ all. part ++ all) (sym (commas-member_if (codes "prev") before others))

pub held_pieces : (whole : PagedList) (page size total : ℕ) (items : Items)
    → content_text whole page size total items ++ end_text page size
    ≡ commas (held_members whole page size total items)
held_pieces whole page size total items =
    ap (λ last. content_text whole page size total items ++ last) (end_is page size)
    ∙ content_then whole page size total items (end_members page size)

pub own_pieces : (whole : PagedList) (page size total : ℕ) (items : Items)
    → member_text (codes "@context") (string note_context)
    ++ (content_text whole page size total items
    ++ (part_text whole page total ++ end_text page size))
    ≡ commas (own_members whole page size total items)
own_pieces whole page size total items =
    let place = part_members whole page total (end_members page size) in
    ap (λ all. member_text (codes "@context") (string note_context) ++ all)
    (ap (λ last. content_text whole page size total items ++ last)
    (ap (λ last. part_text whole page total ++ last) (end_is page size)
    ∙ part_then whole page total (end_members page size))
    ∙ content_then whole page size total items place)

-- ---- the members are the page's

with_after : (after : Option Data) (id items start type : Data)
    → object (member (codes "id") id
    (member (codes "items") items
    (member_if (codes "next") after
    (member (codes "startIndex") start (member (codes "type") type no_members)))))
    ≡ with_member_if (codes "next") after
    (object (member (codes "id") id
    (member (codes "items") items
    (member (codes "startIndex") start (member (codes "type") type no_members)))))
with_after None id items start type = refl
with_after (Some after) id items start type = refl

with_links : (after before : Option Data) (context id items part start type : Data)
    → object
    (member (codes "@context") context (member (codes "id") id (member (codes "items") items
    (member_if (codes "next") after
    (member (codes "partOf") part
    (member_if (codes "prev") before
    (member (codes "startIndex") start (member (codes "type") type no_members))))))))
    ≡ with_member (codes "@context") context
    (with_member (codes "partOf") part
    (with_member_if (codes "prev") before (with_member_if (codes "next") after
    (object (member (codes "id") id
    (member (codes "items") items
    (member (codes "startIndex") start (member (codes "type") type no_members))))))))
with_links None None context id items part start type = refl
with_links None (Some before) context id items part start type = refl
with_links (Some after) None context id items part start type = refl
with_links (Some after) (Some before) context id items part start type = refl

pub held_is : (whole : PagedList) (page size total : ℕ) (items : Items)
    → object (held_members whole page size total items) ≡ held_page whole page size total items
unfolding held_page
held_is whole page size total items =
    with_after (link_after form.Iri whole (page_count total size) page)
    (string (page_iri whole page)) (array items) (number (unsigned (start_of page size)))
    (string (codes "AnnotationPage"))

pub own_is : (whole : PagedList) (page size total : ℕ) (items : Items)
    → object (own_members whole page size total items) ≡ own_page whole page size total items
unfolding own_page held_page
own_is whole page size total items =
    with_links (link_after form.Iri whole (page_count total size) page)
    (link_before form.Iri whole page) (string note_context) (string (page_iri whole page))
    (array items)
    (container_link whole total) (number (unsigned (start_of page size)))
    (string (codes "AnnotationPage"))

-- ---- the container

abbrev pub whole_members : PagedList → ℕ → ℕ → Members
whole_members whole size total =
    member (codes "id") (string whole.path)
    (member (codes "last") (string (page_iri whole (page_count total size)))
    (member (codes "total") (number (unsigned total))
    (member (codes "type") container_types no_members)))

abbrev pub container_members : PagedList → Data → ℕ → ℕ → Members
container_members whole first size total =
    member (codes "@context") container_contexts
    (member (codes "first") first (whole_members whole size total))

pub container_pieces : (whole : PagedList) (first : Data) (size total : ℕ)
    → member_text (codes "@context") container_contexts
    ++ (member_text (codes "first") first ++ whole_text whole size total)
    ≡ commas (container_members whole first size total)
container_pieces whole first size total =
    let id = member_text (codes "id") (string whole.path) in
    let last = member_text (codes "last") (string (page_iri whole (page_count total size))) in
    let count = member_text (codes "total") (number (unsigned total)) in
    ap (λ end. member_text (codes "@context") container_contexts
    ++ (member_text (codes "first") first ++ (id ++ (last ++ (count ++ end)))))
    (sym (append-nil (member_text (codes "type") container_types)))

pub container_is : (whole : PagedList) (first : Data) (size total : ℕ)
    → object (container_members whole first size total) ≡ container_tree whole first size total
unfolding container_tree
container_is whole first size total = refl

pub container_found : (site : Site) (whole : PagedList) (prefer : Prefer) (rows : List NoteState)
    (base body : List ℕ) (total size : ℕ) → base ≡ site.base → total ≡ length rows
    → size ≡ site.size
    → body ≡ compact_text (container_tree whole
    (first_page whole prefer.minimal size total (items_on base prefer.iris (page_of 1 size rows)))
    size total)
    → body ≡ container_body site whole prefer rows
container_found site whole prefer rows base body total size base_is total_is size_is is =
    rw (base_is, total_is, size_is) at is
