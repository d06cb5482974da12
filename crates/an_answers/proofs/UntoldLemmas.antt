-- No answer depends on to whom else annotations are shown: each is made of annotations without
-- their inner groups as it is of those with them.
use Rattle.std.proofs.Common.{◌≡◌, ℕ, ◌+◌, ◌||◌, Bool, true, false, List, [], ◌∷◌, ◌++◌, length, map, filter, refl, sym, ap, ap₂, ◌∙◌}
use Rattle.std.specs.Prelude.{flat_map, Option, Some, None, option_and_then, option_map, ok_or}
use Rattle.std.specs.List.{filter_map}
use Rattle.std.proofs.lemmas.List.{drop-map, length-map, take-map}
use Rattle.serde_json.specs.Data.{Data}
use Rattle.serde_json.specs.View.{items_of}
use Rattle.an_base.specs.declared.span.Prefer.{Prefer}
use Rattle.an_base.specs.Outcome.{or_refuse, passes}
use Rattle.an_complete.specs.Ask.{AskRecord}
use Rattle.an_complete.specs.Complete.{asked_notes, asked_notes_on, asked_terms, asked_terms_on, complete_of, filters_of}
use Rattle.an_gather.specs.Chosen.{chosen, gather_complete_of, gather_search_of, gather_whole}
use Rattle.an_gather.specs.Gather.{GatherAskRecord, GatherRecord}
use Rattle.an_search.specs.Gathered.{hits_on, is_on_one}
use Rattle.an_pages.specs.Bodies.{annotation_of_view, manifest_of_view, missing_note, note_body}
use Rattle.an_pages.specs.Canvas.{canvas_in, canvas_page_of, canvas_whole, is_row_about, notes_about, presentation_context}
use Rattle.an_pages.specs.Container.{container_body, container_of, container_page_of, container_whole, iri_item, items_on, notes_on, own_text}
use Rattle.an_anchor.specs.Comments.{anchors_of, is_lost_in, is_orphaned, live_anchors, live_in, orphans, orphans_of, row_targets, targets_on, texts_in}
use Rattle.an_routes.specs.Routes.{read_methods}
use Rattle.an_routes.specs.declared.kinds.Read.{Read}
use Rattle.an_routes.specs.declared.kinds.Read.TheVariants as read
use Rattle.an_list.proofs.ListedLemmas.{filter_same}
use Rattle.an_list.specs.Listed.{listed_note, marks_of, row_marks}
use Rattle.an_list.specs.Notes.{notes_text}
use Rattle.an_list.specs.Page.{page_iri, page_of}
use Rattle.an_list.specs.declared.error.ReadError.TheVariants.{Absent}
use Rattle.an_model.specs.Bodies.{texts_of}
use Rattle.an_query.specs.Query.{QueryRecord}
use Rattle.an_iri.specs.Names.{names_in}
use Rattle.an_search.specs.Search.{found_text, hits, hits_where, search_of, whole_of}
use Rattle.an_list.specs.Site.{Site}
use Rattle.an_search.specs.Wanted.{given_pieces, matches, wanted_of}
use Rattle.an_list.specs.declared.page.PagedList.{PagedList}
use Rattle.an_search.specs.declared.wanted.Wanted.{Wanted}
use Rattle.an_selectors.specs.declared.region.Xywh.{Xywh}
use Rattle.an_state.proofs.FormerLemmas.{filter_map-map, viewed-alike}
use Rattle.an_state.proofs.UntoldLemmas.{blotted-alike, chosen-alike, found-alike, on-alike}
use Rattle.an_state.specs.Former.{former_view_by, widened_state}
use Rattle.an_state.specs.State.{LiveNote, NoteState}
use Rattle.an_state.specs.Terms.{terms_of_row}
use Rattle.an_state.specs.Untold.{blotted, blotted_live, blotted_view}
use Rattle.an_state.specs.View.{View, is_on, note_in, view_by}
use Rattle.an_answers.specs.Answer.{answer_of, shown_of, shown_reply, unless_nobody, with_iris}
use Rattle.an_answers.specs.Untold.{AnsweredAlike, GroupsUntold}

-- ---- one annotation

-- what is made of an annotation's row, if it looks at no inner group where the annotation is live
module _ {A : Type 0} (made : NoteState → A) where
  same-row : (row : NoteState)
      → ((live : LiveNote)
      → made (blotted (record row { live = Some live })) ≡ made (record row { live = Some live }))
      → made (blotted (record row { live = None })) ≡ made (record row { live = None })
      → made (blotted row) ≡ made row
  same-row row alive dead = by row.live
    where
      by : (live : Option LiveNote)
          → made (blotted (record row { live = live })) ≡ made (record row { live = live })
      by None = dead
      by (Some live) = alive live

listed-same : (base : List ℕ) (row : NoteState)
    → listed_note base (blotted row) ≡ listed_note base row
listed-same base row = same-row (listed_note base) row (λ live. refl) refl

marks-same : (base : List ℕ) (terms : List (List ℕ)) (page : List ℕ) (number : ℕ) (row : NoteState)
    → row_marks base terms page number (blotted row) ≡ row_marks base terms page number row
marks-same base terms page number row =
    same-row (row_marks base terms page number) row (λ live. refl) refl

matches-same : (wanted : Wanted) (row : NoteState)
    → matches wanted (blotted row) ≡ matches wanted row
matches-same wanted row = same-row (matches wanted) row (λ live. refl) refl

about-same : (canvas : List ℕ) (region : Option Xywh) (row : NoteState)
    → is_row_about canvas region (blotted row) ≡ is_row_about canvas region row
about-same canvas region row = same-row (is_row_about canvas region) row (λ live. refl) refl

terms-same : (row : NoteState) → terms_of_row (blotted row) ≡ terms_of_row row
terms-same row = same-row terms_of_row row (λ live. refl) refl

body-same : (site : Site) (row : NoteState) → note_body site (blotted row) ≡ note_body site row
body-same site row = same-row (note_body site) row (λ live. refl) refl

-- ---- lists of them

page-same : (page size : ℕ) (rows : List NoteState)
    → page_of page size (map blotted rows) ≡ map blotted (page_of page size rows)
page-same page size rows = rw (drop-map blotted, take-map blotted) refl

-- the annotations of a page, as lists give them
items-same : (base : List ℕ) (page size : ℕ) (rows : List NoteState)
    → filter_map (listed_note base) (page_of page size (map blotted rows))
    ≡ filter_map (listed_note base) (page_of page size rows)
items-same base page size rows =
    ap (filter_map (listed_note base)) (page-same page size rows)
    ∙ filter_map-map blotted (listed_note base) (listed_note base) (page_of page size rows)
    (listed-same base)

iris-same : (base : List ℕ) (rows : List NoteState)
    → map (iri_item base) (map blotted rows) ≡ map (iri_item base) rows
iris-same base [] = refl
iris-same base (row ∷ rows) =
    ap (λ (items : List Data). iri_item base row ∷ items) (iris-same base rows)

-- the marks of annotations, numbered on
all-marks-same : (base : List ℕ) (terms : List (List ℕ)) (page : List ℕ) (number : ℕ)
    (rows : List NoteState)
    → marks_of base terms page number (map blotted rows) ≡ marks_of base terms page number rows
all-marks-same base terms page number [] = refl
all-marks-same base terms page number (row ∷ rows) =
    rw (marks-same base terms page number row)
    (ap (λ marks. row_marks base terms page number row ++ marks)
    (all-marks-same base terms page (number + length (row_marks base terms page number row)) rows))

-- what is made of each of them
flat-same : {A : Type 0} (made : NoteState → List A)
    → ((row : NoteState) → made (blotted row) ≡ made row) → (rows : List NoteState)
    → flat_map made (map blotted rows) ≡ flat_map made rows
flat-same made same [] = refl
flat-same {A} made same (row ∷ rows) =
    ap₂ (λ (one others : List A). one ++ others) (same row) (flat-same made same rows)

-- the page of them that is asked for
text-same : (site : Site) (context : List ℕ) (whole : PagedList) (page : ℕ)
    (terms ignored : List (List ℕ)) (notes : List NoteState)
    → notes_text site context whole page terms ignored (map blotted notes)
    ≡ notes_text site context whole page terms ignored notes
unfolding notes_text
text-same site context whole page terms ignored notes =
    rw (
      length-map notes blotted,
      items-same site.base page site.size notes,
      page-same page site.size notes,
    )
    (rw (all-marks-same site.base terms (page_iri whole page) 1 (page_of page site.size notes))
    refl)

-- those that pass a test, of the annotations on a manifest
chosen-same : (test : NoteState → Bool) → ((row : NoteState) → test (blotted row) ≡ test row)
    → (view : View) (manifest : List ℕ)
    → filter test (filter (is_on manifest) (map blotted view.notes))
    ≡ map blotted (filter test (filter (is_on manifest) view.notes))
chosen-same test same view manifest =
    ap (filter test) (chosen-alike (is_on manifest) (on-alike manifest) view.notes)
    ∙ chosen-alike test same (filter (is_on manifest) view.notes)

-- ---- searches and completions

hits-same : (view : View) (manifest : List ℕ) (wanted : Wanted)
    → hits (blotted_view view) manifest wanted ≡ map blotted (hits view manifest wanted)
unfolding hits
hits-same view manifest wanted = chosen-same (matches wanted) (matches-same wanted) view manifest

found-same : (site : Site) (whole : PagedList) (query : QueryRecord) (found : List NoteState)
    → found_text site whole query (map blotted found) ≡ found_text site whole query found
unfolding found_text
found-same site whole query found = text-same site _ whole query.page _ _ found

search-same : (site : Site) (view : View) (manifest : List ℕ) (query : QueryRecord)
    → search_of site (blotted_view view) manifest query ≡ search_of site view manifest query
search-same site view manifest query =
    rw (
      hits-same view manifest (wanted_of query),
      found-same site (whole_of site.base manifest query) query
          (hits view manifest (wanted_of query)),
    ) refl

asked-same : (view : View) (manifest : List ℕ) (ask : AskRecord)
    → asked_terms (blotted_view view) manifest ask ≡ asked_terms view manifest ask
unfolding asked_terms
asked-same view manifest ask =
    rw (
      chosen-same (matches (filters_of ask)) (matches-same (filters_of ask)) view manifest,
      flat-same terms_of_row terms-same (asked_notes view manifest (filters_of ask)),
    ) refl

complete-same : (site : Site) (view : View) (manifest : List ℕ) (ask : AskRecord)
    → complete_of site (blotted_view view) manifest ask ≡ complete_of site view manifest ask
complete-same site view manifest ask = rw (asked-same view manifest ask) refl

-- those that pass a test and are wanted
where-same : (test : NoteState → Bool) → ((row : NoteState) → test (blotted row) ≡ test row)
    → (view : View) (wanted : Wanted)
    → hits_where test (blotted_view view) wanted ≡ map blotted (hits_where test view wanted)
where-same test same view wanted =
    ap (filter (matches wanted)) (chosen-alike test same view.notes)
    ∙ chosen-alike (matches wanted) (matches-same wanted) (filter test view.notes)

on-one-same : (manifests : List (List ℕ)) (row : NoteState)
    → is_on_one manifests (blotted row) ≡ is_on_one manifests row
on-one-same [] row = refl
on-one-same (manifest ∷ manifests) row =
    ap₂ (λ a b. a || b) (on-alike manifest row) (on-one-same manifests row)

gather-search-same : (site : Site) (view : View) (gather : GatherRecord)
    → gather_search_of site (blotted_view view) gather ≡ gather_search_of site view gather
unfolding hits_on
gather-search-same site view gather =
    let manifests = chosen view (given_pieces gather.manifests) in
    rw (where-same (is_on_one manifests) (on-one-same manifests) view (wanted_of gather.query))
    (found-same site (gather_whole site.base gather) gather.query
    (hits_where (is_on_one manifests) view (wanted_of gather.query)))

gather-complete-same : (site : Site) (view : View) (gather : GatherAskRecord)
    → gather_complete_of site (blotted_view view) gather ≡ gather_complete_of site view gather
unfolding gather_complete_of asked_terms_on
gather-complete-same site view gather =
    let manifests = chosen view (given_pieces gather.manifests) in
    let filters = filters_of gather.ask in
    rw (
      where-same (is_on_one manifests) (on-one-same manifests) view filters,
      flat-same terms_of_row terms-same (asked_notes_on view manifests filters),
    ) refl

-- ---- one annotation, and those on a canvas and in a container

manifest-same : (site : Site) (view : View) (name : List ℕ)
    → manifest_of_view site (blotted_view view) name ≡ manifest_of_view site view name
unfolding manifest_of_view
manifest-same site view name = refl

note-same : (site : Site) (view : View) (owner name : List ℕ)
    → annotation_of_view site (blotted_view view) owner name
    ≡ annotation_of_view site view owner name
unfolding annotation_of_view
note-same site view owner name = rw (found-alike view owner name) (by (note_in view owner name))
  where
    by : (found : Option NoteState)
        → ok_or (option_and_then (note_body site) (option_map blotted found))
        (missing_note view owner name)
        ≡ ok_or (option_and_then (note_body site) found) (missing_note view owner name)
    by None = refl
    by (Some row) = ap (λ body. ok_or body (missing_note view owner name)) (body-same site row)

about-all-same : (view : View) (manifest canvas : List ℕ) (region : Option Xywh)
    → notes_about (blotted_view view) manifest canvas region
    ≡ map blotted (notes_about view manifest canvas region)
unfolding notes_about
about-all-same view manifest canvas region =
    chosen-same (is_row_about canvas region) (about-same canvas region) view manifest

canvas-same : (site : Site) (view : View) (name : List ℕ) (canvas : ℕ)
    (region : Option Xywh) (page : ℕ)
    → canvas_page_of site (blotted_view view) name canvas region page
    ≡ canvas_page_of site view name canvas region page
unfolding canvas_page_of
canvas-same site view name canvas region page = by (canvas_in view name canvas)
  where
    by : (found : Option (List ℕ))
        → or_refuse Absent found (λ id. notes_text site presentation_context
        (canvas_whole site.base name canvas region) page [] []
        (notes_about (blotted_view view) name id region))
        ≡ or_refuse Absent found (λ id. notes_text site presentation_context
        (canvas_whole site.base name canvas region) page [] [] (notes_about view name id region))
    by None = refl
    by (Some id) =
        rw (about-all-same view name id region)
        (text-same site presentation_context (canvas_whole site.base name canvas region) page [] []
        (notes_about view name id region))

on-all-same : (view : View) (manifest : List ℕ)
    → notes_on (blotted_view view) manifest ≡ map blotted (notes_on view manifest)
unfolding notes_on
on-all-same view manifest = chosen-alike (is_on manifest) (on-alike manifest) view.notes

page-items-same : (base : List ℕ) (iris : Bool) (page size : ℕ) (notes : List NoteState)
    → items_on base iris (page_of page size (map blotted notes))
    ≡ items_on base iris (page_of page size notes)
page-items-same base true page size notes =
    ap items_of (ap (map (iri_item base)) (page-same page size notes)
    ∙ iris-same base (page_of page size notes))
page-items-same base false page size notes = ap items_of (items-same base page size notes)

container-body-same : (site : Site) (whole : PagedList) (prefer : Prefer) (notes : List NoteState)
    → container_body site whole prefer (map blotted notes) ≡ container_body site whole prefer notes
container-body-same site whole prefer notes =
    rw (length-map notes blotted, page-items-same site.base prefer.iris 1 site.size notes) refl

container-same : (site : Site) (view : View) (name : List ℕ) (prefer : Prefer)
    → container_of site (blotted_view view) name prefer ≡ container_of site view name prefer
unfolding container_of
container-same site view name prefer =
    rw (
      on-all-same view name,
      container-body-same site (container_whole site.base name prefer.iris) prefer
          (notes_on view name),
    ) refl

own-same : (site : Site) (whole : PagedList) (iris : Bool) (page : ℕ) (notes : List NoteState)
    → own_text site whole iris page (map blotted notes) ≡ own_text site whole iris page notes
unfolding own_text
own-same site whole iris page notes =
    rw (length-map notes blotted, page-items-same site.base iris page site.size notes) refl

container-page-same : (site : Site) (view : View) (name : List ℕ) (page : ℕ) (iris : Bool)
    → container_page_of site (blotted_view view) name page iris
    ≡ container_page_of site view name page iris
unfolding container_page_of
container-page-same site view name page iris =
    rw (
      on-all-same view name,
      own-same site (container_whole site.base name iris) iris page (notes_on view name),
    ) refl

-- ---- comments

targets-same : (row : NoteState) → row_targets (blotted row) ≡ row_targets row
targets-same row = same-row row_targets row (λ live. refl) refl

targets-on-same : (view : View) (manifest : List ℕ)
    → targets_on (blotted_view view) manifest ≡ targets_on view manifest
unfolding targets_on
targets-on-same view manifest =
    ap (flat_map row_targets) (on-all-same view manifest)
    ∙ flat-same row_targets targets-same (notes_on view manifest)

live-in-same : (view : View) (owner name : List ℕ)
    → live_in (blotted_view view) owner name ≡ option_map blotted_live (live_in view owner name)
live-in-same view owner name = rw (found-alike view owner name) (by (note_in view owner name))
  where
    by : (found : Option NoteState)
        → option_and_then (λ (row : NoteState). row.live) (option_map blotted found)
        ≡ option_map blotted_live (option_and_then (λ (row : NoteState). row.live) found)
    by None = refl
    by (Some row) = refl

anchors-same : (site : Site) (view : View) (owner name : List ℕ) (page : ℕ)
    → anchors_of site (blotted_view view) owner name page ≡ anchors_of site view owner name page
unfolding anchors_of
anchors-same site view owner name page =
    rw (live-in-same view owner name) (by (live_in view owner name))
  where
    by : (found : Option LiveNote)
        → or_refuse (missing_note view owner name) (option_map blotted_live found)
        (live_anchors site (blotted_view view) owner name page)
        ≡ or_refuse (missing_note view owner name) found (live_anchors site view owner name page)
    by None = refl
    by (Some live) = rw (targets-on-same view live.manifest) refl

texts-in-same : (view : View) (names : List ℕ × List ℕ)
    → texts_in (blotted_view view) names ≡ texts_in view names
texts-in-same view names =
    rw (live-in-same view names.0 names.1) (by (live_in view names.0 names.1))
  where
    by : (found : Option LiveNote)
        → option_map (λ (live : LiveNote). texts_of live.tree) (option_map blotted_live found)
        ≡ option_map (λ (live : LiveNote). texts_of live.tree) found
    by None = refl
    by (Some live) = refl

orphaned-same : (site : Site) (view : View) (comment : _)
    → is_orphaned site (blotted_view view) comment ≡ is_orphaned site view comment
orphaned-same site view comment = by (names_in site.base comment.target.source)
  where
    by : (names : Option (List ℕ × List ℕ))
        → passes (λ names. is_lost_in (texts_in (blotted_view view) names) comment) names
        ≡ passes (λ names. is_lost_in (texts_in view names) comment) names
    by None = refl
    by (Some names) = ap (λ texts. is_lost_in texts comment) (texts-in-same view names)

orphans-all-same : (site : Site) (view : View) (manifest : List ℕ)
    → orphans site (blotted_view view) manifest ≡ orphans site view manifest
orphans-all-same site view manifest =
    ap (filter (is_orphaned site (blotted_view view))) (targets-on-same view manifest)
    ∙ filter_same (is_orphaned site (blotted_view view)) (is_orphaned site view)
    (orphaned-same site view) (targets_on view manifest)

orphans-same : (site : Site) (view : View) (manifest : List ℕ) (page : ℕ)
    → orphans_of site (blotted_view view) manifest page ≡ orphans_of site view manifest page
unfolding orphans_of
orphans-same site view manifest page = rw (orphans-all-same site view manifest) refl

-- ---- the answers

shown-same : (site : Site) (view : View) (prefer : Prefer) (what : Read)
    → shown_of site (blotted_view view) prefer what ≡ shown_of site view prefer what
shown-same site view prefer (read.Manifest name) = rw (manifest-same site view name) refl
shown-same site view prefer (read.Note owner name) = rw (note-same site view owner name) refl
shown-same site view prefer (read.Search manifest query) =
    rw (search-same site view manifest query) refl
shown-same site view prefer (read.Complete manifest ask) =
    rw (complete-same site view manifest ask) refl
shown-same site view prefer (read.Canvas manifest canvas region page) =
    rw (canvas-same site view manifest canvas region page) refl
shown-same site view prefer (read.Container manifest iris) =
    rw (container-same site view manifest (with_iris prefer iris)) refl
shown-same site view prefer (read.ContainerPage manifest page iris) =
    rw (container-page-same site view manifest page iris) refl
shown-same site view prefer read.Changes = refl
shown-same site view prefer (read.ChangesPage page) = refl
shown-same site view prefer (read.Anchors owner name page) =
    rw (anchors-same site view owner name page) refl
shown-same site view prefer (read.Orphans manifest page) =
    rw (orphans-same site view manifest page) refl
shown-same site view prefer read.Collection = refl
shown-same site view prefer (read.GatherSearch gather) =
    rw (gather-search-same site view gather) refl
shown-same site view prefer (read.GatherComplete ask) = rw (gather-complete-same site view ask) refl

pub untold : GroupsUntold
untold site view prefer what =
    ap (λ shown. unless_nobody view (read_methods what) (shown_reply (read_methods what) shown))
    (shown-same site view prefer what)

pub answered : AnsweredAlike
answered s caller site prefer what =
    sym (untold site (view_by (widened_state s) caller) prefer what)
    ∙ ap (λ view. answer_of site view prefer what)
    (ap blotted_view (viewed-alike s caller) ∙ blotted-alike (former_view_by s caller))

pub ruleset untold_answers = (untold, answered)
