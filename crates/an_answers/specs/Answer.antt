-- The replies to reads and to writes. A read is answered from the caller's view alone.
use Rattle.std.specs.Prelude.{ℕ, List, ◌++◌, codes, decimal, Bool, true, false, ◌||◌, is_none}
use Rattle.std.specs.Prelude.{if◌then◌else◌, Result, Ok, Err}
use Rattle.std.specs.Result.{result_map_both}
use Rattle.an_code.specs.declared.code.Code.{Code}
use Rattle.an_code.specs.declared.code.Code.TheVariants as code
pub use Rattle.an_http.specs.Errors.{refusal_reply}
use Rattle.an_http.specs.declared.reply.Allow.{Allow}
use Rattle.an_http.specs.declared.reply.Media.{Media}
use Rattle.an_http.specs.declared.reply.Media.TheVariants as media
use Rattle.an_http.specs.declared.reply.Extra.{Extra}
use Rattle.an_http.specs.declared.reply.Extra.TheVariants as extra
use Rattle.an_http.specs.declared.reply.Reply.{Reply}
use Rattle.an_http.specs.declared.status.Status.{Status}
use Rattle.an_http.specs.declared.status.Status.TheVariants as status
use Rattle.an_iri.specs.Iris.{manifest_iri, note_iri, reader_iri}
use Rattle.an_state.specs.View.{View}
use Rattle.an_state.specs.declared.command.Object.{Object}
use Rattle.an_state.specs.declared.command.Object.TheVariants as object
use Rattle.an_machine.specs.declared.command.Refused.{Refused}
use Rattle.an_answers.specs.Refused.{write_refusal}
use Rattle.an_machine.specs.declared.command.WriteReply.{WriteReply}
use Rattle.an_base.specs.declared.span.Prefer.{Prefer}
use Rattle.an_anchor.specs.Comments.{anchors_of, orphans_of}
use Rattle.an_anchor.specs.Cost.{anchors_cost, orphans_cost}
use Rattle.an_pages.specs.Bodies.{manifest_of_view, annotation_of_view}
use Rattle.an_pages.specs.Canvas.{canvas_page_of}
use Rattle.an_pages.specs.Container.{container_of, container_page_of}
use Rattle.an_pages.specs.Cost.{canvas_page_cost, container_cost, container_page_cost}
use Rattle.an_stream.specs.Stream.{changes_of, changes_page_of}
use Rattle.an_search.specs.Cost.{search_cost}
use Rattle.an_search.specs.Search.{search_of}
use Rattle.an_list.specs.Site.{Site}
use Rattle.an_list.specs.declared.error.ReadError.{ReadError}
use Rattle.an_list.specs.declared.error.ReadError.TheVariants as error
use Rattle.an_complete.specs.Complete.{complete_of}
use Rattle.an_complete.specs.Cost.{complete_cost}
use Rattle.an_gather.specs.Chosen.{gather_complete_of, gather_search_of}
use Rattle.an_gather.specs.Collection.{collection_of}
use Rattle.an_gather.specs.Cost.{gather_complete_cost, gather_search_cost}
use Rattle.an_routes.specs.Routes.{read_methods}
use Rattle.an_answers.specs.declared.answers.Shown.{Shown}
use Rattle.an_routes.specs.declared.kinds.Read.{Read}
use Rattle.an_routes.specs.declared.kinds.Read.TheVariants as read

-- ---- refusals

abbrev pub not_signed : Code
not_signed = code.NotSigned

abbrev pub absent : Code
absent = code.Absent

-- ---- reads

-- why nothing is shown; want of memory is told otherwise
abbrev pub read_refusal : ReadError → Code
read_refusal error.Absent = absent
read_refusal error.Gone = code.Gone
read_refusal (error.NoPage pages) = code.NoPage pages
read_refusal error.Memory = absent

-- what is shown, or why it isn't
abbrev pub shown_with : Media → Extra → Result (List ℕ) ReadError → Result Shown Code
shown_with media extra =
    result_map_both (λ body. record { media = media; extra = extra; body = body }) read_refusal

-- what is asked for in the query counts as if it were preferred
abbrev pub with_iris : Prefer → Bool → Prefer
with_iris prefer iris = record { minimal = prefer.minimal; iris = prefer.iris || iris }

-- what is shown of what is read, or why it isn't, and how many steps that takes
pub record Reading : Type 0 where
  pub shown : Result Shown Code
  pub steps : ℕ

abbrev pub reading : Media → Extra → Result (List ℕ) ReadError → ℕ → Reading
reading media extra body steps = record { shown = shown_with media extra body; steps = steps }

-- What a view shows of what is read, and in how many steps. An annotation is an LDP resource (Web
-- Annotation Protocol, section 3.1), and a container an LDP container (section 4). A manifest and
-- an annotation are found by name, and changes among the activities, at no step.
abbrev pub reading_of : Site → View → Prefer → Read → Reading
reading_of site view prefer (read.Manifest name) =
    reading media.Manifest extra.Absent (manifest_of_view site view name) 0
reading_of site view prefer (read.Note owner name) =
    reading media.Annotation extra.Resource (annotation_of_view site view owner name) 0
reading_of site view prefer (read.Search manifest query) =
    reading media.Search extra.Absent
    (search_of site view manifest query) (search_cost site view manifest query)
reading_of site view prefer (read.Complete manifest ask) =
    reading media.Search extra.Absent
    (complete_of site view manifest ask) (complete_cost view manifest ask)
reading_of site view prefer (read.Canvas manifest canvas region page) =
    reading media.Manifest extra.Absent
    (canvas_page_of site view manifest canvas region page)
    (canvas_page_cost site view manifest canvas region page)
reading_of site view prefer (read.Container manifest iris) =
    reading media.Annotation extra.Container
    (container_of site view manifest (with_iris prefer iris))
    (container_cost site view manifest (with_iris prefer iris))
reading_of site view prefer (read.ContainerPage manifest page iris) =
    reading media.Annotation extra.Absent
    (container_page_of site view manifest page iris) (container_page_cost site view manifest page)
reading_of site view prefer read.Changes =
    reading media.Changes extra.Absent (Ok (changes_of site view)) 0
reading_of site view prefer (read.ChangesPage page) =
    reading media.Changes extra.Absent (changes_page_of site view page) 0
reading_of site view prefer (read.Anchors owner name page) =
    reading media.Json extra.Absent
    (anchors_of site view owner name page) (anchors_cost view owner name)
reading_of site view prefer (read.Orphans manifest page) =
    reading media.Json extra.Absent
    (orphans_of site view manifest page) (orphans_cost view manifest)
reading_of site view prefer read.Collection =
    reading media.Manifest extra.Absent (Ok (collection_of site view)) 0
reading_of site view prefer (read.GatherSearch gather) =
    reading media.Search extra.Absent
    (gather_search_of site view gather) (gather_search_cost site view gather)
reading_of site view prefer (read.GatherComplete ask) =
    reading media.Search extra.Absent
    (Ok (gather_complete_of site view ask)) (gather_complete_cost view ask)

abbrev pub shown_of : Site → View → Prefer → Read → Result Shown Code
shown_of site view prefer read = (reading_of site view prefer read).shown

-- the reply with what is shown, or with why it isn't, at a path with these methods
abbrev pub shown_reply : Allow → Result Shown Code → Reply
shown_reply methods (Ok shown) = record {
  status = status.Ok;
  allow = methods;
  media = shown.media;
  extra = shown.extra;
  body = shown.body;
}
shown_reply methods (Err refusal) = refusal_reply methods refusal

-- nobody is asked to sign, before all else
abbrev pub unless_nobody : View → Allow → Reply → Reply
unless_nobody view methods reply =
    if is_none view.who then refusal_reply methods not_signed else reply

-- the answer to a read
abbrev pub answer_of : Site → View → Prefer → Read → Reply
answer_of site view prefer read =
    unless_nobody view (read_methods read)
    (shown_reply (read_methods read) (shown_of site view prefer read))

-- the answer to a read whose query is refused
abbrev pub query_answer : View → Allow → Code → Reply
query_answer view methods refusal = unless_nobody view methods (refusal_reply methods refusal)

-- ---- writes

-- the IRI of what was written
abbrev pub object_iri : List ℕ → Object → List ℕ
object_iri base (object.Reader name) = reader_iri base name
object_iri base (object.Manifest name) = manifest_iri base name
object_iri base (object.Note owner name) = note_iri base owner name

abbrev pub bool_text : Bool → List ℕ
bool_text true = codes "true"
bool_text false = codes "false"

-- an IRI has no sign that JSON escapes
abbrev pub write_text : List ℕ → Bool → ℕ → List ℕ
write_text iri repeat version =
    codes "{\"object\":\""
    ++ (iri ++ (codes "\",\"repeat\":"
    ++ (bool_text repeat ++ (codes ",\"version\":" ++ (decimal version ++ codes "}")))))

abbrev pub write_body : List ℕ → WriteReply → List ℕ
write_body base reply = write_text (object_iri base reply.object) reply.repeat reply.version

abbrev pub write_status : Bool → Status
write_status true = status.Created
write_status false = status.Ok

-- the answer to a write that the machine decided
abbrev pub write_answer : Site → Allow → Result WriteReply Refused → Reply
write_answer site methods (Ok reply) = record {
  status = write_status reply.made;
  allow = methods;
  media = media.Json;
  extra = extra.Absent;
  body = write_body site.base reply;
}
write_answer site methods (Err error) = refusal_reply methods (write_refusal error)
