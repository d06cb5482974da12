-- Streams at `http://a.example`, two activities a page, as they are written.
use Rattle.std.proofs.Common.{◌≡◌, ℕ, List, [], ◌∷◌, ◌++◌, pos, refl, Err, Ok}
use Rattle.std.specs.Prelude.{codes, None}
use Rattle.std.specs.Fmt.{digits}
use Rattle.json.specs.Print.{escape_byte}
use Rattle.an_base.specs.Moment.{date_time_after, days_of_months, moment_text}
use Rattle.an_policy.specs.declared.kind.Kind.TheVariants.{Create, Update, Delete}
use Rattle.an_state.specs.View.{View}
use Rattle.an_state.specs.declared.activity.Seen.{Seen}
use Rattle.an_state.specs.declared.command.Object.TheVariants.{Manifest, Note}
use Rattle.an_list.specs.Site.{Site}
use Rattle.an_stream.specs.Activity.{activity}
use Rattle.an_stream.specs.Stream.{changes_of, changes_page_of, page_of_stream, stream_page}
use Rattle.an_list.specs.declared.error.ReadError.TheVariants.{NoPage}

unfoldable changes_on_literals : Unit {0}
unfolding activity stream_page page_of_stream moment_text date_time_after days_of_months
    escape_byte digits
changes_on_literals = tt

abbrev site : Site
site = record { base = codes "http://a.example"; size = 2 }

abbrev made : Seen
made = record { moment = pos 1_714_557_600; object = Manifest (codes "m1"); kind = Create }

abbrev changed : Seen
changed =
    record { moment = pos 1_714_557_660; object = Note (codes "mara") (codes "n1"); kind = Update }

abbrev hidden : Seen
hidden =
    record { moment = pos 1_714_557_720; object = Note (codes "mara") (codes "n1"); kind = Delete }

-- the view of a caller who sees these
abbrev view : List Seen → View
view seen = record { who = None; manifests = []; notes = []; seen = seen }

abbrev three : View
three = view (made ∷ changed ∷ hidden ∷ [])

-- ---- the stream

abbrev stream : List ℕ → List ℕ → List ℕ
stream last total =
    codes "{\"@context\":\"http://iiif.io/api/discovery/1/context.json\"," ++ (
    codes
    "\"first\":{\"id\":\"http://a.example/changes?page=1\",\"type\":\"OrderedCollectionPage\"},"
    ++ (
    codes "\"id\":\"http://a.example/changes\",\"last\":{\"id\":\"http://a.example/changes?page="
    ++ (last ++ (
    codes "\",\"type\":\"OrderedCollectionPage\"},\"totalItems\":" ++ (total ++
    codes ",\"type\":\"OrderedCollection\"}")))))

row-no_changes : changes_of site (view []) ≡ stream (codes "1") (codes "0")
unfolding changes_on_literals
row-no_changes = refl

row-full_page : changes_of site (view (made ∷ changed ∷ [])) ≡ stream (codes "1") (codes "2")
unfolding changes_on_literals
row-full_page = refl

row-three : changes_of site three ≡ stream (codes "2") (codes "3")
unfolding changes_on_literals
row-three = refl

-- ---- its pages

first_page : List ℕ
first_page =
    codes "{\"@context\":\"http://iiif.io/api/discovery/1/context.json\"," ++ (
    codes "\"id\":\"http://a.example/changes?page=1\"," ++ (
    codes
    "\"next\":{\"id\":\"http://a.example/changes?page=2\",\"type\":\"OrderedCollectionPage\"}," ++ (
    codes "\"orderedItems\":[{\"endTime\":\"2024-05-01T10:00:00Z\"," ++ (
    codes
    "\"object\":{\"id\":\"http://a.example/manifests/m1\",\"type\":\"Manifest\"},\"type\":\"Create\"},"
    ++ (
    codes "{\"endTime\":\"2024-05-01T10:01:00Z\"," ++ (
    codes
    "\"object\":{\"id\":\"http://a.example/annotations/mara/n1\",\"type\":\"Annotation\"},\"type\":\"Update\"}],"
    ++ (
    codes "\"partOf\":{\"id\":\"http://a.example/changes\",\"type\":\"OrderedCollection\"}," ++ (
    codes "\"startIndex\":0,\"type\":\"OrderedCollectionPage\"}"))))))))

row-first_page : changes_page_of site three 1 ≡ Ok first_page
unfolding changes_on_literals first_page
row-first_page = refl

row-before_the_first : changes_page_of site three 0 ≡ Err (NoPage 2)
unfolding changes_on_literals
row-before_the_first = refl

row-last_page : changes_page_of site three 2 ≡ Ok (
    codes "{\"@context\":\"http://iiif.io/api/discovery/1/context.json\"," ++ (
    codes "\"id\":\"http://a.example/changes?page=2\"," ++ (
    codes "\"orderedItems\":[{\"endTime\":\"2024-05-01T10:02:00Z\"," ++ (
    codes
    "\"object\":{\"id\":\"http://a.example/annotations/mara/n1\",\"type\":\"Annotation\"},\"type\":\"Delete\"}],"
    ++ (
    codes "\"partOf\":{\"id\":\"http://a.example/changes\",\"type\":\"OrderedCollection\"}," ++ (
    codes
    "\"prev\":{\"id\":\"http://a.example/changes?page=1\",\"type\":\"OrderedCollectionPage\"}," ++ (
    codes "\"startIndex\":2,\"type\":\"OrderedCollectionPage\"}")))))))
unfolding changes_on_literals
row-last_page = refl

row-past_the_last : changes_page_of site three 3 ≡ Err (NoPage 2)
unfolding changes_on_literals
row-past_the_last = refl

row-only_page_of_none : changes_page_of site (view []) 1 ≡ Ok (
    codes "{\"@context\":\"http://iiif.io/api/discovery/1/context.json\"," ++ (
    codes "\"id\":\"http://a.example/changes?page=1\",\"orderedItems\":[]," ++ (
    codes "\"partOf\":{\"id\":\"http://a.example/changes\",\"type\":\"OrderedCollection\"}," ++ (
    codes "\"startIndex\":0,\"type\":\"OrderedCollectionPage\"}"))))
unfolding changes_on_literals
row-only_page_of_none = refl

row-none_past_the_last : changes_page_of site (view []) 2 ≡ Err (NoPage 1)
unfolding changes_on_literals
row-none_past_the_last = refl
