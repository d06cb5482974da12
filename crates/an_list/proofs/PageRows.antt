-- Pages as they are written.
use Rattle.std.proofs.Common.{◌≡◌, ℕ, List, [], ◌∷◌, ◌++◌, refl}
use Rattle.std.specs.Prelude.{codes}
use Rattle.std.specs.Fmt.{digits}
use Rattle.json.specs.Print.{escape_byte}
use Rattle.serde_json.specs.Data.{string, object, Items, no_items, item, member, no_members}
use Rattle.serde_json.specs.Written.{compact_text}
use Rattle.an_list.specs.Page.{whole_iri, page_iri, list_page}
use Rattle.an_list.specs.declared.page.PagedList.{PagedList}

-- ---- the IRIs of a list with parameters, and of one without

herons : PagedList
herons = record { path = codes "http://a.example/search/m1"; parameters = codes "q=heron" }

birds : PagedList
birds = record { path = codes "http://a.example/p/1"; parameters = [] }

row-search : whole_iri herons ≡ codes "http://a.example/search/m1?q=heron"
unfolding herons
row-search = refl

row-page_of_search : page_iri herons 12 ≡ codes "http://a.example/search/m1?q=heron&page=12"
unfolding herons digits
row-page_of_search = refl

row-list : whole_iri birds ≡ codes "http://a.example/p/1"
unfolding birds
row-list = refl

row-page_of_list : page_iri birds 1 ≡ codes "http://a.example/p/1?page=1"
unfolding birds digits
row-page_of_list = refl

-- ---- pages behind the first of a search, with no items, of so many annotations, of this size

search_context : List ℕ
search_context = codes "http://iiif.io/api/search/2/context.json"

behind_first : ℕ → ℕ → ℕ → List ℕ
behind_first page size total =
    compact_text (list_page search_context herons page size total no_items no_items [])

row-last_of_two : behind_first 2 2 4 ≡ (
    codes "{\"@context\":\"http://iiif.io/api/search/2/context.json\"," ++ (
    codes "\"id\":\"http://a.example/search/m1?q=heron&page=2\",\"items\":[]," ++ (
    codes "\"partOf\":{\"first\":{\"id\":\"http://a.example/search/m1?q=heron&page=1\"," ++ (
    codes "\"type\":\"AnnotationPage\"},\"id\":\"http://a.example/search/m1?q=heron\"," ++ (
    codes "\"last\":{\"id\":\"http://a.example/search/m1?q=heron&page=2\"," ++ (
    codes "\"type\":\"AnnotationPage\"},\"total\":4,\"type\":\"AnnotationCollection\"}," ++ (
    codes "\"prev\":{\"id\":\"http://a.example/search/m1?q=heron&page=1\"," ++ (
    codes "\"type\":\"AnnotationPage\"},\"startIndex\":2,\"type\":\"AnnotationPage\"}"))))))))
unfolding behind_first herons search_context list_page escape_byte digits
row-last_of_two = refl

row-last_of_three : behind_first 3 2 5 ≡ (
    codes "{\"@context\":\"http://iiif.io/api/search/2/context.json\"," ++ (
    codes "\"id\":\"http://a.example/search/m1?q=heron&page=3\",\"items\":[]," ++ (
    codes "\"partOf\":{\"first\":{\"id\":\"http://a.example/search/m1?q=heron&page=1\"," ++ (
    codes "\"type\":\"AnnotationPage\"},\"id\":\"http://a.example/search/m1?q=heron\"," ++ (
    codes "\"last\":{\"id\":\"http://a.example/search/m1?q=heron&page=3\"," ++ (
    codes "\"type\":\"AnnotationPage\"},\"total\":5,\"type\":\"AnnotationCollection\"}," ++ (
    codes "\"prev\":{\"id\":\"http://a.example/search/m1?q=heron&page=2\"," ++ (
    codes "\"type\":\"AnnotationPage\"},\"startIndex\":4,\"type\":\"AnnotationPage\"}"))))))))
unfolding behind_first herons search_context list_page escape_byte digits
row-last_of_three = refl

-- ---- the first of three pages of a list without parameters, with a mark, and a name ignored

one : List ℕ → Items
one id = item (object (member (codes "id") (string id) no_members)) no_items

row-marked : compact_text
    (list_page (codes "c") birds 1 1 3 (one (codes "a1")) (one (codes "m1")) (codes "foo" ∷ [])) ≡ (
    codes "{\"@context\":\"c\",\"annotations\":[{\"id\":\"http://a.example/p/1?page=1#match\"," ++ (
    codes "\"items\":[{\"id\":\"m1\"}],\"type\":\"AnnotationPage\"}]," ++ (
    codes "\"id\":\"http://a.example/p/1?page=1\",\"ignored\":[\"foo\"]," ++ (
    codes "\"items\":[{\"id\":\"a1\"}],\"next\":{\"id\":\"http://a.example/p/1?page=2\"," ++ (
    codes "\"type\":\"AnnotationPage\"}," ++ (
    codes "\"partOf\":{\"first\":{\"id\":\"http://a.example/p/1?page=1\"," ++ (
    codes "\"type\":\"AnnotationPage\"},\"id\":\"http://a.example/p/1\"," ++ (
    codes "\"last\":{\"id\":\"http://a.example/p/1?page=3\",\"type\":\"AnnotationPage\"}," ++ (
    codes "\"total\":3,\"type\":\"AnnotationCollection\"}," ++ (
    codes "\"startIndex\":0,\"type\":\"AnnotationPage\"}"))))))))))
unfolding birds one list_page escape_byte digits
row-marked = refl
