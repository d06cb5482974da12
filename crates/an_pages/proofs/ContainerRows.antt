-- Regions, canvases, containers and their pages as they are written.
use Rattle.std.proofs.Common.{◌≡◌, ℕ, [], ◌∷◌, ◌++◌, Bool, true, false, Some, None, refl}
use Rattle.std.specs.Prelude.{codes}
use Rattle.std.specs.Fmt.{digits}
use Rattle.json.specs.Print.{escape_byte}
use Rattle.serde_json.specs.Data.{no_items, item, string}
use Rattle.serde_json.specs.Written.{compact_text}
use Rattle.an_selectors.specs.declared.region.Xywh.{Xywh}
use Rattle.an_list.specs.Page.{page_iri}
use Rattle.an_list.specs.declared.page.PagedList.{PagedList}
use Rattle.an_pages.specs.Canvas.{canvas_at, canvas_whole, meets, overlap}
use Rattle.an_pages.specs.Container.{container_tree, container_whole, first_page, held_page, own_page}

-- ---- regions

region : ℕ → ℕ → ℕ → ℕ → Xywh
region x y w h = record { x = x; y = y; w = w; h = h }

row-touches_at_its_side : overlap (region 0 0 10 10) (region 10 0 5 5) ≡ false
unfolding region
row-touches_at_its_side = refl

row-touches_below : overlap (region 0 10 10 10) (region 0 0 10 10) ≡ false
unfolding region
row-touches_below = refl

row-one_pixel : overlap (region 0 0 10 10) (region 9 9 5 5) ≡ true
unfolding region
row-one_pixel = refl

row-inside : overlap (region 3 3 1 1) (region 0 0 10 10) ≡ true
unfolding region
row-inside = refl

row-whole_canvas : meets (Some (region 3 3 1 1)) None ≡ true
row-whole_canvas = refl

row-no_region_asked : meets None (Some (region 3 3 1 1)) ≡ true
row-no_region_asked = refl

-- ---- canvases

row-no_canvas_0 : canvas_at 0 (codes "a" ∷ codes "b" ∷ []) ≡ None
row-no_canvas_0 = refl

row-first_canvas : canvas_at 1 (codes "a" ∷ codes "b" ∷ []) ≡ Some (codes "a")
row-first_canvas = refl

row-past_the_last : canvas_at 3 (codes "a" ∷ codes "b" ∷ []) ≡ None
row-past_the_last = refl

row-page_of_a_region :
    page_iri (canvas_whole (codes "http://a.example") (codes "m1") 2 (Some (region 1 20 300 4))) 3
    ≡ codes "http://a.example/manifests/m1/canvases/2?xywh=1%2C20%2C300%2C4&page=3"
unfolding region digits
row-page_of_a_region = refl

row-page_of_a_canvas : page_iri (canvas_whole (codes "http://a.example") (codes "m1") 2 None) 3
    ≡ codes "http://a.example/manifests/m1/canvases/2?page=3"
unfolding digits
row-page_of_a_canvas = refl

-- ---- a container of three annotations, two on a page

birds : Bool → PagedList
birds iris = container_whole (codes "http://a.example") (codes "m1") iris

row-minimal :
    compact_text (container_tree (birds false) (first_page (birds false) true 2 3 no_items) 2 3) ≡ (
    codes "{\"@context\":[\"http://www.w3.org/ns/anno.jsonld\"," ++ (
    codes "\"http://www.w3.org/ns/ldp.jsonld\"]," ++ (
    codes "\"first\":\"http://a.example/manifests/m1/annotations/?page=1\"," ++ (
    codes "\"id\":\"http://a.example/manifests/m1/annotations/\"," ++ (
    codes "\"last\":\"http://a.example/manifests/m1/annotations/?page=2\"," ++
    codes "\"total\":3,\"type\":[\"BasicContainer\",\"AnnotationCollection\"]}")))))
unfolding birds container_tree digits escape_byte
row-minimal = refl

row-first_of_iris : compact_text
    (first_page (birds true) false 2 3
    (item (string (codes "http://a.example/annotations/mara/n1")) no_items)) ≡ (
    codes "{\"id\":\"http://a.example/manifests/m1/annotations/?iris=1&page=1\"," ++ (
    codes "\"items\":[\"http://a.example/annotations/mara/n1\"]," ++ (
    codes "\"next\":\"http://a.example/manifests/m1/annotations/?iris=1&page=2\"," ++
    codes "\"startIndex\":0,\"type\":\"AnnotationPage\"}")))
unfolding birds held_page digits escape_byte
row-first_of_iris = refl

row-last_page : compact_text (own_page (birds false) 2 2 3 no_items) ≡ (
    codes "{\"@context\":\"http://www.w3.org/ns/anno.jsonld\"," ++ (
    codes "\"id\":\"http://a.example/manifests/m1/annotations/?page=2\",\"items\":[]," ++ (
    codes "\"partOf\":{\"id\":\"http://a.example/manifests/m1/annotations/\"," ++ (
    codes "\"total\":3,\"type\":[\"BasicContainer\",\"AnnotationCollection\"]}," ++ (
    codes "\"prev\":\"http://a.example/manifests/m1/annotations/?page=1\"," ++
    codes "\"startIndex\":2,\"type\":\"AnnotationPage\"}")))))
unfolding birds own_page held_page digits escape_byte
row-last_page = refl

row-empty :
    compact_text (container_tree (birds true) (first_page (birds true) false 2 0 no_items) 2 0) ≡ (
    codes "{\"@context\":[\"http://www.w3.org/ns/anno.jsonld\"," ++ (
    codes "\"http://www.w3.org/ns/ldp.jsonld\"]," ++ (
    codes "\"first\":{\"id\":\"http://a.example/manifests/m1/annotations/?iris=1&page=1\"," ++ (
    codes "\"items\":[],\"startIndex\":0,\"type\":\"AnnotationPage\"}," ++ (
    codes "\"id\":\"http://a.example/manifests/m1/annotations/\"," ++ (
    codes "\"last\":\"http://a.example/manifests/m1/annotations/?iris=1&page=1\"," ++
    codes "\"total\":0,\"type\":[\"BasicContainer\",\"AnnotationCollection\"]}"))))))
unfolding birds container_tree held_page digits escape_byte
row-empty = refl
