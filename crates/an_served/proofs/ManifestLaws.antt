-- What of a manifest stays where it is served.
use Rattle.std.proofs.Common.{◌≡◌, ℕ, ◌+◌, List, [], ◌∷◌, false, true≢false, codes, bytes_eq, option_and_then, unwrap_or, refl, sym, ap, ◌∙◌}
use Rattle.std.proofs.lemmas.Bool.{or_parts}
use Rattle.std.proofs.lemmas.Slice.Eq.{bytes_eq-Decides}
use Rattle.serde_json.specs.Data.{Data, null, boolean, number, string, array, object, Items, no_items, item}
use Rattle.serde_json.specs.Find.{get, as_str}
use Rattle.serde_json.proofs.Views.{get_member-put, get_member-put_other}
use Rattle.an_base.specs.Items.{trees_in}
use Rattle.an_base.specs.Object.{with_member}
use Rattle.an_manifest.specs.Shape.{canvas_ids}
use Rattle.an_manifest.specs.Manifest.{array_in, canvases_in, canvases_of}
use Rattle.an_iri.specs.Iris.{manifest_iri}
use Rattle.an_served.specs.Manifest.{with_last, with_one_more, canvas_page, dressed_canvases, with_canvas_pages, search_service, contexts, dressed, is_dressed}

pub apart : (name other : List ℕ) → bytes_eq name other ≡ false → name ≡ other → ⊥
apart name other e same = true≢false (sym ((bytes_eq-Decides name other).1 same) ∙ e)

get-with_member_other : (name other : List ℕ) (value tree : Data) → bytes_eq other name ≡ false
    → get other (with_member name value tree) ≡ get other tree
get-with_member_other name other value null e = refl
get-with_member_other name other value (boolean b) e = refl
get-with_member_other name other value (number n) e = refl
get-with_member_other name other value (string text) e = refl
get-with_member_other name other value (array items) e = refl
get-with_member_other name other value (object fields) e =
    get_member-put_other other name value fields (apart other name e)

get-with_one_more : (name other : List ℕ) (value tree : Data) → bytes_eq other name ≡ false
    → get other (with_one_more name value tree) ≡ get other tree
get-with_one_more name other value tree e =
    get-with_member_other name other (array (with_last value (trees_in name tree))) tree e

-- a member that is neither the context nor the IRI nor a service is that of the manifest with its
-- pages
get-dressed : (base name other : List ℕ) (tree : Data) → bytes_eq other (codes "@context") ≡ false
    → bytes_eq other (codes "id") ≡ false → bytes_eq other (codes "service") ≡ false
    → get other (dressed base name tree) ≡ get other (with_canvas_pages base name tree)
unfolding dressed
get-dressed base name other tree c i s =
    let paged = with_canvas_pages base name tree in
    let served = with_one_more (codes "service") (search_service base name) paged in
    get-with_member_other (codes "@context") other (array contexts)
    (with_member (codes "id") (string (manifest_iri base name)) served) c
    ∙ get-with_member_other (codes "id") other (string (manifest_iri base name)) served i
    ∙ get-with_one_more (codes "service") other (search_service base name) paged s

pub others : (base name other : List ℕ) (tree : Data) → is_dressed other ≡ false
    → get other (dressed base name tree) ≡ get other tree
others base name other tree h =
    let from_id = or_parts (bytes_eq other (codes "@context")) _ h in
    let from_items = or_parts (bytes_eq other (codes "id")) _ from_id.1 in
    let from_service = or_parts (bytes_eq other (codes "items")) _ from_items.1 in
    let service = or_parts (bytes_eq other (codes "service")) false from_service.1 in
    get-dressed base name other tree from_id.0 from_items.0 service.0
    ∙ get-with_member_other (codes "items") other
    (array (dressed_canvases base name 1 (canvases_in tree))) tree from_service.0

canvas_ids-dressed : (base name : List ℕ) (n : ℕ) (canvases : Items)
    → canvas_ids (dressed_canvases base name n canvases) ≡ canvas_ids canvases
canvas_ids-dressed base name n no_items = refl
canvas_ids-dressed base name n (item canvas canvases) =
    let same =
    get-with_one_more (codes "annotations") (codes "id") (canvas_page base name n) canvas refl in
    ap (λ found. unwrap_or (option_and_then as_str found) []
    ∷ canvas_ids (dressed_canvases base name (n + 1) canvases)) same
    ∙ ap (λ ids. unwrap_or (option_and_then as_str (get (codes "id") canvas)) [] ∷ ids)
    (canvas_ids-dressed base name (n + 1) canvases)

canvas_ids-paged : (base name : List ℕ) (tree : Data)
    → canvas_ids (canvases_in (with_canvas_pages base name tree)) ≡ canvas_ids (canvases_in tree)
canvas_ids-paged base name null = refl
canvas_ids-paged base name (boolean b) = refl
canvas_ids-paged base name (number n) = refl
canvas_ids-paged base name (string text) = refl
canvas_ids-paged base name (array items) = refl
canvas_ids-paged base name (object fields) =
    let canvases = canvases_in (object fields) in
    ap (λ found. canvas_ids (array_in found))
    (get_member-put (codes "items") (array (dressed_canvases base name 1 canvases)) fields)
    ∙ canvas_ids-dressed base name 1 canvases

pub ids : (base name : List ℕ) (tree : Data)
    → canvases_of (dressed base name tree) ≡ canvases_of tree
ids base name tree =
    ap (λ found. canvas_ids (array_in found))
    (get-dressed base name (codes "items") tree refl refl refl)
    ∙ canvas_ids-paged base name tree
