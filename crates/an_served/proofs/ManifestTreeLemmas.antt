-- How a manifest is dressed, canvas by canvas, and that no float comes into it.
use Rattle.std.proofs.Common.{◌≡◌, ℕ, ◌+◌, List, [], ◌∷◌, ◌++◌, length, codes, false, Option, Some, None, refl, sym, ap, ◌∙◌, length-append, arith}
use Rattle.std.proofs.lemmas.Bool.{or_parts, or_from}
use Rattle.serde_json.specs.Data.{Data, null, boolean, number, string, array, object, Items, no_items, item}
use Rattle.serde_json.specs.Find.{get}
use Rattle.serde_json.specs.View.{view, items_view}
use Rattle.serde_json.specs.Written.{has_float, items_have_float}
use Rattle.serde_json.specs.declared.value.Value.{Value}
use Rattle.an_base.specs.Tree.{one_or_many}
use Rattle.an_base.specs.Items.{many_if}
use Rattle.an_base.specs.Object.{with_member}
use Rattle.an_base.proofs.ObjectLemmas.{has_float-with_member}
use Rattle.an_manifest.specs.Manifest.{canvases_in}
use Rattle.an_manifest.proofs.FloatLemmas.{HasNone, HasNone-get, has_float-array_in}
use Rattle.an_iri.specs.Iris.{manifest_iri}
use Rattle.an_served.specs.Manifest.{with_last, with_one_more, with_canvas_pages, search_service, contexts, canvas_page, dressed_canvases, dressed}

-- an item that is pushed is the last
pub items_view-push : (values : List Value) (value : Value)
    → items_view (values ++ value ∷ []) ≡ with_last (view value) (items_view values)
items_view-push [] value = refl
items_view-push (first ∷ values) value = ap (item (view first)) (items_view-push values value)

pub ruleset pushing = (items_view-push)

-- the items, and others behind them
abbrev pub appended : Items → Items → Items
appended no_items more = more
appended (item first items) more = item first (appended items more)

appended-none : (items : Items) → appended items no_items ≡ items
appended-none no_items = refl
appended-none (item first items) = ap (item first) (appended-none items)

appended-push : (values : List Value) (value : Value) (more : Items)
    → appended (items_view (values ++ value ∷ [])) more
    ≡ appended (items_view values) (item (view value) more)
appended-push [] value more = refl
appended-push (first ∷ values) value more = ap (item (view first)) (appended-push values value more)

-- one canvas more is dressed
pub one_more_dressed : (base name : List ℕ) (done : List Value) (made canvas : Value)
    (left : List Value)
    → view made
    ≡ with_one_more (codes "annotations") (canvas_page base name (length done + 1)) (view canvas)
    → appended (items_view (done ++ made ∷ []))
    (dressed_canvases base name (length (done ++ made ∷ []) + 1) (items_view left))
    ≡ appended (items_view done)
    (dressed_canvases base name (length done + 1) (items_view (canvas ∷ left)))
one_more_dressed base name done made canvas left is =
    ap (λ n. appended (items_view (done ++ made ∷ []))
    (dressed_canvases base name (n + 1) (items_view left)))
    (length-append done (made ∷ []))
    ∙ appended-push done made _
    ∙ ap (λ tree. appended (items_view done)
    (item tree (dressed_canvases base name (length done + 1 + 1) (items_view left)))) is

-- no canvas is left
pub all_dressed : (base name : List ℕ) (done left : List Value) (all : Items) → length left ≡ 0
    → appended (items_view done) (dressed_canvases base name (length done + 1) (items_view left))
    ≡ all
    → items_view done ≡ all
all_dressed base name done [] all none is = sym (appended-none (items_view done)) ∙ is
all_dressed base name done (first ∷ left) all none is = absurd (omega arith)

-- ---- no float

has_float-one_or_many : (tree : Data) → has_float tree ≡ false
    → items_have_float (one_or_many tree) ≡ false
has_float-one_or_many null h = refl
has_float-one_or_many (boolean b) h = refl
has_float-one_or_many (number n) h = or_from _ false h refl
has_float-one_or_many (string text) h = refl
has_float-one_or_many (array items) h = h
has_float-one_or_many (object fields) h = or_from _ false h refl

has_float-many_if : (found : Option Data) → HasNone found → items_have_float (many_if found) ≡ false
has_float-many_if None h = refl
has_float-many_if (Some tree) h = has_float-one_or_many tree h

has_float-with_last : (value : Data) (items : Items) → has_float value ≡ false
    → items_have_float items ≡ false → items_have_float (with_last value items) ≡ false
has_float-with_last value no_items v h = or_from _ false v refl
has_float-with_last value (item first items) v h =
    let parts = or_parts (has_float first) (items_have_float items) h in
    or_from (has_float first) _ parts.0 (has_float-with_last value items v parts.1)

has_float-with_one_more : (name : List ℕ) (value tree : Data) → has_float value ≡ false
    → has_float tree ≡ false → has_float (with_one_more name value tree) ≡ false
has_float-with_one_more name value tree v t =
    has_float-with_member name (array (with_last value (many_if (get name tree)))) tree
    (has_float-with_last value (many_if (get name tree)) v
    (has_float-many_if (get name tree) (HasNone-get name tree t))) t

has_float-dressed_canvases : (base name : List ℕ) (n : ℕ) (canvases : Items)
    → items_have_float canvases ≡ false
    → items_have_float (dressed_canvases base name n canvases) ≡ false
has_float-dressed_canvases base name n no_items h = refl
has_float-dressed_canvases base name n (item canvas canvases) h =
    let parts = or_parts (has_float canvas) (items_have_float canvases) h in
    or_from _ _
    (has_float-with_one_more (codes "annotations") (canvas_page base name n) canvas refl parts.0)
    (has_float-dressed_canvases base name (n + 1) canvases parts.1)

pub has_float_dressed : (base name : List ℕ) (tree : Data) → has_float tree ≡ false
    → has_float (dressed base name tree) ≡ false
unfolding dressed contexts
has_float_dressed base name tree t =
    let canvases =
    has_float-dressed_canvases base name 1 (canvases_in tree)
    (has_float-array_in (get (codes "items") tree) (HasNone-get (codes "items") tree t)) in
    let pages : has_float (with_canvas_pages base name tree) ≡ false =
    has_float-with_member (codes "items")
    (array (dressed_canvases base name 1 (canvases_in tree))) tree canvases t in
    let services =
    has_float-with_one_more (codes "service") (search_service base name)
    (with_canvas_pages base name tree) refl pages in
    let named =
    has_float-with_member (codes "id") (string (manifest_iri base name))
    (with_one_more (codes "service") (search_service base name) (with_canvas_pages base name tree))
    refl services in
    has_float-with_member (codes "@context") (array contexts)
    (with_member (codes "id") (string (manifest_iri base name))
    (with_one_more (codes "service") (search_service base name) (with_canvas_pages base name tree)))
    refl named
